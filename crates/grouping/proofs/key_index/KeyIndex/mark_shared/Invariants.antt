use Rattle.std.proofs.Common.{[], ◌<◌, ◌≤◌, get_or, length}
use Rattle.grouping.specs.Index.{keys_less, keys_of}
use Rattle.grouping.proofs.Shares.{AreMarked}
use Rattle.grouping.proofs.key_index.KeyIndex.mark_shared.Given as goal

abbrev pub invariant-loop-group : goal.invariant-loop-group
invariant-loop-group g l =
    AreMarked l.self l.other l.group l.shared
    × (l.group < length (keys_of l.self) → l.place ≤ keys_less l.other (get_or (keys_of l.self) l.group []))
