use Rattle.std.proofs.Common.{[], ◌≤◌, get_or}
use Rattle.grouping.specs.Index.{keys_less, keys_of}
use Rattle.grouping.proofs.key_index.KeyIndex.reach.Given as goal

abbrev pub invariant-loop-place : goal.invariant-loop-place
invariant-loop-place g l = l.place ≤ keys_less l.self (get_or (keys_of l.other) l.group [])
