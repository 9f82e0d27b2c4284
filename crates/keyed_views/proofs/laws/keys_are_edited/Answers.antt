use Rattle.std.proofs.Common.{take}
use Rattle.keyed_views.proofs.Hashing.{map_edits}
use Rattle.keyed_views.proofs.laws.keys_are_edited.Goals as goal

pub returns : goal.returns
returns c = λ count edits row rows. map_edits (take count) edits row rows
