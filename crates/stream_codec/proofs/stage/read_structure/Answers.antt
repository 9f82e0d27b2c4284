use Rattle.std.proofs.Common.{refl, inr}
use Rattle.stream_codec.proofs.Ascii.{Spells-utf8}
use Rattle.stream_codec.proofs.stage.read_structure.Goals as goal

pub returns-in_default : goal.returns-in_default
returns-in_default c = inr (refl, λ name schema spells. c.in_default.ensures.cases.0 (Spells-utf8 _ name schema spells))
