use Rattle.std.proofs.Common.{refl, sym, subst, inr}
use Rattle.std.specs.Str.{IsUtf8}
use Rattle.dir_codec.proofs.Ascii.{Spells-utf8}
use Rattle.dir_codec.proofs.views.read_structure_text.Goals as goal

pub returns-in_default : goal.returns-in_default
returns-in_default c = inr (refl, inr (λ name schema spells. c.in_default.ensures.cases.0 (subst IsUtf8 (sym c.in_ok-field.ensures.1) (Spells-utf8 _ name schema spells))))
