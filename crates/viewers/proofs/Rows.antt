-- Rows of so many values.
use Rattle.std.proofs.Common.{◌≡◌, pos, ◌+ℤ◌, [], ◌∷◌, List, get_or, refl}
use Rattle.mk_value.specs.Heading.{Domain}
use Rattle.mk_value.specs.Data.{Datum, integer}
use Rattle.mk_value.specs.Tables.{number_in}
use Rattle.viewers.specs.Laws.{AreArguments, gives}
use Rattle.viewers.specs.declared.law.Law.TheVariants.{Sum}

pub sum_given : (d e : Domain) (row : List Datum) → AreArguments (d ∷ e ∷ []) row → gives Sum row ≡ number_in (get_or row 0 (integer (pos 0))) +ℤ number_in (get_or row 1 (integer (pos 0)))
sum_given d e [] h = refl
sum_given d e (x ∷ []) h = absurd h.1
sum_given d e (x ∷ y ∷ []) h = refl
sum_given d e (x ∷ y ∷ z ∷ row) h = absurd h.1.1
