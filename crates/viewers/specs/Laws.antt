-- What viewers may be asked, and what they answer.
use Rattle.std.specs.Prelude.{ℤ, pos, ◌+ℤ◌, ◌*ℤ◌, List, [], ◌∷◌, length}
use Rattle.std.specs.List.{AllZip}
use Rattle.mk_value.specs.Heading.{Domain}
use Rattle.mk_value.specs.Data.{Datum, text, IsOf}
use Rattle.mk_value.specs.Tables.{number_in}
use Rattle.viewers.specs.declared.law.Law.{Law}
use Rattle.viewers.specs.declared.law.Law.TheVariants.{Length, Twice, Sum}

-- a row of arguments: one value of each domain, in their order
abbrev pub AreArguments : List Domain → List Datum → Type 0
AreArguments takes row = AllZip IsOf row takes

-- the number of bytes of a text; of another value 0
abbrev pub size_of : Datum → ℤ
size_of (text content) = pos (length content)
size_of _ = pos 0

-- the number of bytes of the one text; two times the one number; the sum of the two numbers. Of other rows 0, which no viewer is asked
abbrev pub gives : Law → List Datum → ℤ
gives Length (d ∷ []) = size_of d
gives Twice (d ∷ []) = pos 2 *ℤ number_in d
gives Sum (d ∷ e ∷ []) = number_in d +ℤ number_in e
gives _ _ = pos 0
