-- What is known of a viewer.
use Rattle.std.specs.Prelude.{ℕ, ℤ, List}
use Rattle.mk_value.specs.Data.{Datum}
use Rattle.mk_value.specs.Heading.{Domain}

-- its name, the domains of its arguments, and the number that it gives for each row of them
pub record Meaning : Type 0 where
  pub name : List ℕ
  pub takes : List Domain
  pub gives : List Datum → ℤ
