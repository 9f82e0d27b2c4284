-- What the stock viewers take, and what contracts see of one.
use Rattle.std.specs.Prelude.{ℕ, List, [], ◌∷◌}
use Rattle.mk_value.specs.Heading.{Domain}
use Rattle.viewers.specs.declared.law.Law.{Law}
use Rattle.viewers.specs.declared.law.Law.TheVariants.{Length, Twice, Sum}

abbrev pub kinds_taken : Law → List Domain
kinds_taken Length = Domain.text ∷ []
kinds_taken Twice = Domain.integer ∷ []
kinds_taken Sum = Domain.integer ∷ Domain.integer ∷ []

-- a viewer that answers by a law
pub record Lawful : Type 0 where
  pub name : List ℕ
  pub law : Law
