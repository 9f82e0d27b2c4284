-- What contracts see of a list of events told: the list, and of how many watches it takes all that they may tell, without memory.
use Rattle.std.specs.Prelude.{ℕ, List}
use Rattle.live.specs.declared.out.Told.{Told}

pub record OutState : Type 0 where
  pub told : List Told
  pub spare : ℕ
