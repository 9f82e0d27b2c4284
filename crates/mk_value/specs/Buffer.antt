-- What a contract sees of a text or a byte string.
use Rattle.std.specs.Prelude.{ℕ, List}

-- its bytes, and how many more may be appended before memory is asked for
pub record Buffer : Type 0 where
  pub bytes : List ℕ
  pub spare : ℕ
