-- Why bytes are not the values that they are said to be.
use Rattle.std.specs.Prelude.{◌≡◌, ◌≢◌, ℕ, ◌+◌, List, length}
use Rattle.bit_pack.specs.declared.widths.Width.{Width}
use Rattle.bit_pack.specs.declared.error.PackError.{PackError}
use Rattle.bit_pack.specs.declared.error.PackError.TheVariants.{Length, Padding, NotLeast, Memory}
use Rattle.bit_pack.specs.Width.{IsLeastWidth}
use Rattle.bit_pack.specs.Packed.{packed_len, values_from, HasPadding}

-- there are just as many bytes as n values take, and no bit is set past the last value
pub record IsWhole (w : Width) (n : ℕ) (bytes : List ℕ) : Type 0 where
  pub len : length bytes ≡ packed_len w n
  pub clean : ¬ HasPadding w bytes n

-- The cause of each error. No two of them are met together, and none is met by packed bytes but that of Memory.
abbrev pub IsRefusal : Width → ℕ → List ℕ → PackError → Type 0
IsRefusal w n bytes (Length expected given) = (length bytes ≢ packed_len w n) × (expected ≡ packed_len w n) × (given ≡ length bytes)
IsRefusal w n bytes (Padding place) = (length bytes ≡ packed_len w n) × HasPadding w bytes n × (place + 1 ≡ length bytes)
IsRefusal w n bytes (NotLeast given least) = IsWhole w n bytes × (given ≡ w) × (least ≢ w) × IsLeastWidth least (values_from w bytes 0 n)
IsRefusal w n bytes Memory = IsWhole w n bytes × IsLeastWidth w (values_from w bytes 0 n)
