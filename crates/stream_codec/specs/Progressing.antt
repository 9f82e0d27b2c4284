-- Why a piece of a stream is refused.
use Rattle.std.specs.Prelude.{◌≡◌, ℕ, ◌+◌, ◌<◌, ◌⊎◌, List, [], length, take}
use Rattle.stream_codec.specs.declared.error.LoadError.{LoadError}
use Rattle.stream_codec.specs.declared.error.LoadError.TheVariants.{At, Memory}
use Rattle.stream_codec.specs.Fields.{Due}
use Rattle.stream_codec.specs.Steps.{Leads, Refuses}

-- nothing is due behind so many of these bytes, but a byte is there
pub record LeadsToEnd (due : List Due) (bytes : List ℕ) (count : ℕ) : Type 0 where
  pub within : count < length bytes
  pub leads : Leads due (take count bytes) []

-- a field of the piece, whose first byte is at the place, is wrong, or a byte stands behind the last one
abbrev pub RefusesAlong : List Due → List ℕ → ℕ → LoadError → Type 0
RefusesAlong due bytes place (At wrong) = Refuses due bytes place (At wrong) ⊎ ((count : ℕ) × (wrong ≡ place + count) × LeadsToEnd due bytes count)
RefusesAlong due bytes place Memory = Unit {0}
