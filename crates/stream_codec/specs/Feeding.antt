-- The next piece of a stream.
use Rattle.std.specs.Prelude.{◌≡◌, ℕ, ◌-◌, ◌<◌, List, [], ◌∷◌, ◌++◌}
use Rattle.stream_codec.specs.Fields.{Due, field_len}
use Rattle.stream_codec.specs.Loading.{came, IsUnderWay}
use Rattle.stream_codec.specs.declared.progress.Progress.{Progress}

-- how many bytes the first field that is due wants behind so many
abbrev pub IsMissing : List Due → ℕ → ℕ → Type 0
IsMissing [] waiting missing = missing ≡ 0
IsMissing (d ∷ due) waiting missing = (missing ≡ field_len d - waiting) × (0 < field_len d)

-- these are the bytes that came and those that wait
pub record Loads (bytes : List ℕ) (p : Progress) (waiting : List ℕ) : Type 0 where
  pub under_way : IsUnderWay p waiting
  pub spells : came p ++ waiting ≡ bytes
