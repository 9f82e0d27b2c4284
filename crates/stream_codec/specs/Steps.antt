-- What the reading of a field gives: the way over its bytes, or what is wrong within them.
use Rattle.std.specs.Prelude.{◌≡◌, ℕ, ◌+◌, ◌≤◌, ◌<◌, List, [], ◌∷◌, ◌++◌, length, drop}
use Rattle.stream_codec.specs.declared.error.LoadError.{LoadError}
use Rattle.stream_codec.specs.declared.error.LoadError.TheVariants.{At, Memory}
use Rattle.stream_codec.specs.Fields.{Due, field_len, Goes, IsWrong}

-- Over these bytes one comes from these dues to those left, whatever comes behind the bytes.
pub record Leads (due : List Due) (bytes : List ℕ) (left : List Due) : Type 0 where
  pub goes : (rest : List ℕ) → Goes due (bytes ++ rest) left rest

-- Behind so many of these bytes stands a field that is wrong, whatever comes behind the bytes.
pub record LeadsToWrong (due : List Due) (bytes : List ℕ) (count : ℕ) : Type 0 where
  pub field : Due
  pub left : List Due
  pub within : count ≤ length bytes
  pub goes : (rest : List ℕ) → Goes due (bytes ++ rest) (field ∷ left) (drop count bytes ++ rest)
  pub wrong : (rest : List ℕ) → IsWrong (field ∷ left) (drop count bytes ++ rest)

-- why these bytes, the first of which is at the place, are refused
abbrev pub Refuses : List Due → List ℕ → ℕ → LoadError → Type 0
Refuses due bytes place (At wrong) = (count : ℕ) × (wrong ≡ place + count) × LeadsToWrong due bytes count
Refuses due bytes place Memory = Unit {0}

-- bytes that may wait for more: fewer than the first field that is due has, and none where nothing is due
abbrev pub MayWait : List Due → List ℕ → Type 0
MayWait [] bytes = bytes ≡ []
MayWait (d ∷ due) bytes = length bytes < field_len d

-- how many bytes the first field has that is due
abbrev pub first_len : List Due → ℕ
first_len [] = 0
first_len (d ∷ due) = field_len d
