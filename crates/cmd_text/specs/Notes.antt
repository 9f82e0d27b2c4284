-- The notes of commits.
use Rattle.std.specs.Prelude.{ℕ, ◌≤◌, List, length}
use Rattle.mk_value.specs.Data.{IsText}

-- the most bytes of a note
abbrev pub max_note : ℕ
max_note = 255

-- a note: a text of few bytes, or none
pub record IsNote (note : List ℕ) : Type 0 where
  pub text : IsText note
  pub short : length note ≤ max_note
