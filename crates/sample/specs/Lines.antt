-- The lines of a sample. No line before the first refusal is refused, so the number of rows follows from the lines before.
use Rattle.std.specs.Prelude.{◌≢◌, ℕ, zero, suc, Bool, List, [], ◌∷◌, ◌++◌, codes, nat_eq}
use Rattle.std.specs.List.{starts_with}
use Rattle.sample.specs.Edits.{edit_line, edit_of, rows_after}
use Rattle.sample.specs.Numbers.{drawn, next_state}
use Rattle.sample.specs.declared.edit.Edit.{Edit}
use Rattle.sample.specs.declared.place.Place.{Place}

-- the edit that is drawn there
abbrev pub edit_at : Place → Edit
edit_at place = edit_of (drawn (next_state place.state)) place.rows

abbrev pub after_edit : Place → Place
after_edit place = record { state = next_state place.state; rows = rows_after (edit_at place) place.rows }

-- the lines of so many edits, and where the sample stands after them
abbrev pub edit_lines : ℕ → Place → List (List ℕ)
edit_lines zero place = []
edit_lines (suc edits) place = edit_line (edit_at place) ∷ edit_lines edits (after_edit place)

abbrev pub place_after : ℕ → Place → Place
place_after zero place = place
place_after (suc edits) place = place_after edits (after_edit place)

-- A sample begins with the state that is its number and an empty view.
abbrev pub beginning : ℕ → Place
beginning number = record { state = number; rows = 0 }

abbrev pub first_line : List ℕ
first_line = codes "getas item[id:I,name:S,qty:L]"

abbrev pub last_line : List ℕ
last_line = codes "commit"

abbrev pub sample_lines : ℕ → ℕ → List (List ℕ)
sample_lines number edits = first_line ∷ (edit_lines edits (beginning number) ++ last_line ∷ [])

-- the number of rows that a sample counts, in order to edit only rows that are there
abbrev pub sample_size : ℕ → ℕ → ℕ
sample_size number edits = (place_after edits (beginning number)).rows

-- the line begins with neither a space nor the first letter of `quit`
abbrev pub BeginsWithVerb : List ℕ → Type 0
BeginsWithVerb [] = ⊥
BeginsWithVerb (byte ∷ bytes) = (byte ≢ 32) × (byte ≢ 113)

-- a line that adds a row, and one that removes a row
abbrev pub adds : List ℕ → Bool
adds line = starts_with nat_eq line (codes "add ")

abbrev pub removes : List ℕ → Bool
removes line = starts_with nat_eq line (codes "remove ")
