-- How far a sample has come, as the lines that are left of it.
use Rattle.std.specs.Prelude.{ℕ, List, [], ◌∷◌, ◌++◌}
use Rattle.sample.specs.Lines.{edit_lines, first_line, last_line}
use Rattle.sample.specs.declared.place.Place.{Place}
use Rattle.sample.specs.declared.sample.Stage.{Stage}
use Rattle.sample.specs.declared.sample.Stage.TheVariants.{First, Edits, Over}

abbrev pub edits_left : Stage → ℕ
edits_left (First edits) = edits
edits_left (Edits edits) = edits
edits_left Over = 0

abbrev pub left_at : Stage → Place → List (List ℕ)
left_at (First edits) place = first_line ∷ (edit_lines edits place ++ last_line ∷ [])
left_at (Edits edits) place = edit_lines edits place ++ last_line ∷ []
left_at Over place = []
