-- The rows of a sample, by the lines that add and remove rows.
use Rattle.std.proofs.Common.{◌≡◌, ℕ, zero, suc, ◌+◌, ◌%◌, ◌<◌, Bool, true, false, List, [], ◌∷◌, refl, arith, nat_lt}
use Rattle.std.proofs.lemmas.Bool.{ltb-true}
use Rattle.std.proofs.lemmas.List.Sums.{sum_by-append, sum_by-cons}
use Rattle.std.specs.List.{count_by}
use Rattle.std.specs.Prelude.{◌==◌, ◌&&◌, ◌-ℤ◌, cond, if◌then◌else◌, pos}
use Rattle.sample.specs.Edits.{IsOfRows, edit_line, edit_of, rows_after}
use Rattle.sample.specs.Lines.{adds, after_edit, beginning, edit_at, edit_lines, last_line, place_after, removes, sample_lines, sample_size}
use Rattle.sample.specs.Numbers.{drawn, next_state}
use Rattle.sample.specs.declared.edit.Edit.{Edit}
use Rattle.sample.specs.declared.edit.Edit.TheVariants.{Set, Remove, Commit, Add}
use Rattle.sample.specs.declared.place.Place.{Place}

by_kind : (sets takes commits : Bool) (r rows : ℕ) → (sets ≡ true → 0 < rows) → (takes ≡ true → 0 < rows)
    → IsOfRows (if sets then Set (r % rows) (r % 1000) else (if takes then Remove (r % rows) else (if commits then Commit else Add (r % 100000) (r % 977) (pos r -ℤ pos 1073741824)))) rows
by_kind true takes commits r rows some some-2 = let more : 0 < rows = some refl in omega arith
by_kind false true commits r rows some some-2 = let more : 0 < rows = some-2 refl in omega arith
by_kind false false true r rows some some-2 = tt
by_kind false false false r rows some some-2 = tt

second : (a b : Bool) → a && b ≡ true → b ≡ true
second true b both = both
second false b both = cc

of_rows : (r rows : ℕ) → IsOfRows (edit_of r rows) rows
of_rows r rows =
    by_kind ((r % 8 == 5) && nat_lt 0 rows) ((r % 8 == 6) && nat_lt 0 rows) (r % 8 == 7) r rows
    (λ is. ltb-true 0 rows (second _ _ is)) (λ is. ltb-true 0 rows (second _ _ is))

-- how many rows an edit adds and removes, by its line
one_edit : (edit : Edit) (rows : ℕ) → IsOfRows edit rows → rows_after edit rows + cond (removes (edit_line edit)) 1 0 ≡ rows + cond (adds (edit_line edit)) 1 0
one_edit (Set row quantity) rows there = refl
one_edit (Remove row) rows there = omega (arith, there)
one_edit Commit rows there = refl
one_edit (Add id name quantity) rows there = omega arith

edits_count : (edits : ℕ) (place : Place) → (place_after edits place).rows + count_by removes (edit_lines edits place) ≡ place.rows + count_by adds (edit_lines edits place)
edits_count zero place = refl
edits_count (suc edits) place =
    let edit = edit_at place in
    let lines = edit_lines edits (after_edit place) in
    let later = edits_count edits (after_edit place) in
    let first = one_edit edit place.rows (of_rows (drawn (next_state place.state)) place.rows) in
    let taken = sum_by-cons (λ (line : List ℕ). cond (removes line) 1 0) (edit_line edit) lines in
    let added = sum_by-cons (λ (line : List ℕ). cond (adds line) 1 0) (edit_line edit) lines in
    omega (arith, later, first, taken, added)

pub all_count : (number edits : ℕ) → sample_size number edits + count_by removes (sample_lines number edits) ≡ count_by adds (sample_lines number edits)
all_count number edits =
    let lines = edit_lines edits (beginning number) in
    let middle = edits_count edits (beginning number) in
    let taken = sum_by-append (λ (line : List ℕ). cond (removes line) 1 0) lines (last_line ∷ []) in
    let added = sum_by-append (λ (line : List ℕ). cond (adds line) 1 0) lines (last_line ∷ []) in
    omega (arith, middle, taken, added)
