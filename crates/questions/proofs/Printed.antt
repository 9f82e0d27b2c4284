-- Rows that are printed one behind another.
use Rattle.std.proofs.Common.{◌≡◌, ℕ, ◌+◌, ◌<◌, ◌≤◌, List, [], ◌∷◌, ◌++◌, length, map, take, get_or, ap, sym, ◌∙◌, append_assoc, add-one, arith}
use Rattle.std.proofs.Math.Seq.{take-suc}
use Rattle.std.proofs.lemmas.List.{flat_map_more, get_or-map, length-map, take_all}
use Rattle.std.specs.List.{flat_map}
use Rattle.mk_value.specs.Data.{Datum}
use Rattle.mk_value.specs.Literals.{row_text}

-- a text with its newline
abbrev pub line : List ℕ → List ℕ
line text = text ++ (10 ∷ [])

-- one more row
pub one_line_more : (rows : List (List Datum)) (at : ℕ) (before text after : List ℕ) → at < length rows
    → before ≡ flat_map line (take at (map row_text rows)) → text ≡ before ++ row_text (get_or rows at []) → after ≡ text ++ (10 ∷ [])
    → after ≡ flat_map line (take (at + 1) (map row_text rows))
one_line_more rows at before text after within e f g =
    let texts = map row_text rows in
    let row = row_text (get_or rows at []) in
    let there : get_or texts at [] ≡ row = get_or-map row_text rows at [] [] within in
    let long : at < length texts = omega (arith, length-map rows row_text) in
    let taken : take (at + 1) texts ≡ take at texts ++ (row ∷ []) = simp (add-one at) (take-suc texts at [] long) ∙ ap (λ x. take at texts ++ (x ∷ [])) there in
    g ∙ ap (λ xs. xs ++ (10 ∷ [])) (f ∙ ap (λ xs. xs ++ row) e) ∙ append_assoc (flat_map line (take at texts)) row (10 ∷ [])
    ∙ flat_map_more line [] (take at texts) row ∙ ap (flat_map line) (sym taken)

-- all of them
pub all_lines : (rows : List (List Datum)) (at : ℕ) (bytes : List ℕ) → length rows ≤ at → bytes ≡ flat_map line (take at (map row_text rows))
    → bytes ≡ flat_map line (map row_text rows)
all_lines rows at bytes all e = e ∙ ap (flat_map line) (take_all at (map row_text rows) (omega (arith, length-map rows row_text)))
