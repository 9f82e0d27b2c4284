-- The texts of values, taken apart into the pieces that are appended one after another.
use Rattle.std.proofs.Common.{◌≡◌, ℕ, ◌+◌, ◌<◌, List, [], ◌∷◌, ◌++◌, length, take, drop, get_or, pos, refl, ap, sym, ◌∙◌, append_assoc, arith, add-one}
use Rattle.std.proofs.Math.Seq.{take-suc}
use Rattle.std.proofs.lemmas.List.{flat_map_more}
use Rattle.std.specs.List.{flat_map}
use Rattle.mk_value.specs.Data.{Datum, integer, tuple_of, relation_of}
use Rattle.mk_value.specs.Tokens.{Token, spelling}
use Rattle.mk_value.specs.Literals.{tokens_of, row_tokens, more_values, more_rows, spelled, value_text, row_text, rows_text, values_text, joined_rows_text, more_values_text, more_rows_text}

pub spelled-append : (xs ys : List Token) → spelled (xs ++ ys) ≡ spelled xs ++ spelled ys
spelled-append [] ys = refl
spelled-append (x ∷ xs) ys = ap (λ zs. spelling x ++ zs) (spelled-append xs ys) ∙ sym (append_assoc (spelling x) (spelled xs) (spelled ys))

pub more_values_spelled : (row : List Datum) → spelled (more_values (tuple_of row)) ≡ more_values_text row
more_values_spelled [] = refl
more_values_spelled (d ∷ rest) = ap (λ zs. 44 ∷ zs) (
    spelled-append (tokens_of d) (more_values (tuple_of rest)) ∙ ap (λ zs. value_text d ++ zs) (more_values_spelled rest))

pub more_rows_spelled : (rows : List (List Datum)) → spelled (more_rows (relation_of rows)) ≡ more_rows_text rows
more_rows_spelled [] = refl
more_rows_spelled (row ∷ rest) = ap (λ zs. 44 ∷ zs) (
    spelled-append (row_tokens (tuple_of row)) (more_rows (relation_of rest)) ∙ ap (λ zs. row_text row ++ zs) (more_rows_spelled rest))

-- a row is its values in parentheses, and a view its rows in braces
pub row_text_pieces : (row : List Datum) → (40 ∷ []) ++ (values_text row ++ (41 ∷ [])) ≡ row_text row
row_text_pieces [] = refl
row_text_pieces (d ∷ rest) = ap (λ zs. 40 ∷ zs) (
    append_assoc (value_text d) (more_values_text rest) (41 ∷ [])
    ∙ ap (λ zs. value_text d ++ zs) (
    ap (λ zs. zs ++ (41 ∷ [])) (sym (more_values_spelled rest)) ∙ sym (spelled-append (more_values (tuple_of rest)) (Token.sign 41 ∷ [])))
    ∙ sym (spelled-append (tokens_of d) (more_values (tuple_of rest) ++ (Token.sign 41 ∷ []))))

pub rows_text_pieces : (rows : List (List Datum)) → (123 ∷ []) ++ (joined_rows_text rows ++ (125 ∷ [])) ≡ rows_text rows
rows_text_pieces [] = refl
rows_text_pieces (row ∷ rest) = ap (λ zs. 123 ∷ zs) (
    ap (λ zs. (row_text row ++ zs) ++ (125 ∷ [])) (sym (more_rows_spelled rest))
    ∙ ap (λ zs. zs ++ (125 ∷ [])) (sym (spelled-append (row_tokens (tuple_of row)) (more_rows (relation_of rest))))
    ∙ sym (spelled-append (row_tokens (tuple_of row) ++ more_rows (relation_of rest)) (Token.sign 125 ∷ [])))

-- the same of the values and rows that a call lent
pub row_text_along : (values row : List Datum) → values ≡ row → (40 ∷ []) ++ (values_text values ++ (41 ∷ [])) ≡ row_text row
row_text_along values row e = row_text_pieces values ∙ ap row_text e

pub rows_text_along : (lent rows : List (List Datum)) → lent ≡ rows → (123 ∷ []) ++ (joined_rows_text lent ++ (125 ∷ [])) ≡ rows_text rows
rows_text_along lent rows e = rows_text_pieces lent ∙ ap rows_text e

-- the values of a row are its first and those behind it
pub first_and_more : (row : List Datum) → 0 < length row → value_text (get_or row 0 (integer (pos 0))) ++ more_values_text (drop 1 row) ≡ values_text row
first_and_more [] h = absurd (omega arith)
first_and_more (d ∷ rest) h = refl

-- one more of the values behind the first
pub one_more : (row : List Datum) (k : ℕ) → k + 1 < length row
    → more_values_text (take k (drop 1 row)) ++ (44 ∷ value_text (get_or row (k + 1) (integer (pos 0)))) ≡ more_values_text (take (k + 1) (drop 1 row))
one_more [] k h = absurd (omega arith)
one_more (d ∷ rest) k h =
    let marked = λ (x : Datum). 44 ∷ value_text x in
    simp (add-one k)
    (flat_map_more marked [] (take k rest) (get_or rest k (integer (pos 0)))
    ∙ ap (flat_map marked) (sym (take-suc rest k (integer (pos 0)) (omega arith))))

-- a comma and the next value
pub cell_behind : (old before marked after : List ℕ) (row : List Datum) (k col next : ℕ) → col ≡ k + 1 → next ≡ k + 1 → col < length row
    → before ≡ old ++ more_values_text (take k (drop 1 row)) → marked ≡ before ++ (44 ∷ [])
    → after ≡ marked ++ value_text (get_or row col (integer (pos 0))) → after ≡ old ++ more_values_text (take next (drop 1 row))
cell_behind old before marked after row k col next here behind within e f g =
    let front = more_values_text (take k (drop 1 row)) in
    let text = value_text (get_or row col (integer (pos 0))) in
    g ∙ ap (λ xs. xs ++ text) (f ∙ ap (λ xs. xs ++ (44 ∷ [])) e)
    ∙ append_assoc (old ++ front) (44 ∷ []) text ∙ append_assoc old front (44 ∷ text)
    ∙ ap (λ xs. old ++ xs)
    (ap (λ n. front ++ (44 ∷ value_text (get_or row n (integer (pos 0))))) here ∙ one_more row k (omega arith)
    ∙ ap (λ n. more_values_text (take n (drop 1 row))) (sym behind))

-- a row in its four pieces: the parenthesis, the first value, the others, the parenthesis
pub row_in_pieces : (old opened begun filled : List ℕ) (row : List Datum) → 0 < length row → opened ≡ old ++ (40 ∷ [])
    → begun ≡ opened ++ value_text (get_or row 0 (integer (pos 0))) → filled ≡ begun ++ more_values_text (drop 1 row)
    → filled ++ (41 ∷ []) ≡ old ++ row_text row
row_in_pieces old opened begun filled row some e f g =
    let first = value_text (get_or row 0 (integer (pos 0))) in
    let more = more_values_text (drop 1 row) in
    ap (λ xs. xs ++ (41 ∷ []))
    (g ∙ ap (λ xs. xs ++ more) (f ∙ ap (λ xs. xs ++ first) e) ∙ append_assoc (old ++ (40 ∷ [])) first more)
    ∙ append_assoc (old ++ (40 ∷ [])) (first ++ more) (41 ∷ []) ∙ append_assoc old (40 ∷ []) ((first ++ more) ++ (41 ∷ []))
    ∙ ap (λ xs. old ++ xs) (ap (λ xs. (40 ∷ []) ++ (xs ++ (41 ∷ []))) (first_and_more row some) ∙ row_text_pieces row)
