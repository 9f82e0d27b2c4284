-- Tables without rows are the same where their schemas and homes are.
use Rattle.std.proofs.Common.{◌≡◌, ℕ, ◌+◌, ◌<◌, ◌≤◌, List, [], ◌∷◌, ◌++◌, length, get_or, take, map, refl, ap, sym, ◌∙◌, arith}
use Rattle.std.proofs.lemmas.List.{map-append, take_more, take_all}
use Rattle.mk_value.specs.Heading.{Attribute}
use Rattle.tables.specs.Columns.{StoredColumn, home_of, table_of_columns}
use Rattle.tables.specs.Homes.{Home}
use Rattle.tables.specs.Stored.{stored_of}
use Rattle.tables.specs.Tables.{StoredTable}
use Rattle.tables.specs.declared.cols.Col.{Col}

-- the homes of columns
abbrev pub homes_in_columns : List Col → List Home
homes_in_columns cols = map home_of (map stored_of cols)

one_more : (cols : List Col) (k : ℕ) (c : Col) → k < length cols → c ≡ get_or cols k c → homes_in_columns (take (k + 1) cols) ≡ homes_in_columns (take k cols) ++ home_of (stored_of c) ∷ []
one_more cols k c p read =
    ap homes_in_columns (take_more cols k c p ∙ ap (λ x. take k cols ++ x ∷ []) (sym read))
    ∙ ap (map home_of) (map-append stored_of (take k cols) (c ∷ []))
    ∙ map-append home_of (map stored_of (take k cols)) (stored_of c ∷ [])

-- the same homes, and one more on either side
pub homes_more : (ones twos : List Col) (k : ℕ) (one two : Col) → k < length ones → k < length twos → one ≡ get_or ones k one → two ≡ get_or twos k two → home_of (stored_of one) ≡ home_of (stored_of two)
    → homes_in_columns (take k ones) ≡ homes_in_columns (take k twos) → homes_in_columns (take (k + 1) ones) ≡ homes_in_columns (take (k + 1) twos)
homes_more ones twos k one two p q first second same before =
    one_more ones k one p first ∙ ap (λ hs. hs ++ home_of (stored_of one) ∷ []) before ∙ ap (λ h. homes_in_columns (take k twos) ++ h ∷ []) same ∙ sym (one_more twos k two q second)

-- all of them
pub all_homes : (ones twos : List Col) (k : ℕ) → length ones ≤ k → length twos ≤ k → homes_in_columns (take k ones) ≡ homes_in_columns (take k twos) → homes_in_columns ones ≡ homes_in_columns twos
all_homes ones twos k p q same = ap homes_in_columns (sym (take_all k ones p)) ∙ same ∙ ap homes_in_columns (take_all k twos q)

-- a table of no rows
abbrev empty_with : List Attribute → List Home → StoredTable
empty_with s homes = record { schema = s; rows = []; homes = homes }

-- tables of no rows
pub same_empty : (n m : ℕ) (schema other : List Attribute) (ones twos : List StoredColumn) → n ≡ 0 → m ≡ 0 → schema ≡ other → map home_of ones ≡ map home_of twos → table_of_columns n schema ones ≡ table_of_columns m other twos
same_empty n m schema other ones twos none neither same homes =
    ap (λ i. table_of_columns i schema ones) none
    ∙ ap (λ (s : List Attribute). empty_with s (map home_of ones)) same
    ∙ ap (empty_with other) homes
    ∙ sym (ap (λ i. table_of_columns i other twos) neither)
