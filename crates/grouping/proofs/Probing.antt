-- A key of a table beside the values of a row: one column further.
use Rattle.std.proofs.Common.{◌≡◌, ℕ, ◌+◌, ◌<◌, pos, true, false, List, [], ◌∷◌, length, get_or, map, drop, min, All, refl, ap, sym, ◌∙◌, arith}
use Rattle.std.specs.declared.cmp.Ordering.{Ordering}
use Rattle.std.specs.Ordering.{int_cmp, is_ne, nat_cmp}
use Rattle.std.specs.Cmp.Lexicographic.{slice_cmp}
use Rattle.std.proofs.lemmas.List.{get_or-map, length-map}
use Rattle.mk_value.specs.Heading.{Attribute}
use Rattle.mk_value.specs.Data.{Datum, integer, long, text, bytes, relation, AreRowsOf, cell}
use Rattle.mk_value.specs.Lending.{Lends}
use Rattle.mk_value.specs.declared.table.Lent.{Lent}
use Rattle.mk_value.specs.declared.table.Lent.TheVariants.{I, L, S, B, V}
use Rattle.mk_value.specs.Values.{datum_of}
use Rattle.mk_value.specs.declared.value.Value.{Value}
use Rattle.mk_value.proofs.Walks.{drop_map_read, map_read, same_default}
use Rattle.relations.specs.Cells.{lent_cmp, lents_cmp}
use Rattle.relations.specs.Columns.{values_at}
use Rattle.relations.specs.Keys.{IsPlainColumn}
use Rattle.relations.specs.WholeOrder.{whole_cmp, whole_row_cmp}
use Rattle.relations.proofs.KeyCells.{cell_lent}
use Rattle.relations.proofs.Walked.{walk_on, walk_ends, walk_over, ne_false, ne_true, min_ends}

-- the columns to come decide
abbrev pub IsDecidedFrom : ℕ → List Datum → List Datum → Type 0
IsDecidedFrom n ours theirs = whole_row_cmp ours theirs ≡ whole_row_cmp (drop n ours) (drop n theirs)

module _ (schema : List Attribute) (rows : List (List Datum)) (whole : AreRowsOf rows schema) (ones twos : List ℕ) (plain : All (IsPlainColumn schema) ones) (at : ℕ) (row : List Datum) (p : at < length rows)
    (n : ℕ) (q : n < length ones) (r : n < length twos) (lent : Lent) (d : Datum) (lends : Lends lent (cell rows at (get_or ones n 0))) (read : d ≡ get_or row (get_or twos n 0) (integer (pos 0)))
    (o : Ordering) (compared : o ≡ lent_cmp lent d) (before : IsDecidedFrom n (values_at ones (get_or rows at [])) (values_at twos row)) where
  here : o ≡ whole_cmp (cell rows at (get_or ones n 0)) d
  here = compared ∙ cell_lent schema rows whole at (get_or ones n 0) lent d p (plain n 0 q) lends

  our_rest : drop n (values_at ones (get_or rows at [])) ≡ cell rows at (get_or ones n 0) ∷ drop (n + 1) (values_at ones (get_or rows at []))
  our_rest = drop_map_read (λ j. get_or (get_or rows at []) j (integer (pos 0))) ones n (get_or ones n 0) q (same_default ones n 0 (get_or ones n 0) q)

  their_rest : drop n (values_at twos row) ≡ d ∷ drop (n + 1) (values_at twos row)
  their_rest =
      drop_map_read (λ j. get_or row j (integer (pos 0))) twos n (get_or twos n 0) r (same_default twos n 0 (get_or twos n 0) r)
      ∙ ap (λ (x : Datum). x ∷ drop (n + 1) (values_at twos row)) (sym read)

  pub probe_on : is_ne o ≡ false → IsDecidedFrom (n + 1) (values_at ones (get_or rows at [])) (values_at twos row)
  probe_on eq =
      walk_on whole_cmp (values_at ones (get_or rows at [])) (values_at twos row) n (cell rows at (get_or ones n 0)) d our_rest their_rest (sym here ∙ ne_false o eq) before

  pub probe_ends : is_ne o ≡ true → o ≡ whole_row_cmp (values_at ones (get_or rows at [])) (values_at twos row)
  probe_ends ne =
      here ∙ sym (walk_ends whole_cmp (values_at ones (get_or rows at [])) (values_at twos row) n (cell rows at (get_or ones n 0)) d our_rest their_rest (λ tied. ne_true o ne (here ∙ tied)) before)

-- where one of the two has no more columns, their numbers decide
pub probe_over : (ones twos : List ℕ) (one row : List Datum) (n : ℕ) → n ≡ min (length ones) (length twos) → IsDecidedFrom n (values_at ones one) (values_at twos row) → nat_cmp (length ones) (length twos) ≡ whole_row_cmp (values_at ones one) (values_at twos row)
probe_over ones twos one row n e before =
    let long = length-map ones (λ j. get_or one j (integer (pos 0))) in
    let wide = length-map twos (λ j. get_or row j (integer (pos 0))) in
    let m = min_ends (length (values_at ones one)) (length (values_at twos row)) n (omega arith) in
    (λ i. nat_cmp (sym long i) (sym wide i)) ∙ sym (walk_over whole_cmp (values_at ones one) (values_at twos row) n m.0 m.1 m.2 before)

-- a value that was read from a row
pub value_read : (values : List Value) (row : List Datum) (j : ℕ) (v : Value) → map datum_of values ≡ row → j < length row → v ≡ get_or values j v → datum_of v ≡ get_or row j (integer (pos 0))
value_read values row j v seen p e =
    let long = ap (λ (ds : List Datum). length ds) seen in
    let inside = length-map values datum_of in
    map_read datum_of values j v (omega arith) e ∙ ap (λ (ds : List Datum). get_or ds j (datum_of v)) seen ∙ same_default row j (datum_of v) (integer (pos 0)) p

-- the key at a place of a table's keys
pub key_here : (rows keys : List (List Datum)) (columns ones : List ℕ) (at : ℕ) → map (values_at columns) rows ≡ keys → ones ≡ columns → at < length rows → values_at ones (get_or rows at []) ≡ get_or keys at []
key_here rows keys columns ones at view same p =
    ap (λ (js : List ℕ). values_at js (get_or rows at [])) same ∙ sym (get_or-map (values_at columns) rows at [] [] p) ∙ ap (λ (ks : List (List Datum)). get_or ks at []) view

pub place_here : (rows keys : List (List Datum)) (columns : List ℕ) (at : ℕ) → map (values_at columns) rows ≡ keys → at < length keys → at < length rows
place_here rows keys columns at view p =
    let long = ap (λ (ks : List (List Datum)). length ks) view in
    let own = length-map rows (values_at columns) in
    omega arith

-- two values that are lent compare as the one does with the other
pub lents_lent : (one two : Lent) (d : Datum) → Lends two d → lents_cmp one two ≡ lent_cmp one d
lents_lent (I n) (I m) (integer z) h = ap (int_cmp n) h
lents_lent (L n) (L m) (long z) h = ap (int_cmp n) h
lents_lent (S x) (S y) (text z) h = ap (slice_cmp nat_cmp x.now) h
lents_lent (B x) (B y) (bytes z) h = ap (slice_cmp nat_cmp x.now) h
lents_lent _ (I m) (integer z) h = refl
lents_lent _ (L m) (long z) h = refl
lents_lent _ (S y) (text z) h = refl
lents_lent _ (B y) (bytes z) h = refl
lents_lent _ (V count) (relation r) h = refl
lents_lent _ _ _ h = absurd h
