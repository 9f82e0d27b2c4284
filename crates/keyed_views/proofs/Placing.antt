-- A row that is put or set goes to a place among the rows.
use Rattle.std.proofs.Common.{◌≡◌, ◌≢◌, ℕ, ◌-◌, ◌<◌, ◌≤◌, ◌==◌, ◌&&◌, Bool, true, false, cond, nat_lt, List, [], length, get_or, take, Option, Some, None, refl, arith}
use Rattle.std.specs.Ordering.{is_eq, is_lt}
use Rattle.std.proofs.lemmas.Bool.Decides.{nat_tests}
use Rattle.std.proofs.lemmas.List.Sums.{count_by-le-length}
use Rattle.keyed_views.specs.Keyed.{IsAnother, IsInPlace, edits_of, moved_to, other_than, put_by, put_ordered, set_ordered, size_without}
use Rattle.keyed_views.specs.declared.keyed.KeyedEdit.TheVariants.{Change, Move}
use Rattle.keyed_views.proofs.Hashing.{found_key}
use Rattle.mapped.specs.Index.{row_of}
use Rattle.mapped.specs.Keys.{has_key, keys_of, row_to_key, rows_below}
use Rattle.mapped.proofs.Keyed.{length_keys}
use Rattle.mk_value.specs.Data.{Datum}
use Rattle.mk_value.specs.Limits.{max_rows}
use Rattle.row_edits.specs.Edits.{size_by}
use Rattle.keyed_views.specs.declared.by.By.{By}
use Rattle.keyed_views.specs.declared.by.By.TheVariants.{Hash, Order}
use Rattle.keyed_views.specs.Mapped.{put_edit, set_edit}

-- by an index
module _ (key : List Datum) (keys at : ℕ) (rows : List (List Datum)) where
  found : (j : ℕ) → row_of key (keys_of keys rows) ≡ Some j → j < length rows
  found j e = let there = (found_key key (keys_of keys rows) j e).0 in let long = length_keys keys rows in omega arith

  put_hash : (o : Option ℕ) → row_of key (keys_of keys rows) ≡ o → at ≤ length rows → size_by (edits_of (put_by o at)) (length rows) ≤ max_rows → IsInPlace (put_by o at) (length rows)
  put_hash None e p few = (p, omega arith)
  put_hash (Some j) e p few = found j e

  apart : (j : ℕ) → (j == at) ≡ false → j ≢ at
  apart j e f = grind (arith, nat_tests)

  another : (j : ℕ) (b : Bool) → (j == at) ≡ b → j < length rows → IsAnother (cond b None (Some j)) at (length rows)
  another j true e p = tt
  another j false e p = (p, apart j e)

  set_hash : (o : Option ℕ) → row_of key (keys_of keys rows) ≡ o → at < length rows → IsInPlace (Change at (other_than at o)) (length rows)
  set_hash None e p = (p, tt)
  set_hash (Some j) e p = (p, another j (j == at) refl (found j e))

-- in the order of keys
module _ (key : List Datum) (rows : List (List Datum)) where
  abbrev low : ℕ
  low = rows_below key rows

  few_below : low ≤ length rows
  few_below = count_by-le-length (λ row. is_lt (row_to_key row key)) rows

  both : (a b : Bool) → (a && b) ≡ true → a ≡ true
  both true b e = refl
  both false b e = cc

  here : has_key key rows low ≡ true → low < length rows
  here e = let f = both (nat_lt low (length rows)) (is_eq (row_to_key (get_or rows low []) key)) e in grind (arith, nat_tests)

  put_order : (has : Bool) → has_key key rows low ≡ has → size_by (edits_of (put_ordered low has)) (length rows) ≤ max_rows → IsInPlace (put_ordered low has) (length rows)
  put_order true e few = here e
  put_order false e few = (few_below, omega arith)

  moved : (at : ℕ) (other : Option ℕ) (to : ℕ) → at < length rows → IsAnother other at (length rows) → to < size_without other (length rows) → (b : Bool)
      → IsInPlace (cond b (Change at other) (Move at other to)) (length rows)
  moved at other to p q r true = (p, q)
  moved at other to p q r false = (p, q, r)

  among : (at n : ℕ) → at < length rows → n ≤ length rows → (b : Bool) → nat_lt at n ≡ b → cond b (n - 1) n < length rows
  among at n p q true e = let f : at < n = grind (arith, nat_tests) in omega arith
  among at n p q false e = let f : n ≤ at = grind (arith, nat_tests) in omega arith

  among_others : (at n : ℕ) → at < length rows → n < length rows → n ≢ at → (b : Bool) → nat_lt at n ≡ b → cond b (n - 1) n < length rows - 1
  among_others at n p q ne true e = let f : at < n = grind (arith, nat_tests) in omega arith
  among_others at n p q ne false e = let f : n ≤ at = grind (arith, nat_tests) in omega (arith, ne)

  unlike : (at : ℕ) → (low == at) ≡ false → low ≢ at
  unlike at e f = grind (arith, nat_tests)

  own : (at to : ℕ) (b : Bool) → (low == at) ≡ b → at < length rows → low < length rows → (low ≢ at → to < length rows - 1)
      → IsInPlace (cond b (Change at None) (moved_to at (Some low) to)) (length rows)
  own at to true e p q r = (p, tt)
  own at to false e p q r = moved at (Some low) to p (q, unlike at e) (r (unlike at e)) _

  set_order : (at : ℕ) (has : Bool) → has_key key rows low ≡ has → at < length rows → IsInPlace (set_ordered at low has) (length rows)
  set_order at false e p = moved at None (cond (nat_lt at low) (low - 1) low) p tt (among at low p few_below (nat_lt at low) refl) _
  set_order at true e p = own at (cond (nat_lt at low) (low - 1) low) (low == at) refl p (here e) (λ ne. among_others at low p (here e) ne (nat_lt at low) refl)

pub put_in_place : (by : By) (keys at : ℕ) (row : List Datum) (rows : List (List Datum)) → at ≤ length rows → size_by (edits_of (put_edit by keys row at rows)) (length rows) ≤ max_rows
    → IsInPlace (put_edit by keys row at rows) (length rows)
put_in_place Hash keys at row rows p few = put_hash (take keys row) keys at rows (row_of (take keys row) (keys_of keys rows)) refl p few
put_in_place Order keys at row rows p few = put_order (take keys row) rows (has_key (take keys row) rows (rows_below (take keys row) rows)) refl few

pub set_in_place : (by : By) (keys at : ℕ) (row : List Datum) (rows : List (List Datum)) → at < length rows → IsInPlace (set_edit by keys row at rows) (length rows)
set_in_place Hash keys at row rows p = set_hash (take keys row) keys at rows (row_of (take keys row) (keys_of keys rows)) refl p
set_in_place Order keys at row rows p = set_order (take keys row) rows at (has_key (take keys row) rows (rows_below (take keys row) rows)) refl p
