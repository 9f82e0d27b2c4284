-- The rows of a sorting stand in the order of its keys.
use Rattle.std.proofs.Common.{◌≡◌, ℕ, zero, suc, ◌+◌, ◌<◌, Bool, true, false, not, List, [], ◌∷◌, ◌++◌, length, get_or, Option, Some, None, refl, ap, sym, subst, ◌∙◌, arith, cond}
use Rattle.std.specs.Prelude.{find}
use Rattle.std.specs.Option.{option_map}
use Rattle.std.specs.Cmp.{IsTotalOrder}
use Rattle.std.specs.List.Sorted.{IsSorted}
use Rattle.std.specs.Ordering.{is_gt, is_lt, ordering_reverse}
use Rattle.std.specs.declared.cmp.Ordering.{Ordering}
use Rattle.std.specs.declared.cmp.Ordering.TheVariants.{Less, Equal, Greater}
use Rattle.std.proofs.lemmas.Bool.{false≢true}
use Rattle.live.specs.Laws.{shown}
use Rattle.live.specs.Chains.{source_rows}
use Rattle.live.specs.declared.op.WatchOp.TheVariants as op
use Rattle.mk_value.specs.Data.{Datum}
use Rattle.mk_value.specs.Heading.{Attribute}
use Rattle.mk_value.specs.Names.{same_bytes}
use Rattle.mk_value.specs.Tables.{Table}
use Rattle.relations.proofs.Faults.{cases}
use Rattle.relations.proofs.RowOrder.{row_cmp_total}
use Rattle.relations.specs.Sorting.{put, row_cmp, sorted}
use Rattle.relations.specs.declared.criteria.Key.{Key}
use Rattle.tables.specs.Tables.{StoredTable}
use Rattle.view_store.specs.Views.{NamedTable, table_of}
use Rattle.watches.specs.Watches.{Followed, Shown, found, op_found, op_in, op_of, place_of, rows_shown, shown_at, shown_in, watch_table}

-- none of the elements is less than this one, which stands before them; and none is less than the one before it
abbrev IsBefore : {X : Type 0} → (X → X → Ordering) → X → List X → Type 0
IsBefore cmp x [] = Unit {0}
IsBefore cmp x (y ∷ ys) = is_lt (cmp y x) ≡ false

abbrev Rises : {X : Type 0} → (X → X → Ordering) → List X → Type 0
Rises cmp [] = Unit {0}
Rises cmp (x ∷ xs) = IsBefore cmp x xs × Rises cmp xs

turned_gt : (o : Ordering) → is_gt o ≡ true → is_lt (ordering_reverse o) ≡ true
turned_gt Less e = absurd (false≢true e)
turned_gt Equal e = absurd (false≢true e)
turned_gt Greater e = refl

gt_not_lt : (o : Ordering) → is_gt o ≡ true → is_lt o ≡ false
gt_not_lt Less e = absurd (false≢true e)
gt_not_lt Equal e = absurd (false≢true e)
gt_not_lt Greater e = refl

turned_not_gt : (o : Ordering) → is_gt o ≡ false → is_lt (ordering_reverse o) ≡ false
turned_not_gt Less e = refl
turned_not_gt Equal e = refl
turned_not_gt Greater e = absurd (false≢true (sym e))

module _ {X : Type 0} (cmp : X → X → Ordering) (total : IsTotalOrder cmp) where
  -- what stands before the rest stands before it with one more, if it is not above that
  before_put : (y x : X) (ys : List X) → is_lt (cmp x y) ≡ false → IsBefore cmp y ys → IsBefore cmp y (put cmp x ys)
  before_put y x [] e f = e
  before_put y x (z ∷ ys) e f = cases (is_gt (cmp x z))
      (λ g. rw g f)
      (λ g. rw g e)

  rises_put : (x : X) (ys : List X) → Rises cmp ys → Rises cmp (put cmp x ys)
  rises_put x [] h = (tt, tt)
  rises_put x (y ∷ ys) h = cases (is_gt (cmp x y))
      (λ g. rw g (before_put y x ys (gt_not_lt (cmp x y) g) h.0, rises_put x ys h.1))
      (λ g. rw g (ap is_lt (total.antisymm y x) ∙ turned_not_gt (cmp x y) g, h))

  rises_sorted : (xs : List X) → Rises cmp (sorted cmp xs)
  rises_sorted [] = tt
  rises_sorted (x ∷ xs) = rises_put x (sorted cmp xs) (rises_sorted xs)

  from_rises : (xs : List X) → Rises cmp xs → (k : ℕ) (d : X) → k + 1 < length xs → is_lt (cmp (get_or xs (k + 1) d) (get_or xs k d)) ≡ false
  from_rises [] h k d p = absurd (omega arith)
  from_rises (x ∷ []) h k d p = absurd (omega arith)
  from_rises (x ∷ (y ∷ ys)) h zero d p = h.0
  from_rises (x ∷ (y ∷ ys)) h (suc k) d p =
      let e : suc k + 1 ≡ suc (k + 1) = omega arith in
      ap (λ n. is_lt (cmp (get_or (x ∷ (y ∷ ys)) n d) (get_or (y ∷ ys) k d))) e ∙ from_rises (y ∷ ys) h.1 k d (omega arith)

  pub sorted_rises : (xs : List X) → IsSorted cmp (sorted cmp xs)
  sorted_rises xs = λ k d _ p. from_rises (sorted cmp xs) (rises_sorted xs) k d p

sort_same : (one two : List Key) → op.Sort one ≡ op.Sort two → one ≡ two
sort_same one two e = cc

some_same : {X : Type 0} (x y : X) → Some x ≡ Some y → x ≡ y
some_same x y e = cc

none_some : {X P : Type 0} (x : X) → Some x ≡ None → P
none_some x e = absurd (let f : ◌≡◌ {A = Option _} (Some x) None = e in cc)

-- the rows of the first watch of a name, if that is a sorting
rows_in_order : (schema : List Attribute) (rows : List (List Datum)) (done : List (List (List Datum))) (watches : List Shown) (name : List ℕ) (keys : List Key)
    → op_in (find (λ (s : Shown). same_bytes s.name name) watches) ≡ Some (op.Sort keys) → IsSorted (row_cmp schema keys) (get_or (rows_shown schema rows done watches) (place_of watches name) [])
rows_in_order schema rows done [] name keys e = none_some (op.Sort keys) (sym e)
rows_in_order schema rows done (s ∷ watches) name keys e =
    let source = source_rows rows done s.source in
    let these = shown schema s.op source in
    let rest = rows_shown schema rows (done ++ these ∷ []) watches in
    let Up : ℕ → Type 0 = λ n. IsSorted (row_cmp schema keys) (get_or (these ∷ rest) n []) in
    let At : Bool → Type 0 = λ b. Up (cond (not b) (1 + place_of watches name) 0) in
    let next : 1 + place_of watches name ≡ suc (place_of watches name) = omega arith in
    cases (same_bytes s.name name)
    (λ is.
    let sort : s.op ≡ op.Sort keys = some_same s.op (op.Sort keys) (rw is at e) in
    subst At (sym is) (subst (λ o. IsSorted (row_cmp schema keys) (shown schema o source)) (sym sort) (sorted_rises (row_cmp schema keys) (row_cmp_total schema keys) source)))
    (λ is. subst At (sym is) (subst Up (sym next) (rows_in_order schema rows (done ++ these ∷ []) watches name keys (rw is at e))))

table_in_order : (views : List NamedTable) (f : Option Followed) (name : List ℕ) (keys : List Key) (t : Table) → op_found f name ≡ Some (op.Sort keys) → shown_in views f name ≡ Some t → IsSorted (row_cmp t.schema keys) t.rows
table_in_order views None name keys t e is = none_some (op.Sort keys) (sym e)
table_in_order views (Some f) name keys t e is = at (table_of views f.view) refl
  where
    at : (o : Option StoredTable) → table_of views f.view ≡ o → IsSorted (row_cmp t.schema keys) t.rows
    at None none = none_some t (sym is ∙ ap (option_map (shown_at f.watches (place_of f.watches name))) none)
    at (Some u) some =
        let same : shown_at f.watches (place_of f.watches name) u ≡ t = some_same (shown_at f.watches (place_of f.watches name) u) t (sym (ap (option_map (shown_at f.watches (place_of f.watches name))) some) ∙ is) in
        subst (λ (v : Table). IsSorted (row_cmp v.schema keys) v.rows) same (rows_in_order u.schema u.rows [] f.watches name keys e)

-- the table of a watch that is a sorting
pub watch_in_order : (views : List NamedTable) (all : List Followed) (name : List ℕ) (keys : List Key) (t : Table) → op_of all name ≡ Some (op.Sort keys) → watch_table views all name ≡ Some t → IsSorted (row_cmp t.schema keys) t.rows
watch_in_order views all name keys t e is = table_in_order views (found all name) name keys t e is
