-- Keys of an index over a line.
use Rattle.std.proofs.Common.{◌≡◌, ◌≢◌, ℕ, zero, suc, map, replicate, ◌+◌, ◌<◌, cond, eqb, List, [], ◌∷◌, ◌++◌, length, get_or, set, take, drop, Option, Some, None, Contains, refl, ap, sym, ◌∙◌, arith, inl, inr}
use Rattle.std.specs.List.{insert, remove}
use Rattle.std.proofs.lemmas.Bool.{cases_eq, cases_lt, eq-eqb, ne_eqb}
use Rattle.std.proofs.lemmas.List.{drop-set-lt, drop_at, drop_more, ext_get_or, get_or-set_other, get_or-set_same, get_or_default, length-set, length-take-le, map-append, map-set, set_split, take-append-drop, take-map, take-set, take_at}
use Rattle.std.proofs.lemmas.List.Edits.{get_or-remove_above, get_or-remove_below, length-remove}
use Rattle.std.proofs.lemmas.List.Quantifiers.{position-Some}
use Rattle.std.proofs.lemmas.Option.{slice_get-get_or}
use Rattle.mk_value.specs.Data.{Datum}
use Rattle.relations.specs.Equality.{same_row}
use Rattle.relations.proofs.Equal.{rows_equal}
use Rattle.live.specs.Placing.{closed}
use Rattle.live.proofs.Picks.{closed_above, closed_below}
use Rattle.mapped.specs.Index.{AreKeys, row_of}
use Rattle.mapped.proofs.Calling.{gone, others_of_none, take_place}
use Rattle.mapped.proofs.Finding.{key_found}
use Rattle.mapped.proofs.Moving.{fewer}
use Rattle.row_edits.specs.declared.edit.RowEdit.{RowEdit}
use Rattle.row_edits.specs.declared.edit.RowEdit.TheVariants.{Insert, Remove, Change}
use Rattle.row_edits.specs.Edits.{edited, edited_by}
use Rattle.keyed_views.specs.Keyed.{other_than}

-- the row of a key
pub found_key : (key : List Datum) (keys : List (List Datum)) (j : ℕ) → row_of key keys ≡ Some j → (j < length keys) × (get_or keys j [] ≡ key)
found_key key keys j e =
    let p = position-Some (λ known. same_row known key) keys j [] e in
    (p.0, rows_equal (get_or keys j []) key p.1)

-- another row than one has the key
other_is : (at k : ℕ) (found : Option ℕ) → Some k ≡ other_than at found → (found ≡ Some k) × (k ≢ at)
other_is at k None e = cc
other_is at k (Some j) e = elim (cases_eq j at) [
  | inl same ↦ absurd (none (ap (λ b. cond b None (Some j)) (eq-eqb j at same) ∙ refl))
  | inr ne ↦
      let k_is : Some k ≡ Some j = e ∙ ap (λ b. cond b None (Some j)) (ne_eqb j at ne) in
      let same : k ≡ j = some_same k_is in
      (ap Some (sym same), λ f. ne (sym same ∙ f))
]
  where
    none : cond (eqb j at) None (Some j) ≡ None → ⊥
    none f = let g : Some k ≡ None = e ∙ f in cc

    some_same : Some k ≡ Some j → k ≡ j
    some_same f = cc

-- an element changes, and another goes, in either order
module _ {X : Type 0} (xs : List X) (x : X) (at k : ℕ) (there : at < length xs) (inside : k < length xs) (ne : k ≢ at) where
  pub apart_there : closed k at < length (remove xs k)
  apart_there =
      let n = length-remove xs k inside in
      elim (cases_lt at k) [
        | inl low ↦ let c = closed_below k at low in omega arith
        | inr high ↦ let c = closed_above k at (omega arith) in omega arith
      ]

  inner : k < length (set xs at x)
  inner = let m = length-set xs at x in omega arith

  at_place : (i : ℕ) → i ≡ closed k at → get_or (remove (set xs at x) k) i x ≡ x
  at_place i here = elim (cases_lt at k) [
    | inl low ↦
        let e : i ≡ at = here ∙ closed_below k at low in
        get_or-remove_below (set xs at x) k x i (omega arith) inner ∙ ap (λ j. get_or (set xs at x) j x) e ∙ get_or-set_same xs at x x there
    | inr high ↦
        let c = closed_above k at (omega arith) in
        let e : i + 1 ≡ at = omega arith in
        get_or-remove_above (set xs at x) k x i (omega arith) inner ∙ ap (λ j. get_or (set xs at x) j x) e ∙ get_or-set_same xs at x x there
  ]

  elsewhere : (i : ℕ) → i ≢ closed k at → get_or (remove (set xs at x) k) i x ≡ get_or (remove xs k) i x
  elsewhere i apart = elim (cases_lt i k) [
    | inl low ↦
        let far : i ≢ at = λ f. apart (f ∙ sym (closed_below k at (omega arith))) in
        get_or-remove_below (set xs at x) k x i low inner ∙ get_or-set_other xs at i x x far ∙ sym (get_or-remove_below xs k x i low inside)
    | inr high ↦
        let far : i + 1 ≢ at = λ f. let c = closed_above k at (omega arith) in apart (omega arith) in
        get_or-remove_above (set xs at x) k x i high inner ∙ get_or-set_other xs at (i + 1) x x far ∙ sym (get_or-remove_above xs k x i high inside)
  ]

  pub set_apart : set (remove xs k) (closed k at) x ≡ remove (set xs at x) k
  set_apart =
      let n = length-remove xs k inside in
      let m = length-set xs at x in
      let long = length-set (remove xs k) (closed k at) x in
      let few = length-remove (set xs at x) k inner in
      ext_get_or x (set (remove xs k) (closed k at) x) (remove (set xs at x) k) (omega arith) (λ i p.
      elim (cases_eq i (closed k at)) [
        | inl here ↦ ap (λ j. get_or (set (remove xs k) (closed k at) x) j x) here ∙ get_or-set_same (remove xs k) (closed k at) x x apart_there ∙ sym (at_place i here)
        | inr apart ↦ get_or-set_other (remove xs k) (closed k at) i x x apart ∙ sym (elsewhere i apart)
      ])

-- an element that changes goes and comes again
pub set_again : {X : Type 0} (xs : List X) (at : ℕ) (x : X) → at < length xs → set xs at x ≡ insert (remove xs at) at x
set_again xs at x p =
    let n = length-take-le at xs (omega arith) in
    sym (
    ap (λ ys. ys ++ x ∷ drop at (remove xs at)) (take_at (take at xs) (drop (suc at) xs) at n)
    ∙ ap (λ ys. take at xs ++ x ∷ ys) (drop_at (take at xs) (drop (suc at) xs) at n)
    ∙ sym (set_split xs at x p)
    )

-- and it goes as it was
pub set_gone : {X : Type 0} (xs : List X) (at : ℕ) (x : X) → take at (set xs at x) ++ drop (at + 1) (set xs at x) ≡ remove xs at
set_gone xs at x =
    ap (λ n. take at (set xs at x) ++ drop n (set xs at x)) (let e : at + 1 ≡ suc at = omega arith in e)
    ∙ ap (λ ys. ys ++ drop (suc at) (set xs at x)) (take-set xs at x) ∙ ap (λ ys. take at xs ++ ys) (drop-set-lt (suc at) xs at x (omega arith))

-- no other row has the key
module _ (keys : List (List Datum)) (key : List Datum) (at : ℕ) (whole : AreKeys keys) (there : at < length keys) where
  pub alone : None ≡ other_than at (row_of key keys) → AreKeys (set keys at key)
  alone e = take_place keys at key whole there (λ i p ne same.
      let f : other_than at (row_of key keys) ≡ Some i = ap (other_than at) (key_found keys key i whole p same) ∙ ap (λ b. cond b None (Some i)) (ne_eqb i at ne) in
      clash i (e ∙ f))
    where
      clash : (i : ℕ) → None ≡ Some i → ⊥
      clash i f = cc

  -- the other row of the key goes
  module _ (k : ℕ) (e : Some k ≡ other_than at (row_of key keys)) where
    other : (row_of key keys ≡ Some k) × (k ≢ at)
    other = other_is at k (row_of key keys) e

    found : (k < length keys) × (get_or keys k [] ≡ key)
    found = found_key key keys k other.0

    pub other_there : k < length keys
    other_there = found.0

    pub fewer_keys : AreKeys (remove keys k)
    fewer_keys = fewer keys k found.0 whole

    away : Contains (remove keys k) key → ⊥
    away = gone keys k key whole found.0 (slice_get-get_or keys k [] found.0 ∙ ap Some found.1)

    pub left_there : closed k at < length (remove keys k)
    left_there = apart_there keys key at k there found.0 other.1

    pub changed_keys : AreKeys (set (remove keys k) (closed k at) key)
    changed_keys = take_place (remove keys k) (closed k at) key fewer_keys left_there (others_of_none (remove keys k) (closed k at) key fewer_keys left_there away)

    pub changed_is : set (remove keys k) (closed k at) key ≡ remove (set keys at key) k
    changed_is = set_apart keys key at k there found.0 other.1

-- no row has the key
pub missing : (keys : List (List Datum)) (key : List Datum) → AreKeys keys → row_of key keys ≡ None → Contains keys key → ⊥
missing keys key whole none has =
    let f = key_found keys key has.0 whole has.1 (get_or_default keys has.0 [] key has.1 ∙ has.2) in
    let g : None ≡ Some has.0 = sym none ∙ f in
    cc

-- a row of the same key takes the place of one
pub replaced_key : (keys : List (List Datum)) (key : List Datum) (at : ℕ) → row_of key keys ≡ Some at → keys ≡ insert (remove keys at) at key
replaced_key keys key at e =
    let f = found_key key keys at e in
    let n = length-take-le at keys (let p = f.0 in omega arith) in
    sym (
    ap (λ xs. xs ++ key ∷ drop at (remove keys at)) (take_at (take at keys) (drop (suc at) keys) at n)
    ∙ ap (λ ys. take at keys ++ key ∷ ys) (drop_at (take at keys) (drop (suc at) keys) at n)
    ∙ ap (λ k. take at keys ++ k ∷ drop (suc at) keys) (sym f.1)
    ∙ ap (λ ys. take at keys ++ ys) (sym (drop_more keys at [] f.0 ∙ ap (λ j. get_or keys at [] ∷ drop j keys) (let s : at + 1 ≡ suc at = omega arith in s)))
    ∙ take-append-drop at keys
    )

-- the keys of edited rows
map_set : {X Y : Type 0} (f : X → Y) (xs : List X) (i : ℕ) (x : X) → map f (set xs i x) ≡ set (map f xs) i (f x)
map_set f xs i x = map-set f xs i x

drop_map : {X Y : Type 0} (f : X → Y) (n : ℕ) (xs : List X) → drop n (map f xs) ≡ map f (drop n xs)
drop_map f zero xs = refl
drop_map f (suc n) [] = refl
drop_map f (suc n) (x ∷ xs) = drop_map f n xs

map_replicate : {X Y : Type 0} (f : X → Y) (n : ℕ) (x : X) → map f (replicate n x) ≡ replicate n (f x)
map_replicate f zero x = refl
map_replicate f (suc n) x = ap (λ ys. f x ∷ ys) (map_replicate f n x)

map_edited : {X Y : Type 0} (f : X → Y) (x : X) (e : RowEdit) (xs : List X) → map f (edited x e xs) ≡ edited (f x) e (map f xs)
map_edited f x (Insert at count) xs =
    map-append f (take at xs) (replicate count x ++ drop at xs) ∙ ap (λ ys. map f (take at xs) ++ ys) (map-append f (replicate count x) (drop at xs) ∙ ap (λ ys. ys ++ map f (drop at xs)) (map_replicate f count x) ∙ ap (λ ys. replicate count (f x) ++ ys) (sym (drop_map f at xs)))
    ∙ ap (λ ys. ys ++ (replicate count (f x) ++ drop at (map f xs))) (sym (take-map f at xs))
map_edited f x (Remove at count) xs =
    map-append f (take at xs) (drop (at + count) xs) ∙ ap (λ ys. ys ++ map f (drop (at + count) xs)) (sym (take-map f at xs)) ∙ ap (λ ys. take at (map f xs) ++ ys) (sym (drop_map f (at + count) xs))
map_edited f x (Change at) xs = map_set f xs at x

pub map_edits : {X Y : Type 0} (f : X → Y) (edits : List RowEdit) (x : X) (xs : List X) → map f (edited_by x edits xs) ≡ edited_by (f x) edits (map f xs)
map_edits f [] x xs = refl
map_edits f (e ∷ edits) x xs = map_edits f edits x (edited x e xs) ∙ ap (edited_by (f x) edits) (map_edited f x e xs)
