-- The positions of the rows that are the same as one, and the first positions.
use Rattle.std.proofs.Common.{◌≡◌, ◌⊎◌, ℕ, zero, suc, ◌+◌, ◌<◌, ◌≤◌, Bool, true, false, not, cond, All, List, [], ◌∷◌, length, get_or, map, filter, refl, ap, sym, subst, ◌∙◌, inl, inr, arith}
use Rattle.std.specs.List.{AllByRecursion as Each}
use Rattle.std.specs.List.Sorted.{IsSorted}
use Rattle.std.specs.Prelude.{IsPermutation}
use Rattle.std.specs.declared.cmp.Ordering.TheVariants.{Less, Equal}
use Rattle.std.specs.Ordering.{nat_cmp}
use Rattle.std.specs.Cmp.{nat_cmp_total}
use Rattle.std.proofs.lemmas.Bool.{false≢true, cases_Bool}
use Rattle.std.proofs.lemmas.Cmp.{ranked}
use Rattle.std.proofs.lemmas.List.{length-map}
use Rattle.std.proofs.lemmas.List.Sorted.{Contains-permutation, IsPermutation-sym}
use Rattle.mk_value.specs.Data.{Datum}
use Rattle.relations.specs.Equality.{same_row}
use Rattle.derived.specs.Operators.{distinct}
use Rattle.relations.specs.Rows.{rows_at}
use Rattle.relations.specs.WholeOrder.{whole_row_cmp}
use Rattle.relations.specs.OrderLaws.{whole_row_cmp_total}
use Rattle.grouping.specs.Index.{positions_of, keys_of, first_positions}
use Rattle.relations.proofs.Ascending.{IsIn, each_in, each_from_in, in_at, place_of, in_from_contains, contains_from_in, Ascends, ascends_same, nat_less, less_nat, not_less}
use Rattle.grouping.proofs.Ascending.{in_map, in_map_back, in_filter, in_filter_back, ascends_cond, ascends_map, ascends_filter}
use Rattle.grouping.proofs.Duplicates.{AreDistinct, distinct_permutation, sorted_ascends}
use Rattle.relations.proofs.Equal.{rows_equal, same_itself, same_from_equal}
use Rattle.grouping.proofs.DistinctRows.{in_keys, in_keys_back, keys_ascend, less_few}

in_either_way : (b : Bool) (i : ℕ) (ps : List ℕ) → IsIn i ps → IsIn i (cond b (0 ∷ ps) ps)
in_either_way true i ps h = inr h
in_either_way false i ps h = h

pub in_positions : (rows : List (List Datum)) (row : List Datum) (i : ℕ) → i < length rows → same_row (get_or rows i []) row ≡ true → IsIn i (positions_of rows row)
in_positions [] row i p e = absurd (omega arith)
in_positions (first ∷ rest) row zero p e =
    subst (λ b. IsIn 0 (cond b (0 ∷ map suc (positions_of rest row)) (map suc (positions_of rest row)))) (sym e) (inl refl)
in_positions (first ∷ rest) row (suc i) p e =
    in_either_way (same_row first row) (suc i) (map suc (positions_of rest row)) (in_map suc (positions_of rest row) i (in_positions rest row i (omega arith) e))

zero_or_behind : (b c : Bool) (i : ℕ) (ps : List ℕ) → c ≡ b → IsIn i (cond b (0 ∷ ps) ps) → ((0 ≡ i) × (c ≡ true)) ⊎ IsIn i ps
zero_or_behind true c i ps e (inl z) = inl (z, e)
zero_or_behind true c i ps e (inr h) = inr h
zero_or_behind false c i ps e h = inr h

abbrev IsPosition : List (List Datum) → List Datum → ℕ → Type 0
IsPosition rows row i = (i < length rows) × (same_row (get_or rows i []) row ≡ true)

pub in_positions_back : (rows : List (List Datum)) (row : List Datum) (i : ℕ) → IsIn i (positions_of rows row) → (i < length rows) × (same_row (get_or rows i []) row ≡ true)
in_positions_back [] row i h = absurd h
in_positions_back (first ∷ rest) row i h = elim (zero_or_behind (same_row first row) (same_row first row) i (map suc (positions_of rest row)) refl h) [
  | inl g ↦ (let at : 0 < length (first ∷ rest) = omega arith in subst (IsPosition (first ∷ rest) row) g.0 (at, g.1))
  | inr g ↦ (let r = in_map_back suc (positions_of rest row) i g in
      let back = in_positions_back rest row r.0 r.1 in
      let p = back.0 in
      let at : suc r.0 < length (first ∷ rest) = omega arith in
      subst (IsPosition (first ∷ rest) row) r.2 (at, back.1))
]

pub later_up : (ps : List ℕ) → Ascends nat_cmp ps → Ascends nat_cmp (map suc ps)
later_up ps up = ascends_map nat_cmp nat_cmp suc ps (λ x y _ _ e. let p = nat_less x y e in less_nat (suc x) (suc y) (omega arith)) up

pub zero_below : (ps : List ℕ) → Each (λ y. nat_cmp 0 y ≡ Less) (map suc ps)
zero_below ps = each_from_in (λ y. nat_cmp 0 y ≡ Less) (map suc ps) (λ y h. let r = in_map_back suc ps y h in let e = r.2 in less_nat 0 y (omega arith))

pub positions_up : (rows : List (List Datum)) (row : List Datum) → Ascends nat_cmp (positions_of rows row)
positions_up [] row = tt
positions_up (first ∷ rest) row =
    ascends_cond nat_cmp (same_row first row) 0 (map suc (positions_of rest row)) (zero_below (positions_of rest row)) (later_up (positions_of rest row) (positions_up rest row))

pub positions_none : (rows : List (List Datum)) (row : List Datum) → (IsIn row rows → ⊥) → positions_of rows row ≡ []
positions_none [] row no' = refl
positions_none (first ∷ rest) row no' = elim (cases_Bool (same_row first row)) [
  | inl t ↦ absurd (no' (inl (rows_equal first row t)))
  | inr f ↦ (let behind = map suc (positions_of rest row) in
      ap (λ b. cond b (0 ∷ behind) behind) f ∙ ap (map suc) (positions_none rest row (λ h. no' (inr h))))
]

few_either : (b : Bool) (n : ℕ) (ps : List ℕ) → length ps ≤ n → length (cond b (0 ∷ ps) ps) ≤ n + 1
few_either true n ps p = omega arith
few_either false n ps p = omega arith

pub positions_few : (rows : List (List Datum)) (row : List Datum) → length (positions_of rows row) ≤ length rows
positions_few [] row = omega arith
positions_few (first ∷ rest) row =
    let p = positions_few rest row in
    let m = length-map (positions_of rest row) suc in
    let few = few_either (same_row first row) (length rest) (map suc (positions_of rest row)) (omega arith) in
    omega arith

pub map_suc : {X : Type 0} (h : ℕ → X) (ps : List ℕ) → map h (map suc ps) ≡ map (λ i. h (suc i)) ps
map_suc h [] = refl
map_suc h (p ∷ ps) = ap (λ zs. h (suc p) ∷ zs) (map_suc h ps)

map_either : {X : Type 0} (b : Bool) (h : ℕ → X) (g : List Datum → X) (row : List Datum) (ps : List ℕ) (kept : List (List Datum)) → h 0 ≡ g row → map h ps ≡ map g kept → map h (cond b (0 ∷ ps) ps) ≡ map g (cond b (row ∷ kept) kept)
map_either true h g row ps kept e f = ap (λ z. z ∷ map h ps) e ∙ ap (λ zs. g row ∷ zs) f
map_either false h g row ps kept e f = f

-- what is made of the rows at the positions of a key is made of the rows that have it
pub map_positions : {X : Type 0} (f : List Datum → List Datum) (g : List Datum → X) (rows : List (List Datum)) (key : List Datum)
    → map (λ i. g (get_or rows i [])) (positions_of (map f rows) key) ≡ map g (filter (λ row. same_row (f row) key) rows)
map_positions f g [] key = refl
map_positions f g (row ∷ rest) key =
    map_either (same_row (f row) key) (λ i. g (get_or (row ∷ rest) i [])) g row (map suc (positions_of (map f rest) key)) (filter (λ row. same_row (f row) key) rest) refl
    (map_suc (λ i. g (get_or (row ∷ rest) i [])) (positions_of (map f rest) key) ∙ map_positions f g rest key)

length_either : (b : Bool) (row : List Datum) (ps : List ℕ) (kept : List (List Datum)) → length ps ≡ length kept → length (cond b (0 ∷ ps) ps) ≡ length (cond b (row ∷ kept) kept)
length_either true row ps kept e = omega arith
length_either false row ps kept e = e

-- a key has as many positions as rows
pub length_positions : (f : List Datum → List Datum) (rows : List (List Datum)) (key : List Datum) → length (positions_of (map f rows) key) ≡ length (filter (λ row. same_row (f row) key) rows)
length_positions f [] key = refl
length_positions f (row ∷ rest) key =
    length_either (same_row (f row) key) row (map suc (positions_of (map f rest) key)) (filter (λ row. same_row (f row) key) rest)
    (length-map (positions_of (map f rest) key) suc ∙ length_positions f rest key)

-- the first position of a row
abbrev pub head_of : List ℕ → ℕ
head_of ps = get_or ps 0 0

head_in : (ps : List ℕ) (i : ℕ) → IsIn i ps → IsIn (head_of ps) ps
head_in [] i h = absurd h
head_in (p ∷ ps) i h = inl refl

pub some_positions : (rows : List (List Datum)) (row : List Datum) → IsIn row rows → 0 < length (positions_of rows row)
some_positions rows row h =
    let r = place_of rows row h in
    let here = in_positions rows row r.0 r.1 (same_from_equal (get_or rows r.0 []) row (r.2 [])) in
    let at = place_of (positions_of rows row) r.0 here in
    let p = at.1 in
    omega arith

head_map_suc : (ps : List ℕ) (i : ℕ) → IsIn i ps → head_of (map suc ps) ≡ suc (head_of ps)
head_map_suc [] i h = absurd h
head_map_suc (p ∷ ps) i h = refl

abbrev IsFirst : List (List Datum) → ℕ → Type 0
IsFirst rows i = (i < length rows) × (head_of (positions_of rows (get_or rows i [])) ≡ i)

position_itself : (rows : List (List Datum)) (i : ℕ) → i < length rows → IsIn i (positions_of rows (get_or rows i []))
position_itself rows i p = in_positions rows (get_or rows i []) i p (same_itself (get_or rows i []))

head_behind : (first : List Datum) (rest : List (List Datum)) (j : ℕ) → j < length rest → same_row first (get_or rest j []) ≡ false
    → head_of (positions_of (first ∷ rest) (get_or rest j [])) ≡ suc (head_of (positions_of rest (get_or rest j [])))
head_behind first rest j p e =
    let behind = map suc (positions_of rest (get_or rest j [])) in
    ap (λ b. head_of (cond b (0 ∷ behind) behind)) e ∙ head_map_suc (positions_of rest (get_or rest j [])) j (position_itself rest j p)

head_before : (first : List Datum) (rest : List (List Datum)) (j : ℕ) → same_row first (get_or rest j []) ≡ true → head_of (positions_of (first ∷ rest) (get_or rest j [])) ≡ 0
head_before first rest j e =
    let behind = map suc (positions_of rest (get_or rest j [])) in
    ap (λ b. head_of (cond b (0 ∷ behind) behind)) e

not_true : (b : Bool) → not b ≡ true → b ≡ false
not_true true e = absurd (false≢true e)
not_true false e = refl

pub first_is : (rows : List (List Datum)) (i : ℕ) → IsIn i (first_positions rows) → (i < length rows) × (head_of (positions_of rows (get_or rows i [])) ≡ i)
first_is [] i h = absurd h
first_is (row ∷ rest) i (inl e) =
    let at : 0 < length (row ∷ rest) = omega arith in
    let behind = map suc (positions_of rest row) in
    subst (IsFirst (row ∷ rest)) e (at, ap (λ b. head_of (cond b (0 ∷ behind) behind)) (same_itself row))
first_is (row ∷ rest) i (inr h) =
    let r = in_map_back suc (filter (λ i. not (same_row row (get_or rest i []))) (first_positions rest)) i h in
    let kept = in_filter_back (λ i. not (same_row row (get_or rest i []))) (first_positions rest) r.0 r.1 in
    let before = first_is rest r.0 kept.0 in
    let p = before.0 in
    let at : suc r.0 < length (row ∷ rest) = omega arith in
    subst (IsFirst (row ∷ rest)) r.2 (at, head_behind row rest r.0 before.0 (not_true (same_row row (get_or rest r.0 [])) kept.1) ∙ ap suc before.1)

pub is_first : (rows : List (List Datum)) (i : ℕ) → i < length rows → head_of (positions_of rows (get_or rows i [])) ≡ i → IsIn i (first_positions rows)
is_first [] i p e = absurd (omega arith)
is_first (row ∷ rest) zero p e = inl refl
is_first (row ∷ rest) (suc j) p e = elim (cases_Bool (same_row row (get_or rest j []))) [
  | inl t ↦ (let f = head_before row rest j t in let z : 0 ≡ suc j = sym f ∙ e in absurd (omega arith))
  | inr f ↦ (let q : j < length rest = omega arith in
      let g = head_behind row rest j q f in
      let same : suc (head_of (positions_of rest (get_or rest j []))) ≡ suc j = sym g ∙ e in
      inr (in_map suc (filter (λ i. not (same_row row (get_or rest i []))) (first_positions rest)) j
      (in_filter (λ i. not (same_row row (get_or rest i []))) (first_positions rest) j (is_first rest j q (omega arith)) (ap not f))))
]

pub firsts_up : (rows : List (List Datum)) → Ascends nat_cmp (first_positions rows)
firsts_up [] = tt
firsts_up (row ∷ rest) =
    let kept = filter (λ i. not (same_row row (get_or rest i []))) (first_positions rest) in
    (zero_below kept, later_up kept (ascends_filter nat_cmp (λ i. not (same_row row (get_or rest i []))) (first_positions rest) (firsts_up rest)))

map_if : {X : Type 0} (b : Bool) (h : ℕ → X) (x : ℕ) (xs : List ℕ) (ys : List X) → map h xs ≡ ys → map h (cond b (x ∷ xs) xs) ≡ cond b (h x ∷ ys) ys
map_if true h x xs ys e = ap (λ zs. h x ∷ zs) e
map_if false h x xs ys e = e

pub map_filter : {X : Type 0} (h : ℕ → X) (q : X → Bool) (xs : List ℕ) → map h (filter (λ i. q (h i)) xs) ≡ filter q (map h xs)
map_filter h q [] = refl
map_filter h q (x ∷ xs) = map_if (q (h x)) h x (filter (λ i. q (h i)) xs) (filter q (map h xs)) (map_filter h q xs)

-- the rows at the first positions are the distinct rows
pub rows_at_firsts : (rows : List (List Datum)) → rows_at rows (first_positions rows) ≡ distinct rows
rows_at_firsts [] = refl
rows_at_firsts (row ∷ rest) =
    ap (λ zs. row ∷ zs) (map_suc (λ i. get_or (row ∷ rest) i []) (filter (λ i. not (same_row row (get_or rest i []))) (first_positions rest))
    ∙ map_filter (λ i. get_or rest i []) (λ other. not (same_row row other)) (first_positions rest)
    ∙ ap (filter (λ other. not (same_row row other))) (rows_at_firsts rest))

-- the first positions of all keys, in any order
abbrev pub heads : List (List Datum) → List (List Datum) → List ℕ
heads rows keys = map (λ key. head_of (positions_of rows key)) keys

head_key : (rows : List (List Datum)) (key : List Datum) → IsIn key rows → IsPosition rows key (head_of (positions_of rows key))
head_key rows key h =
    let r = place_of rows key h in
    let here = in_positions rows key r.0 r.1 (same_from_equal (get_or rows r.0 []) key (r.2 [])) in
    in_positions_back rows key (head_of (positions_of rows key)) (head_in (positions_of rows key) r.0 here)

heads_distinct : (rows keys : List (List Datum)) → Ascends whole_row_cmp keys → ((z : List Datum) → IsIn z keys → IsIn z rows) → AreDistinct (heads rows keys)
heads_distinct rows [] up inside = tt
heads_distinct rows (key ∷ keys) up inside = (
  each_from_in (λ i. i ≡ head_of (positions_of rows key) → ⊥) (heads rows keys) (λ i h e.
      let r = in_map_back (λ key. head_of (positions_of rows key)) keys i h in
      let one = rows_equal (get_or rows (head_of (positions_of rows key)) []) key (head_key rows key (inside key (inl refl))).1 in
      let two = rows_equal (get_or rows (head_of (positions_of rows r.0)) []) r.0 (head_key rows r.0 (inside r.0 (inr r.1))).1 in
      let same : key ≡ r.0 = sym one ∙ ap (λ i. get_or rows i []) (sym (r.2 ∙ e)) ∙ two in
      not_less whole_row_cmp_total key (subst (λ z. whole_row_cmp key z ≡ Less) (sym same) (each_in (λ z. whole_row_cmp key z ≡ Less) keys r.0 up.0 r.1))),
  heads_distinct rows keys up.1 (λ z h. inside z (inr h)),
)

nat_tied : (a b : ℕ) → nat_cmp a b ≡ Equal → a ≡ b
nat_tied a b e = ranked a b Equal (sym e)

map_itself : (ps : List ℕ) → map (λ i. i) ps ≡ ps
map_itself [] = refl
map_itself (p ∷ ps) = ap (λ zs. p ∷ zs) (map_itself ps)

-- sorted, they are the first positions
pub sorted_heads : (rows : List (List Datum)) (ps : List ℕ) → IsPermutation (heads rows (keys_of rows)) ps → IsSorted nat_cmp ps → ps ≡ first_positions rows
sorted_heads rows ps moved sorted =
    let apart = heads_distinct rows (keys_of rows) (keys_ascend rows) (in_keys_back rows) in
    let up = sorted_ascends nat_cmp nat_cmp_total (λ i. i) nat_tied ps sorted (subst AreDistinct (sym (map_itself ps)) (distinct_permutation (heads rows (keys_of rows)) ps apart moved)) in
    ascends_same nat_cmp_total ps (first_positions rows) up (firsts_up rows)
    (λ i h.
    let back = in_from_contains (heads rows (keys_of rows)) i (Contains-permutation ps (heads rows (keys_of rows)) i (IsPermutation-sym (heads rows (keys_of rows)) ps moved) (contains_from_in ps i h)) in
    let r = in_map_back (λ key. head_of (positions_of rows key)) (keys_of rows) i back in
    let at = head_key rows r.0 (in_keys_back rows r.0 r.1) in
    let same : get_or rows i [] ≡ r.0 = ap (λ i. get_or rows i []) (sym r.2) ∙ rows_equal (get_or rows (head_of (positions_of rows r.0)) []) r.0 at.1 in
    is_first rows i (subst (λ i. i < length rows) r.2 at.0) (ap (λ row. head_of (positions_of rows row)) same ∙ r.2))
    (λ i h.
    let f = first_is rows i h in
    let key = in_keys rows (get_or rows i []) (in_at rows i [] f.0) in
    let there = in_map (λ key. head_of (positions_of rows key)) (keys_of rows) (get_or rows i []) key in
    in_from_contains ps i (Contains-permutation (heads rows (keys_of rows)) ps i moved (contains_from_in (heads rows (keys_of rows)) i (subst (λ j. IsIn j (heads rows (keys_of rows))) f.1 there))))

pub firsts_few : (rows : List (List Datum)) → length (first_positions rows) ≤ length rows
firsts_few [] = omega arith
firsts_few (row ∷ rest) =
    let test : ℕ → Bool = λ i. not (same_row row (get_or rest i [])) in
    let kept = less_few test (first_positions rest) in
    let behind = length-map (filter test (first_positions rest)) suc in
    let before = firsts_few rest in
    omega arith

pub firsts_in : (rows : List (List Datum)) → All (λ i. i < length rows) (first_positions rows)
firsts_in rows = λ k d p. (first_is rows (get_or (first_positions rows) k d) (in_at (first_positions rows) k d p)).0
