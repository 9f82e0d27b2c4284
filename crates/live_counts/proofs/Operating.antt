-- The runs of equal keys are the rows of the operator.
use Rattle.std.proofs.Common.{◌≡◌, ℕ, ◌+◌, ◌-◌, ◌<◌, pos, Bool, true, false, cond, ltb, List, [], ◌∷◌, ◌++◌, length, get_or, map, None, All, refl, ap, sym, subst, ◌∙◌, arith, inl, inr}
use Rattle.std.specs.List.{count_by, filter}
use Rattle.std.specs.Ordering.{is_eq, ordering_then}
use Rattle.std.proofs.lemmas.List.{get_or-map, length-map}
use Rattle.std.proofs.lemmas.List.Elements.{All-head, All-tail, recursion_from_All}
use Rattle.std.proofs.lemmas.List.Sums.{length-filter}
use Rattle.mk_value.specs.Data.{Datum, integer, relation, AreRowsOf, IsRowOf}
use Rattle.mk_value.specs.Heading.{Attribute, Domain}
use Rattle.mk_value.specs.Order.{IsPlain, value_cmp}
use Rattle.mk_value.specs.Tables.{Table}
use Rattle.relations.specs.Columns.{column_of}
use Rattle.relations.specs.Equality.{same_row}
use Rattle.relations.specs.Fitting.{is_view}
use Rattle.relations.specs.Positions.{numbers}
use Rattle.relations.specs.Refusals.{a_view, absent}
use Rattle.relations.specs.Rows.{domain_of, has, once, value_of, values_of}
use Rattle.relations.specs.Sorting.{row_cmp}
use Rattle.relations.specs.WholeOrder.{whole_cmp, whole_row_cmp}
use Rattle.relations.specs.declared.criteria.Key.{Key}
use Rattle.relations.proofs.Ascending.{Ascends, IsIn, ascends_from_pairs, in_at, place_of}
use Rattle.relations.proofs.Equal.{rows_equal, same_row_is}
use Rattle.relations.proofs.Names.{property_at_column}
use Rattle.relations.proofs.Numbers.{length-numbers, numbers_at}
use Rattle.derived.specs.Grouping.{counts, distinct_keys, group}
use Rattle.grouping.proofs.Agreeing.{ArePlain, plain_values}
use Rattle.grouping.proofs.Ascending.{in_map, in_map_back}
use Rattle.grouping.proofs.DistinctRows.{keys_are}
use Rattle.grouping.proofs.KeyColumns.{index_keys, keys_plain}
use Rattle.live.specs.Watching.{positions}
use Rattle.live.specs.declared.op.WatchOp.TheVariants.{Sort}
use Rattle.live_counts.specs.Counting.{keys_in}
use Rattle.live_counts.specs.Runs.{flags, raised, ties}
use Rattle.live_counts.proofs.Spans.{counted_run, first_within, keys_rise, row_in_run}

abbrev pub key_of : List ℕ → Key
key_of name = record { prop = name; down = false }

plain_cmp : (a b : Datum) → IsPlain a → value_cmp a b ≡ whole_cmp a b
plain_cmp (relation r) (relation s) p = absurd p
plain_cmp _ _ p = refl

-- rows stand in the order of their keys as the keys do
keyed_cmp : (schema : List Attribute) (names : List (List ℕ)) (a b : List Datum) → ArePlain names (values_of schema names a)
    → row_cmp schema (map key_of names) a b ≡ whole_row_cmp (values_of schema names a) (values_of schema names b)
keyed_cmp schema [] a b p = refl
keyed_cmp schema (n ∷ names) a b p =
    ap (λ o. ordering_then o (row_cmp schema (map key_of names) a b)) (plain_cmp (value_of schema a n) (value_of schema b n) p.0)
    ∙ ap (ordering_then (whole_cmp (value_of schema a n) (value_of schema b n))) (keyed_cmp schema names a b p.1)

-- the keys in the columns of names
pub keys_named : (schema : List Attribute) (names : List (List ℕ)) → All (λ name. has schema name ≡ true) names → keys_in schema (map (column_of schema) names) ≡ map key_of names
keys_named schema [] here = refl
keys_named schema (n ∷ names) here =
    ap (λ (a : Attribute). (record { prop = a.name; down = false }) ∷ keys_in schema (map (column_of schema) names)) (property_at_column schema n (record { name = []; domain = Domain.integer }) (All-head (λ name. has schema name ≡ true) n names here))
    ∙ ap (λ ks. key_of n ∷ ks) (keys_named schema names (All-tail (λ name. has schema name ≡ true) n names here))

count_same : {X : Type 0} (p q : X → Bool) (xs : List X) → ((x : X) → IsIn x xs → p x ≡ q x) → filter p xs ≡ filter q xs
count_same p q [] h = refl
count_same p q (x ∷ xs) h =
    ap (λ ys. cond (p x) (x ∷ ys) ys) (count_same p q xs (λ y i. h y (inr i))) ∙ ap (λ b. cond b (x ∷ filter q xs) (filter q xs)) (h x (inl refl))

map_same : {X Y : Type 0} (f g : X → Y) (xs : List X) → ((x : X) → IsIn x xs → f x ≡ g x) → map f xs ≡ map g xs
map_same f g [] h = refl
map_same f g (x ∷ xs) h = ap (λ y. y ∷ map f xs) (h x (inl refl)) ∙ ap (λ ys. g x ∷ ys) (map_same f g xs (λ y i. h y (inr i)))

map_twice : {X Y Z : Type 0} (f : X → Y) (g : Y → Z) (xs : List X) → map g (map f xs) ≡ map (λ x. g (f x)) xs
map_twice f g [] = refl
map_twice f g (x ∷ xs) = ap (λ zs. g (f x) ∷ zs) (map_twice f g xs)

module _ (t : Table) (keys : List (List ℕ)) (count : List ℕ) (whole : AreRowsOf t.rows t.schema) (here : absent t.schema keys ≡ None) (plain : a_view t.schema keys ≡ None) where
  abbrev names : List (List ℕ)
  names = once keys

  abbrev ks : List Key
  ks = map key_of (once keys)

  abbrev key_at : List Datum → List Datum
  key_at row = values_of t.schema (once keys) row

  abbrev kept : List ℕ
  kept = positions t.schema (Sort ks) t.rows

  abbrev starts : List ℕ
  starts = raised (flags (ties t.schema (Sort ks) t.rows) kept)

  abbrev first : ℕ → ℕ
  first i = get_or kept (get_or starts i 0) 0

  abbrev first_row : ℕ → List Datum
  first_row i = get_or t.rows (first i) []

  plain_row : (row : List Datum) → IsIn row t.rows → ArePlain (once keys) (key_at row)
  plain_row row h =
      let r = place_of t.rows row h in
      plain_values t.schema (once keys) row (recursion_from_All (λ n. is_view (domain_of t.schema n) ≡ false) (once keys) (keys_plain t.schema keys plain)) (subst (λ x. IsRowOf x t.schema) (r.2 []) (whole.whole r.0 [] r.1))

  cmp_is : (a b : List Datum) → IsIn a t.rows → row_cmp t.schema ks a b ≡ whole_row_cmp (key_at a) (key_at b)
  cmp_is a b h = keyed_cmp t.schema (once keys) a b (plain_row a h)

  first_in : (i : ℕ) → i < length starts → IsIn (first_row i) t.rows
  first_in i p = in_at t.rows (first i) [] (first_within t.schema ks t.rows i p)

  abbrev firsts : List (List Datum)
  firsts = map (λ i. key_at (first_row i)) (numbers (length starts))

  first_at : (i : ℕ) (d : List Datum) → i < length starts → get_or firsts i d ≡ key_at (first_row i)
  first_at i d p =
      let n = length-numbers (length starts) in
      get_or-map (λ i. key_at (first_row i)) (numbers (length starts)) i 0 d (omega arith) ∙ ap (λ j. key_at (first_row j)) (numbers_at (length starts) i 0 p)

  firsts_long : length firsts ≡ length starts
  firsts_long = length-map (numbers (length starts)) (λ i. key_at (first_row i)) ∙ length-numbers (length starts)

  firsts_ascend : Ascends whole_row_cmp firsts
  firsts_ascend = ascends_from_pairs whole_row_cmp firsts (λ i j d p q.
      let n = firsts_long in
      let last : j < length starts = omega arith in
      let near : i < length starts = omega arith in
      ap (λ x. whole_row_cmp x (get_or firsts j d)) (first_at i d near) ∙ ap (whole_row_cmp (key_at (first_row i))) (first_at j d last)
      ∙ sym (cmp_is (first_row i) (first_row j) (first_in i near)) ∙ keys_rise t.schema ks t.rows i j p last)

  firsts_keys : (z : List Datum) → IsIn z firsts → IsIn z (map key_at t.rows)
  firsts_keys z h =
      let r = place_of firsts z h in
      let n = firsts_long in
      let p : r.0 < length starts = omega (arith, r.1) in
      subst (λ x. IsIn x (map key_at t.rows)) (sym (first_at r.0 [] p) ∙ r.2 []) (in_map key_at t.rows (first_row r.0) (first_in r.0 p))

  keys_firsts : (z : List Datum) → IsIn z (map key_at t.rows) → IsIn z firsts
  keys_firsts z h =
      let r = in_map_back key_at t.rows z h in
      let k = place_of t.rows r.0 r.1 in
      let run = row_in_run t.schema ks t.rows k.0 k.1 in
      let at : get_or t.rows k.0 [] ≡ r.0 = k.2 [] in
      let same : same_row (key_at (first_row run.0)) (key_at r.0) ≡ true =
      same_row_is (key_at (first_row run.0)) (key_at r.0) ∙ ap is_eq (sym (cmp_is (first_row run.0) r.0 (first_in run.0 run.1)))
      ∙ ap (λ x. is_eq (row_cmp t.schema ks (first_row run.0) x)) (sym at) ∙ run.2 in
      let n = firsts_long in
      let p = run.1 in
      subst (λ x. IsIn x firsts) (first_at run.0 [] run.1 ∙ rows_equal (key_at (first_row run.0)) (key_at r.0) same ∙ r.2) (in_at firsts run.0 [] (omega arith))

  firsts_are : firsts ≡ distinct_keys (once keys) t
  firsts_are = keys_are (map key_at t.rows) firsts firsts_ascend firsts_keys keys_firsts ∙ sym (index_keys t keys whole plain)

  abbrev long_of : ℕ → ℕ
  long_of i = count_by (λ row. is_eq (row_cmp t.schema ks row (first_row i))) t.rows

  group_long : (i : ℕ) → i < length starts → long_of i ≡ length (group (once keys) t (key_at (first_row i)))
  group_long i p =
      sym (length-filter (λ row. is_eq (row_cmp t.schema ks row (first_row i))) t.rows)
      ∙ ap length (count_same (λ row. is_eq (row_cmp t.schema ks row (first_row i))) (λ row. same_row (key_at row) (key_at (first_row i))) t.rows
      (λ row h. ap is_eq (cmp_is row (first_row i) h) ∙ sym (same_row_is (key_at row) (key_at (first_row i)))))

  abbrev end : ℕ → ℕ
  end i = cond (ltb (i + 1) (length starts)) (get_or starts (i + 1) 0) (length kept)

  pub runs_are : map (λ i. key_at (first_row i) ++ integer (pos (end i - get_or starts i 0)) ∷ []) (numbers (length starts)) ≡ (counts keys count t).rows
  runs_are =
      map_same (λ i. key_at (first_row i) ++ integer (pos (end i - get_or starts i 0)) ∷ []) (λ i. key_at (first_row i) ++ integer (pos (length (group (once keys) t (key_at (first_row i))))) ∷ []) (numbers (length starts))
      (λ i h.
      let r = place_of (numbers (length starts)) i h in
      let n = length-numbers (length starts) in
      let q : r.0 < length starts = omega (arith, r.1) in
      let p : i < length starts = subst (λ j. j < length starts) (sym (numbers_at (length starts) r.0 0 q) ∙ r.2 0) q in
      ap (λ m. key_at (first_row i) ++ integer (pos m) ∷ []) (counted_run t.schema ks t.rows i p ∙ group_long i p))
      ∙ sym (map_twice (λ i. key_at (first_row i)) (λ key. key ++ integer (pos (length (group (once keys) t key))) ∷ []) (numbers (length starts)))
      ∙ ap (map (λ key. key ++ integer (pos (length (group (once keys) t key))) ∷ [])) firsts_are
