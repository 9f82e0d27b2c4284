-- The distinct keys in the order of keys are those in the order of whole rows.
use Rattle.std.proofs.Common.{◌≡◌, ℕ, Bool, true, false, if◌then◌else◌, List, [], ◌∷◌, map, refl, ap, sym, subst, ◌∙◌, inl, inr}
use Rattle.std.specs.List.{AllByRecursion as Each, IsDistinct}
use Rattle.std.specs.declared.cmp.Ordering.{Ordering}
use Rattle.std.specs.Ordering.{is_gt, ordering_then}
use Rattle.std.specs.Cmp.Lexicographic.{nat_list_eq_equiv}
use Rattle.std.proofs.lemmas.Bool.{false≢true}
use Rattle.std.proofs.lemmas.Map.Keys.{IsDistinct-head, IsDistinct-tail}
use Rattle.mk_value.specs.Names.{same_bytes}
use Rattle.mk_value.specs.Heading.{Domain, Attribute}
use Rattle.mk_value.specs.Data.{Datum, integer, long, text, bytes, relation, IsOf, IsRowOf}
use Rattle.mk_value.specs.Order.{value_cmp, IsPlain}
use Rattle.mk_value.specs.Tables.{Table}
use Rattle.relations.specs.declared.criteria.Key.{Key}
use Rattle.relations.specs.Fitting.{is_view}
use Rattle.derived.specs.Grouping.{distinct_keys}
use Rattle.derived.specs.Operators.{distinct as first_rows}
use Rattle.relations.specs.Rows.{is_named, domain_of, value_of, properties_of, values_of}
use Rattle.relations.specs.Sorting.{put, sorted, row_cmp}
use Rattle.relations.specs.WholeOrder.{whole_cmp, whole_row_cmp}
use Rattle.grouping.specs.Index.{keys_of}
use Rattle.relations.proofs.Ascending.{IsIn}
use Rattle.grouping.proofs.Ascending.{in_map_back}
use Rattle.relations.proofs.Ascending.{in_sorted_back}
use Rattle.grouping.proofs.DistinctRows.{in_distinct_back}

-- two orders that agree on the elements sort them alike
put_agrees : {X : Type 0} (one two : X → X → Ordering) (x : X) (ys : List X) → ((y : X) → IsIn y ys → one x y ≡ two x y) → put one x ys ≡ put two x ys
put_agrees one two x [] agree = refl
put_agrees one two x (y ∷ ys) agree =
    λ i. if is_gt (agree y (inl refl) i) then y ∷ put_agrees one two x ys (λ z h. agree z (inr h)) i else x ∷ y ∷ ys

sorted_agrees : {X : Type 0} (one two : X → X → Ordering) (xs : List X) → ((x y : X) → IsIn x xs → IsIn y xs → one x y ≡ two x y) → sorted one xs ≡ sorted two xs
sorted_agrees one two [] agree = refl
sorted_agrees one two (x ∷ xs) agree =
    ap (put one x) (sorted_agrees one two xs (λ y z g h. agree y z (inr g) (inr h)))
    ∙ put_agrees one two x (sorted two xs) (λ y h. agree x y (inl refl) (inr (in_sorted_back two xs y h)))

-- a row with a value for each name, none of them a view
abbrev pub ArePlain : List (List ℕ) → List Datum → Type 0
ArePlain [] [] = Unit {0}
ArePlain [] (d ∷ row) = ⊥
ArePlain (name ∷ names) [] = ⊥
ArePlain (name ∷ names) (d ∷ row) = IsPlain d × ArePlain names row

plain_cmp : (a b : Datum) → IsPlain a → value_cmp a b ≡ whole_cmp a b
plain_cmp (relation r) (relation s) p = absurd p
plain_cmp _ _ p = refl

abbrev key_of : List ℕ → Key
key_of name = record { prop = name; down = false }

-- a property that no key names does not count
skip : (p : Attribute) (schema : List Attribute) (x y : Datum) (a b : List Datum) (names : List (List ℕ)) → Each (λ n. same_bytes p.name n ≡ false) names
    → row_cmp (p ∷ schema) (map key_of names) (x ∷ a) (y ∷ b) ≡ row_cmp schema (map key_of names) a b
skip p schema x y a b [] apart = refl
skip p schema x y a b (n ∷ names) apart =
    λ i. ordering_then (value_cmp (if apart.0 i then x else value_of schema a n) (if apart.0 i then y else value_of schema b n)) (skip p schema x y a b names apart.1 i)

rows_agree : (schema : List Attribute) (names : List (List ℕ)) (a b : List Datum) → IsDistinct same_bytes names → ArePlain names a → ArePlain names b
    → row_cmp (properties_of schema names) (map key_of names) a b ≡ whole_row_cmp a b
rows_agree schema [] [] [] distinct p q = refl
rows_agree schema [] [] (y ∷ b) distinct p q = absurd q
rows_agree schema [] (x ∷ a) b distinct p q = absurd p
rows_agree schema (n ∷ names) [] b distinct p q = absurd p
rows_agree schema (n ∷ names) (x ∷ a) [] distinct p q = absurd q
rows_agree schema (n ∷ names) (x ∷ a) (y ∷ b) distinct p q =
    let own = nat_list_eq_equiv.refl n in
    let first : Attribute = record { name = n; domain = domain_of schema n } in
    let rest = properties_of schema names in
    (λ i. ordering_then (value_cmp (if own i then x else value_of rest a n) (if own i then y else value_of rest b n)) (row_cmp (first ∷ rest) (map key_of names) (x ∷ a) (y ∷ b)))
    ∙ (λ i. ordering_then (plain_cmp x y p.0 i) (skip first rest x y a b names (IsDistinct-head same_bytes n names distinct) i))
    ∙ ap (ordering_then (whole_cmp x y)) (rows_agree schema names a b (IsDistinct-tail same_bytes n names distinct) p.1 q.1)

-- values of properties that are no views are no views
plain_value : (d : Datum) (e : Domain) → IsOf d e → is_view e ≡ false → IsPlain d
plain_value (integer z) e h v = tt
plain_value (long z) e h v = tt
plain_value (text content) e h v = tt
plain_value (bytes content) e h v = tt
plain_value (relation r) (Domain.relation h') h v = absurd (false≢true (sym v))
plain_value (relation r) Domain.integer h v = absurd h
plain_value (relation r) Domain.long h v = absurd h
plain_value (relation r) Domain.text h v = absurd h
plain_value (relation r) Domain.bytes h v = absurd h

plain_of : (schema : List Attribute) (row : List Datum) (name : List ℕ) → IsRowOf row schema → is_view (domain_of schema name) ≡ false → IsPlain (value_of schema row name)
plain_of [] [] name h v = tt
plain_of [] (d ∷ row) name h v = tt
plain_of (a ∷ schema) [] name h v = tt
plain_of (a ∷ schema) (d ∷ row) name h v = at (is_named name a) (plain_of schema row name h.1) v
  where
    at : (b : Bool) → (is_view (domain_of schema name) ≡ false → IsPlain (value_of schema row name)) → is_view (if b then a.domain else domain_of schema name) ≡ false → IsPlain (if b then d else value_of schema row name)
    at true rest w = plain_value d a.domain h.0 w
    at false rest w = rest w

pub plain_values : (schema : List Attribute) (names : List (List ℕ)) (row : List Datum) → Each (λ n. is_view (domain_of schema n) ≡ false) names → IsRowOf row schema → ArePlain names (values_of schema names row)
plain_values schema [] row plain h = tt
plain_values schema (n ∷ names) row plain h = (plain_of schema row n h plain.0, plain_values schema names row plain.1 h)

-- the distinct keys of a table are those of the index of its keys
pub distinct_keys_are : (names : List (List ℕ)) (t : Table) → IsDistinct same_bytes names → Each (λ n. is_view (domain_of t.schema n) ≡ false) names → ((row : List Datum) → IsIn row t.rows → IsRowOf row t.schema)
    → distinct_keys names t ≡ keys_of (map (values_of t.schema names) t.rows)
distinct_keys_are names t distinct plain whole =
    let rows = map (values_of t.schema names) t.rows in
    let each : (row : List Datum) → IsIn row rows → ArePlain names row = λ row h.
    let r = in_map_back (values_of t.schema names) t.rows row h in
    subst (ArePlain names) r.2 (plain_values t.schema names r.0 plain (whole r.0 r.1)) in
    sorted_agrees (row_cmp (properties_of t.schema names) (map key_of names)) whole_row_cmp (first_rows rows)
    (λ a b g h. rows_agree t.schema names a b distinct (each a (in_distinct_back rows a g)) (each b (in_distinct_back rows b h)))
