-- The keys of a table with the numbers of their rows are a table.
use Rattle.std.proofs.Common.{◌≡◌, ℕ, ◌+◌, ◌<◌, ◌≤◌, pos, Bool, true, false, not, nat_lt, All, List, [], ◌∷◌, ◌++◌, length, get_or, map, None, refl, ap, sym, subst, ◌∙◌, arith, FitsSigned, if◌then◌else◌}
use Rattle.std.specs.Int.{w32}
use Rattle.std.specs.Ordering.{is_gt}
use Rattle.std.specs.declared.cmp.Ordering.{Ordering}
use Rattle.std.proofs.lemmas.List.{length-map, length-append}
use Rattle.mk_value.specs.Limits.{max_rows, max_properties}
use Rattle.mk_value.specs.Heading.{Domain, Attribute, IsHeading, IsWithinLimits}
use Rattle.mk_value.specs.Data.{Datum, integer, IsOf, IsRowOf, AreRowsOf}
use Rattle.mk_value.specs.Tables.{Table}
use Rattle.relations.specs.declared.error.DerivedError.TheVariants.{NameTaken, TooWide}
use Rattle.relations.specs.Equality.{same_row}
use Rattle.derived.specs.Grouping.{counts, group}
use Rattle.derived.specs.Operators.{distinct}
use Rattle.relations.specs.Refusals.{where_so, absent, a_view, too_wide, first_of}
use Rattle.derived.specs.Refusals.{counts_due}
use Rattle.relations.specs.Rows.{domain_of, is_among, once, properties_of, values_of}
use Rattle.relations.specs.Sorting.{put, sorted}
use Rattle.relations.proofs.Headings.{heading_of_names, once_distinct, once_some}
use Rattle.grouping.specs.Groups.{counted_key, counted_keys}
use Rattle.grouping.specs.Index.{keys_of, positions_of}
use Rattle.relations.specs.WholeOrder.{whole_row_cmp}
use Rattle.relations.proofs.Ascending.{IsIn, in_at, place_of}
use Rattle.grouping.proofs.Ascending.{in_map_back}
use Rattle.grouping.proofs.KeyColumns.{keys_here, keys_plain, keyed_whole, index_keys}
use Rattle.grouping.proofs.DistinctRows.{in_keys_back, less_few}
use Rattle.grouping.proofs.Limits.{not_so, first_none, rest_none, once_apart, depth_behind, keys_depth, limits_behind}
use Rattle.grouping.proofs.Positions.{length_positions, positions_few}

-- there are at most as many keys as rows
length_put : {X : Type 0} (cmp : X → X → Ordering) (x : X) (ys : List X) → length (put cmp x ys) ≡ length ys + 1
length_put cmp x [] = refl
length_put cmp x (y ∷ ys) = at (is_gt (cmp x y)) (length_put cmp x ys)
  where
    at : (b : Bool) → length (put cmp x ys) ≡ length ys + 1 → length (if b then y ∷ put cmp x ys else x ∷ y ∷ ys) ≡ length (y ∷ ys) + 1
    at true e = omega arith
    at false e = omega arith

length_sorted : {X : Type 0} (cmp : X → X → Ordering) (xs : List X) → length (sorted cmp xs) ≡ length xs
length_sorted cmp [] = refl
length_sorted cmp (x ∷ xs) = let e = length_put cmp x (sorted cmp xs) in let f = length_sorted cmp xs in omega arith

distinct_few : (rows : List (List Datum)) → length (distinct rows) ≤ length rows
distinct_few [] = omega arith
distinct_few (row ∷ rest) =
    let test : List Datum → Bool = λ other. not (same_row row other) in
    let kept = less_few test (distinct rest) in
    let before = distinct_few rest in
    omega arith

pub keys_few : (rows : List (List Datum)) → length (keys_of rows) ≤ length rows
keys_few rows = let e = length_sorted whole_row_cmp (distinct rows) in let f = distinct_few rows in omega arith

all_map : {X Y : Type 0} (P : Y → Type 0) (f : X → Y) (xs : List X) → ((x : X) → IsIn x xs → P (f x)) → All P (map f xs)
all_map P f xs each = λ k d p. let r = in_map_back f xs (get_or (map f xs) k d) (in_at (map f xs) k d p) in subst P r.2 (each r.0 r.1)

-- a row with a value behind it is one of the schema with a property behind it
row_push : (row : List Datum) (schema : List Attribute) (d : Datum) (last : Attribute) → IsRowOf row schema → IsOf d last.domain → IsRowOf (row ++ d ∷ []) (schema ++ last ∷ [])
row_push [] [] d last whole fits = (fits, tt)
row_push [] (a ∷ schema) d last whole fits = absurd whole
row_push (x ∷ row) [] d last whole fits = absurd whole
row_push (x ∷ row) (a ∷ schema) d last whole fits = (whole.0, row_push row schema d last whole.1 fits)

-- keys with a value behind each are rows of the keys' schema with a property behind it
pub keys_behind : (keyed : List (List Datum)) (schema : List Attribute) (last : Attribute) (more : List Datum → Datum) → AreRowsOf keyed schema → ((key : List Datum) → IsOf (more key) last.domain)
    → AreRowsOf (map (λ key. key ++ more key ∷ []) (keys_of keyed)) (schema ++ last ∷ [])
keys_behind keyed schema last more whole fits = record {
  few = let n = length-map (keys_of keyed) (λ key. key ++ more key ∷ []) in let all = whole.few in let most = keys_few keyed in omega arith;
  whole = all_map (λ row. IsRowOf row (schema ++ last ∷ [])) (λ key. key ++ more key ∷ []) (keys_of keyed) (λ key h.
      let r = place_of keyed key (in_keys_back keyed key h) in
      let own : IsRowOf key schema = subst (λ row. IsRowOf row schema) (r.2 []) (whole.whole r.0 [] r.1) in
      row_push key schema (more key) last own (fits key));
}

pub small_fits : (n : ℕ) → n ≤ max_rows → FitsSigned w32 (pos n)
small_fits n p = grind arith

-- each is a row of the schema with the count
pub counted_whole : (t : Table) (keys : List (List ℕ)) (count : List ℕ) → AreRowsOf t.rows t.schema → absent t.schema keys ≡ None
    → AreRowsOf (counted_keys (map (values_of t.schema (once keys)) t.rows)) (properties_of t.schema (once keys) ++ record { name = count; domain = Domain.integer } ∷ [])
counted_whole t keys count whole none =
    let keyed = map (values_of t.schema (once keys)) t.rows in
    let all = keyed_whole t.schema (once keys) t.rows (keys_here t.schema keys none) whole in
    keys_behind keyed (properties_of t.schema (once keys)) (record { name = count; domain = Domain.integer }) (λ key. integer (pos (length (positions_of keyed key)))) all
    (λ key. small_fits (length (positions_of keyed key)) (let p = positions_few keyed key in let few = all.few in omega arith))

-- the counted keys are what the operator gives
pub counted_are : (t : Table) (keys : List (List ℕ)) (count : List ℕ) → AreRowsOf t.rows t.schema → a_view t.schema keys ≡ None
    → (counts keys count t).rows ≡ counted_keys (map (values_of t.schema (once keys)) t.rows)
counted_are t keys count whole plain =
    let names = once keys in
    ap (map (λ key. key ++ integer (pos (length (group names t key))) ∷ [])) (index_keys t keys whole plain)
    ∙ (λ i. map (λ key. key ++ integer (pos (sym (length_positions (values_of t.schema names) t.rows key) i)) ∷ []) (keys_of (map (values_of t.schema names) t.rows)))

-- what is known where no refusal is due
pub record AreCountable (schema : List Attribute) (keys : List (List ℕ)) (count : List ℕ) : Type 0 where
  pub other : is_among keys count ≡ false
  pub present : absent schema keys ≡ None
  pub plain : a_view schema keys ≡ None
  pub few : length (once keys) + 1 ≤ max_properties

width_is : (schema : List Attribute) (names : List (List ℕ)) (last : Attribute) → length (properties_of schema names ++ last ∷ []) ≡ length names + 1
width_is schema names last =
    let property : List ℕ → Attribute = λ name. record { name = name; domain = domain_of schema name } in
    let long = length-append (properties_of schema names) (last ∷ []) in
    let own = length-map names property in
    omega arith

few_from : (n : ℕ) → nat_lt max_properties n ≡ false → n ≤ max_properties
few_from n h = grind arith

pub countable : (t : Table) (keys : List (List ℕ)) (count : List ℕ) → counts_due keys count t ≡ None → AreCountable t.schema keys count
countable t keys count h =
    let taken = where_so (is_among keys count) (NameTaken count) in
    let wide = too_wide (counts keys count t) in
    let last : Attribute = record { name = count; domain = Domain.integer } in
    let one = rest_none taken (first_of (absent t.schema keys ∷ a_view t.schema keys ∷ wide ∷ [])) h in
    let two = rest_none (absent t.schema keys) (first_of (a_view t.schema keys ∷ wide ∷ [])) one in
    let three = rest_none (a_view t.schema keys) (first_of (wide ∷ [])) two in
    record {
      other = not_so (is_among keys count) (NameTaken count) (first_none taken (first_of (absent t.schema keys ∷ a_view t.schema keys ∷ wide ∷ [])) h);
      present = first_none (absent t.schema keys) (first_of (a_view t.schema keys ∷ wide ∷ [])) one;
      plain = first_none (a_view t.schema keys) (first_of (wide ∷ [])) two;
      few = let n = length (properties_of t.schema (once keys) ++ last ∷ []) in
          let w = width_is t.schema (once keys) last in
          let f = few_from n (not_so (nat_lt max_properties n) TooWide (first_none wide (first_of []) three)) in
          omega arith;
    }

-- the keys' schema with the count is within its limits
pub counted_limits : (schema : List Attribute) (keys : List (List ℕ)) (count : List ℕ) → IsHeading schema → 0 < length keys → AreCountable schema keys count
    → IsWithinLimits (properties_of schema (once keys) ++ record { name = count; domain = Domain.integer } ∷ [])
counted_limits schema keys count whole some able =
    let last : Attribute = record { name = count; domain = Domain.integer } in
    let names = once keys in
    let deep = depth_behind (properties_of schema names) last in
    let none = keys_depth schema names (keys_plain schema keys able.plain) in
    limits_behind schema names last (heading_of_names schema names whole (keys_here schema keys able.present) (once_distinct keys) (once_some keys some)) (once_apart keys count able.other) able.few (omega arith)

-- the table of the operator
pub counted_table : (t : Table) (keys : List (List ℕ)) (count : List ℕ) (schema : List Attribute) (rows : List (List Datum)) → AreRowsOf t.rows t.schema → a_view t.schema keys ≡ None
    → schema ≡ properties_of t.schema (once keys) ++ record { name = count; domain = Domain.integer } ∷ [] → rows ≡ counted_keys (map (values_of t.schema (once keys)) t.rows)
    → record { schema = schema; rows = rows } ≡ counts keys count t
counted_table t keys count schema rows whole plain e f =
    let g = f ∙ sym (counted_are t keys count whole plain) in
    λ i. record { schema = e i; rows = g i }

-- there are as many counts as distinct keys
pub counts_long : (t : Table) (keys : List (List ℕ)) (count : List ℕ) → AreRowsOf t.rows t.schema → a_view t.schema keys ≡ None
    → length (keys_of (map (values_of t.schema (once keys)) t.rows)) ≡ length (counts keys count t).rows
counts_long t keys count whole plain =
    let keyed = map (values_of t.schema (once keys)) t.rows in
    sym (ap (λ (rows : List (List Datum)). length rows) (counted_are t keys count whole plain) ∙ length-map (keys_of keyed) (counted_key keyed))
