-- The keys of a table with the views of their rows are a table.
use Rattle.std.proofs.Common.{◌≡◌, ℕ, ◌+◌, ◌<◌, ◌≤◌, Bool, true, false, not, cond, nat_lt, All, List, [], ◌∷◌, ◌++◌, length, get_or, map, filter, Some, None, refl, ap, sym, subst, ◌∙◌, arith}
use Rattle.std.specs.List.{list_any}
use Rattle.std.specs.Option.{option_or}
use Rattle.std.specs.Cmp.Lexicographic.{nat_list_eq_equiv}
use Rattle.std.proofs.lemmas.List.{length-map, length-append}
use Rattle.std.proofs.lemmas.List.Elements.{All-push, All-weaker, filter_passes}
use Rattle.std.proofs.lemmas.List.Folds.{list_any_none}
use Rattle.std.proofs.lemmas.Map.Keys.{IsDistinct-push}
use Rattle.std.proofs.lemmas.Option.{none-some}
use Rattle.mk_value.specs.Limits.{max_depth, max_properties}
use Rattle.mk_value.specs.Names.{same_bytes}
use Rattle.mk_value.specs.Heading.{Domain, Attribute, heading_of, heading_depth, depth_of, names_of, HaveDistinctNames, IsHeading, IsWithinLimits}
use Rattle.mk_value.specs.Data.{Datum, relation, relation_of, AreRowsOf}
use Rattle.mk_value.specs.Tables.{Table}
use Rattle.mk_value.proofs.Relations.{IsOf-relation}
use Rattle.relations.specs.declared.error.DerivedError.TheVariants.{NameTaken, NoProp, TooDeep}
use Rattle.derived.specs.Grouping.{group_by, group}
use Rattle.relations.specs.Columns.{column_of, values_at}
use Rattle.relations.specs.Refusals.{where_so, absent, a_view, none_left, too_deep, first_of}
use Rattle.derived.specs.Refusals.{group_by_due}
use Rattle.relations.specs.Rows.{has, domain_of, is_among, once, others, properties_of, values_of, rows_at}
use Rattle.relations.proofs.Headings.{heading_of_names, once_distinct, once_some, others_here, others_distinct}
use Rattle.relations.proofs.Projections.{none_left_is}
use Rattle.relations.proofs.Wholes.{rows_at_fit}
use Rattle.grouping.specs.Groups.{grouped_key, grouped_keys}
use Rattle.grouping.specs.Index.{keys_of, positions_of}
use Rattle.relations.proofs.Ascending.{in_at}
use Rattle.grouping.proofs.CountTables.{keys_behind}
use Rattle.grouping.proofs.KeyColumns.{keys_here, keys_plain, keyed_whole, index_keys, rows_are, columns_whole}
use Rattle.grouping.proofs.Limits.{not_so, first_none, rest_none, once_apart, depth_behind, keys_depth, limits_behind}
use Rattle.grouping.proofs.Others.{others_once, other_properties_are}
use Rattle.grouping.proofs.Positions.{map_positions, in_positions_back, positions_few}

-- the positions of a key are those of rows
pub positions_in : (keyed rows : List (List Datum)) (key : List Datum) → length keyed ≡ length rows → All (λ i. i < length rows) (positions_of keyed key)
positions_in keyed rows key e = λ k d p.
    let b = in_positions_back keyed key (get_or (positions_of keyed key) k d) (in_at (positions_of keyed key) k d p) in
    let q = b.0 in
    omega arith

map_map : {X Y Z : Type 0} (f : Y → Z) (g : X → Y) (xs : List X) → map f (map g xs) ≡ map (λ x. f (g x)) xs
map_map f g [] = refl
map_map f g (x ∷ xs) = ap (λ zs. f (g x) ∷ zs) (map_map f g xs)

-- each is a row of the keys' schema with the view
pub grouped_whole : (t : Table) (keys : List (List ℕ)) (sub : List ℕ) (columns : List ℕ) → AreRowsOf t.rows t.schema → absent t.schema keys ≡ None → columns ≡ map (column_of t.schema) (others t.schema keys)
    → AreRowsOf (grouped_keys columns t.rows (map (values_of t.schema (once keys)) t.rows))
    (properties_of t.schema (once keys) ++ record { name = sub; domain = Domain.relation (heading_of (properties_of t.schema (others t.schema keys))) } ∷ [])
grouped_whole t keys sub columns whole none e =
    let keyed = map (values_of t.schema (once keys)) t.rows in
    let rest = properties_of t.schema (others t.schema keys) in
    let all = keyed_whole t.schema (once keys) t.rows (keys_here t.schema keys none) whole in
    let as_many : length keyed ≡ length t.rows = length-map t.rows (values_of t.schema (once keys)) in
    let inner : List Datum → List (List Datum) = λ key. map (λ i. values_at columns (get_or t.rows i [])) (positions_of keyed key) in
    keys_behind keyed (properties_of t.schema (once keys)) (record { name = sub; domain = Domain.relation (heading_of rest) }) (λ key. relation (relation_of (inner key))) all (λ key.
    let positions = positions_of keyed key in
    let few = positions_few keyed key in
    let most = whole.few in
    let chosen = rows_at_fit t.rows t.schema positions whole (positions_in keyed t.rows key as_many) (omega arith) in
    let made = columns_whole t.schema (others t.schema keys) (others_here t.schema keys) columns e (rows_at t.rows positions) chosen in
    (IsOf-relation (inner key) rest).0 (subst (λ zs. AreRowsOf zs rest) (map_map (values_at columns) (λ i. get_or t.rows i []) positions) made))

-- the grouped keys are what the operator gives
pub grouped_are : (t : Table) (keys : List (List ℕ)) (sub : List ℕ) (columns : List ℕ) → AreRowsOf t.rows t.schema → a_view t.schema keys ≡ None → columns ≡ map (column_of t.schema) (others t.schema keys)
    → (group_by keys sub t).rows ≡ grouped_keys columns t.rows (map (values_of t.schema (once keys)) t.rows)
grouped_are t keys sub columns whole plain e =
    let names = once keys in
    ap (map (λ key. key ++ relation (relation_of (map (values_of t.schema (others t.schema names)) (group names t key))) ∷ [])) (index_keys t keys whole plain)
    ∙ (λ i. map (λ key. key ++ relation (relation_of (inner key i)) ∷ []) (keys_of (map (values_of t.schema names) t.rows)))
  where
    inner : (key : List Datum) → map (values_of t.schema (others t.schema (once keys))) (group (once keys) t key) ≡ map (λ i. values_at columns (get_or t.rows i [])) (positions_of (map (values_of t.schema (once keys)) t.rows) key)
    inner key =
        ap (λ names. map (values_of t.schema names) (group (once keys) t key)) (others_once t.schema keys)
        ∙ sym (rows_are t.schema (others t.schema keys) (others_here t.schema keys) columns e (group (once keys) t key))
        ∙ sym (map_positions (values_of t.schema (once keys)) (values_at columns) t.rows key)

-- what is known where no refusal is due
pub record AreGroupable (schema : List Attribute) (keys : List (List ℕ)) (sub : List ℕ) : Type 0 where
  pub other : is_among keys sub ≡ false
  pub present : absent schema keys ≡ None
  pub left : 0 < length (others schema keys)
  pub plain : a_view schema keys ≡ None
  pub shallow : heading_depth (heading_of (properties_of schema (others schema keys))) + 2 ≤ max_depth

-- how deep the schema of the groups nests
pub grouped_depth : (schema : List Attribute) (keys : List (List ℕ)) (sub : List ℕ) (inner : List Attribute) → a_view schema keys ≡ None
    → depth_of (properties_of schema (once keys) ++ record { name = sub; domain = Domain.relation (heading_of inner) } ∷ []) ≡ heading_depth (heading_of inner) + 2
grouped_depth schema keys sub inner plain =
    let deep = depth_behind (properties_of schema (once keys)) (record { name = sub; domain = Domain.relation (heading_of inner) }) in
    let none = keys_depth schema (once keys) (keys_plain schema keys plain) in
    omega arith

-- the depth is that of the properties that are left, and two more
pub depth_is : (t : Table) (keys : List (List ℕ)) (sub : List ℕ) → HaveDistinctNames t.schema → a_view t.schema keys ≡ None
    → depth_of (group_by keys sub t).schema ≡ heading_depth (heading_of (filter (λ a. not (is_among keys a.name)) t.schema)) + 2
depth_is t keys sub distinct plain =
    grouped_depth t.schema keys sub (properties_of t.schema (others t.schema (once keys))) plain
    ∙ ap (λ (inner : List Attribute). heading_depth (heading_of inner) + 2) (ap (properties_of t.schema) (others_once t.schema keys) ∙ other_properties_are t.schema keys distinct)

-- a property is left for the view, or none
pub left_is : (schema : List Attribute) (keys : List (List ℕ)) (sub : List ℕ) (b : Bool) → list_any (λ (a : Attribute). not (is_among keys a.name)) schema ≡ b
    → none_left (others schema keys) (sub ∷ []) ≡ cond b None (Some (NoProp sub))
left_is schema keys sub b e = none_left_is schema keys (sub ∷ []) ∙ ap (λ c. cond c None (Some (NoProp sub))) e

-- what is due where no other refusal is
pub depth_due : (t : Table) (keys : List (List ℕ)) (sub : List ℕ) → HaveDistinctNames t.schema → is_among keys sub ≡ false → absent t.schema keys ≡ None → none_left (others t.schema keys) (sub ∷ []) ≡ None
    → a_view t.schema keys ≡ None → (b : Bool) → nat_lt max_depth (heading_depth (heading_of (filter (λ a. not (is_among keys a.name)) t.schema)) + 2) ≡ b → group_by_due keys sub t ≡ where_so b TooDeep
depth_due t keys sub distinct other present left plain b e =
    (λ i. option_or (where_so (other i) (NameTaken sub)) (option_or (present i) (option_or (left i) (option_or (plain i) (option_or (too_deep (group_by keys sub t)) None)))))
    ∙ ap (λ n. option_or (where_so (nat_lt max_depth n) TooDeep) None) (depth_is t keys sub distinct plain) ∙ ap (λ c. option_or (where_so c TooDeep) None) e ∙ last b
  where
    last : (b : Bool) → option_or (where_so b TooDeep) None ≡ where_so b TooDeep
    last true = refl
    last false = refl

some_left : (names given : List (List ℕ)) → none_left names given ≡ None → 0 < length names
some_left [] given h = absurd (none-some _ (sym h))
some_left (name ∷ names) given h = omega arith

shallow_from : (n : ℕ) → nat_lt max_depth n ≡ false → n ≤ max_depth
shallow_from n h = grind arith

pub groupable : (t : Table) (keys : List (List ℕ)) (sub : List ℕ) → group_by_due keys sub t ≡ None → AreGroupable t.schema keys sub
groupable t keys sub h =
    let taken = where_so (is_among keys sub) (NameTaken sub) in
    let none = absent t.schema keys in
    let empty = none_left (others t.schema keys) (sub ∷ []) in
    let view = a_view t.schema keys in
    let deep = too_deep (group_by keys sub t) in
    let one = rest_none taken (first_of (none ∷ empty ∷ view ∷ deep ∷ [])) h in
    let two = rest_none none (first_of (empty ∷ view ∷ deep ∷ [])) one in
    let three = rest_none empty (first_of (view ∷ deep ∷ [])) two in
    let four = rest_none view (first_of (deep ∷ [])) three in
    let plain : a_view t.schema keys ≡ None = first_none view (first_of (deep ∷ [])) three in
    record {
      other = not_so (is_among keys sub) (NameTaken sub) (first_none taken (first_of (none ∷ empty ∷ view ∷ deep ∷ [])) h);
      present = first_none none (first_of (empty ∷ view ∷ deep ∷ [])) one;
      left = some_left (others t.schema keys) (sub ∷ []) (first_none empty (first_of (view ∷ deep ∷ [])) two);
      plain = plain;
      shallow = subst (λ names. heading_depth (heading_of (properties_of t.schema names)) + 2 ≤ max_depth) (others_once t.schema keys) (
          let n = depth_of (group_by keys sub t).schema in
          let e = grouped_depth t.schema keys sub (properties_of t.schema (others t.schema (once keys))) plain in
          let f = shallow_from n (not_so (nat_lt max_depth n) TooDeep (first_none deep (first_of []) four)) in
          omega arith);
    }

-- the properties of the other names are a whole schema
pub others_whole : (schema : List Attribute) (keys : List (List ℕ)) → IsHeading schema → 0 < length (others schema keys) → IsHeading (properties_of schema (others schema keys))
others_whole schema keys whole some = heading_of_names schema (others schema keys) whole (others_here schema keys) (others_distinct schema keys whole.limits.distinct) some

-- the keys are fewer than the properties, since one is left
keys_fewer : (schema : List Attribute) (keys : List (List ℕ)) → IsHeading schema → absent schema keys ≡ None → 0 < length (others schema keys) → length (once keys) + 1 ≤ max_properties
keys_fewer schema keys whole none some =
    let name = get_or (others schema keys) 0 [] in
    let kept : not (is_among keys name) ≡ true = filter_passes (λ name. not (is_among keys name)) (names_of schema) 0 [] some in
    let other : is_among keys name ≡ false = not_true (is_among keys name) kept in
    let names = once keys ++ name ∷ [] in
    let there = All-push (λ name. has schema name ≡ true) (once keys) name (keys_here schema keys none) (others_here schema keys 0 [] some) in
    let long = length-append (once keys) (name ∷ []) in
    let all = heading_of_names schema names whole there (
    IsDistinct-push nat_list_eq_equiv (once keys) name (once_distinct keys) (list_any_none (same_bytes name) (once keys) (
    All-weaker (λ n. same_bytes n name ≡ false) (λ n. same_bytes name n ≡ false) (λ n h. nat_list_eq_equiv.symm name n ∙ h) (once keys) (once_apart keys name other)))) (omega arith) in
    let property : List ℕ → Attribute = λ name. record { name = name; domain = domain_of schema name } in
    let own = length-map names property in
    let few = all.limits.few in
    omega arith
  where
    not_true : (b : Bool) → not b ≡ true → b ≡ false
    not_true true e = sym e
    not_true false e = refl

-- the keys' schema with the view is within its limits
pub grouped_limits : (schema : List Attribute) (keys : List (List ℕ)) (sub : List ℕ) → IsHeading schema → 0 < length keys → AreGroupable schema keys sub
    → IsWithinLimits (properties_of schema (once keys) ++ record { name = sub; domain = Domain.relation (heading_of (properties_of schema (others schema keys))) } ∷ [])
grouped_limits schema keys sub whole some able =
    let inner = properties_of schema (others schema keys) in
    let e = grouped_depth schema keys sub inner able.plain in
    let shallow = able.shallow in
    limits_behind schema (once keys) (record { name = sub; domain = Domain.relation (heading_of inner) }) (heading_of_names schema (once keys) whole (keys_here schema keys able.present) (once_distinct keys) (once_some keys some))
    (once_apart keys sub able.other) (keys_fewer schema keys whole able.present able.left) (omega arith)

-- the table of the operator
pub grouped_table : (t : Table) (keys : List (List ℕ)) (sub : List ℕ) (columns : List ℕ) (schema : List Attribute) (rows : List (List Datum)) → AreRowsOf t.rows t.schema → a_view t.schema keys ≡ None
    → columns ≡ map (column_of t.schema) (others t.schema keys)
    → schema ≡ properties_of t.schema (once keys) ++ record { name = sub; domain = Domain.relation (heading_of (properties_of t.schema (others t.schema keys))) } ∷ []
    → rows ≡ grouped_keys columns t.rows (map (values_of t.schema (once keys)) t.rows) → record { schema = schema; rows = rows } ≡ group_by keys sub t
grouped_table t keys sub columns schema rows whole plain own e f =
    let last : List (List ℕ) → List Attribute = λ rest. properties_of t.schema (once keys) ++ record { name = sub; domain = Domain.relation (heading_of (properties_of t.schema rest)) } ∷ [] in
    let h = e ∙ ap last (sym (others_once t.schema keys)) in
    let g = f ∙ sym (grouped_are t keys sub columns whole plain own) in
    λ i. record { schema = h i; rows = g i }

-- there are as many groups as distinct keys
pub groups_long : (t : Table) (keys : List (List ℕ)) (sub : List ℕ) → AreRowsOf t.rows t.schema → a_view t.schema keys ≡ None
    → length (keys_of (map (values_of t.schema (once keys)) t.rows)) ≡ length (group_by keys sub t).rows
groups_long t keys sub whole plain =
    let keyed = map (values_of t.schema (once keys)) t.rows in
    let columns = map (column_of t.schema) (others t.schema keys) in
    sym (ap (λ (rows : List (List Datum)). length rows) (grouped_are t keys sub columns whole plain refl) ∙ length-map (keys_of keyed) (grouped_key columns t.rows keyed))
