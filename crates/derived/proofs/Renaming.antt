-- A schema with a property under another name, and its rows.
use Rattle.std.proofs.Common.{◌≡◌, ◌≢◌, ℕ, ◌<◌, max, pos, Bool, true, false, not, cond, ◌&&◌, List, [], ◌∷◌, length, get_or, map, All, Option, Some, None, refl, ap, sym, subst, ◌∙◌, arith}
use Rattle.std.specs.List.{list_any}
use Rattle.std.specs.Option.{option_or}
use Rattle.std.specs.Cmp.Lexicographic.{same_text, nat_list_eq_equiv}
use Rattle.std.proofs.lemmas.Bool.{false≢true}
use Rattle.std.proofs.lemmas.Option.{none-some}
use Rattle.std.proofs.lemmas.List.{length-map, get_or-map, take_all}
use Rattle.std.proofs.lemmas.List.Elements.{All-weaker}
use Rattle.std.proofs.lemmas.List.Folds.{list_any_at, map_fixed}
use Rattle.mk_value.specs.Names.{same_bytes}
use Rattle.mk_value.specs.Heading.{Domain, Attribute, heading_of, domain_depth, heading_depth, IsHeading, IsWithinLimits}
use Rattle.mk_value.specs.Data.{Datum, integer, AreRowsOf, IsRowOf}
use Rattle.mk_value.specs.Tables.{Table, domain_at}
use Rattle.mk_value.proofs.Relations.{row_fits_length}
use Rattle.relations.specs.declared.error.DerivedError.{DerivedError}
use Rattle.relations.specs.Positions.{numbers}
use Rattle.relations.specs.Columns.{values_at, AreColumns}
use Rattle.derived.specs.Operators.{rename, renamed}
use Rattle.derived.specs.Refusals.{rename_due}
use Rattle.relations.specs.Rows.{is_named}
use Rattle.relations.proofs.Faults.{cases}
use Rattle.relations.proofs.Numbers.{places, all_places, numbers_below}

same_true : (xs ys : List ℕ) → xs ≡ ys → same_bytes xs ys ≡ true
same_true xs ys e = subst (λ zs. same_bytes xs zs ≡ true) e (nat_list_eq_equiv.refl xs)

pub domain_kept : (from to : List ℕ) (a : Attribute) → (renamed from to a).domain ≡ a.domain
domain_kept from to a = cases (is_named from a) (λ e. rw e refl) (λ e. rw e refl)

name_new : (from to : List ℕ) (a : Attribute) → is_named from a ≡ true → (renamed from to a).name ≡ to
name_new from to a e = rw e refl

name_kept : (from to : List ℕ) (a : Attribute) → is_named from a ≡ false → (renamed from to a).name ≡ a.name
name_kept from to a e = rw e refl

domains_kept : (from to : List ℕ) (schema : List Attribute) → map (λ (a : Attribute). a.domain) (map (renamed from to) schema) ≡ map (λ (a : Attribute). a.domain) schema
domains_kept from to [] = refl
domains_kept from to (a ∷ schema) =
    let first = domain_kept from to a in
    let rest = domains_kept from to schema in
    cc

depth_kept : (from to : List ℕ) (schema : List Attribute) → heading_depth (heading_of (map (renamed from to) schema)) ≡ heading_depth (heading_of schema)
depth_kept from to [] = refl
depth_kept from to (a ∷ schema) =
    ap (λ (d : Domain). max (domain_depth d) (heading_depth (heading_of (map (renamed from to) schema)))) (domain_kept from to a)
    ∙ ap (λ n. max (domain_depth a.domain) n) (depth_kept from to schema)

abbrev is_taken : List ℕ → List ℕ → List Attribute → Bool
is_taken from to schema = list_any (λ (a : Attribute). is_named to a && not (is_named from a)) schema

free_from : (b : Bool) (e : DerivedError) (o : Option DerivedError) → option_or (cond b (Some e) None) o ≡ None → b ≡ false
free_from true e o h = absurd (none-some _ (sym h))
free_from false e o h = refl

-- a property that has the new name has the old one
not_taken : (from to : List ℕ) (schema : List Attribute) (i : ℕ) (d : Attribute) → is_taken from to schema ≡ false → i < length schema → is_named from (get_or schema i d) ≡ false → to ≢ (get_or schema i d).name
not_taken from to schema i d h p old e =
    let test : Attribute → Bool = λ a. is_named to a && not (is_named from a) in
    let new : is_named to (get_or schema i d) ≡ true = same_true (get_or schema i d).name to (sym e) in
    let hit : test (get_or schema i d) ≡ true = ap (λ b. b && not (is_named from (get_or schema i d))) new ∙ ap not old in
    false≢true (sym h ∙ list_any_at test schema i d p hit)

pub renamed_limits : (from to : List ℕ) (schema : List Attribute) → IsHeading schema → rename_due from to schema ≡ None → IsWithinLimits (map (renamed from to) schema)
renamed_limits from to schema whole due =
    let n = length-map schema (renamed from to) in
    let some = whole.limits.some in
    let few = whole.limits.few in
    let shallow = whole.limits.shallow in
    let deep = depth_kept from to schema in
    let free : is_taken from to schema ≡ false = free_from (is_taken from to schema) _ _ due in
    record {
      some = omega arith;
      few = omega arith;
      shallow = omega arith;
      distinct = λ i j d p q e.
          let r : j < length schema = omega arith in
          let s : i < length schema = omega arith in
          let one = ap (λ (a : Attribute). a.name) (get_or-map (renamed from to) schema i d d s) in
          let two = ap (λ (a : Attribute). a.name) (get_or-map (renamed from to) schema j d d r) in
          let same = sym one ∙ e ∙ two in
          cases (is_named from (get_or schema i d))
          (λ a. cases (is_named from (get_or schema j d))
          (λ b. whole.limits.distinct i j d p r (same_text (get_or schema i d).name from (sym a) ∙ sym (same_text (get_or schema j d).name from (sym b))))
          (λ b. not_taken from to schema j d free r b (sym (name_new from to (get_or schema i d) a) ∙ same ∙ name_kept from to (get_or schema j d) b)))
          (λ a. cases (is_named from (get_or schema j d))
          (λ b. not_taken from to schema i d free s a (sym (sym (name_kept from to (get_or schema i d) a) ∙ same ∙ name_new from to (get_or schema j d) b)))
          (λ b. whole.limits.distinct i j d p r (sym (name_kept from to (get_or schema i d) a) ∙ same ∙ name_kept from to (get_or schema j d) b)));
    }

-- all columns in order are the columns of the schema under the other name
pub all_columns_fit : (from to : List ℕ) (schema properties : List Attribute) (columns : List ℕ) → properties ≡ map (renamed from to) schema → columns ≡ numbers (length properties) → AreColumns schema columns properties
all_columns_fit from to schema properties columns e f =
    let n : length properties ≡ length schema = ap length e ∙ length-map schema (renamed from to) in
    let g : columns ≡ numbers (length schema) = f ∙ ap numbers n in
    record {
      in_range = subst (All (λ j. j < length schema)) (sym g) (numbers_below (length schema));
      kinds = ap (map (λ (a : Attribute). a.domain)) e ∙ domains_kept from to schema
          ∙ ap (map (λ (a : Attribute). a.domain)) (sym (take_all (length schema) schema (omega arith)))
          ∙ sym (places (λ (a : Attribute). a.domain) schema (record { name = []; domain = Domain.integer }) (length schema) (omega arith))
          ∙ ap (map (λ j. domain_at schema j)) (sym g);
    }

-- and show the same rows
row_same : (row : List Datum) (n : ℕ) → length row ≡ n → values_at (numbers n) row ≡ row
row_same row n e = all_places row (integer (pos 0)) n (omega arith) ∙ take_all n row (omega arith)

pub rename_here : (from to : List ℕ) (schema properties : List Attribute) (rows : List (List Datum)) (columns : List ℕ) → AreRowsOf rows schema → properties ≡ map (renamed from to) schema → columns ≡ numbers (length properties)
    → (t : Table) → t ≡ record { schema = properties; rows = map (values_at columns) rows } → t ≡ rename from to (record { schema = schema; rows = rows })
rename_here from to schema properties rows columns whole e f t g =
    let n : length properties ≡ length schema = ap length e ∙ length-map schema (renamed from to) in
    let same : map (values_at (numbers (length schema))) rows ≡ rows =
    map_fixed (values_at (numbers (length schema))) rows (All-weaker (λ row. IsRowOf row schema) (λ row. values_at (numbers (length schema)) row ≡ row) (λ row h. row_same row (length schema) (row_fits_length row schema h)) rows whole.whole) in
    g ∙ ap (λ (s : List Attribute). record { schema = s; rows = map (values_at columns) rows }) e
    ∙ ap (λ (rs : List (List Datum)). record { schema = map (renamed from to) schema; rows = rs }) (ap (λ cs. map (values_at cs) rows) (f ∙ ap numbers n) ∙ same)
