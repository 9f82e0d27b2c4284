-- What a restructuring makes is of the new schema.
use Rattle.std.proofs.Common.{◌≡◌, ℕ, ◌<◌, ◌≤◌, ◌^◌, ℤ, pos, negsuc, Bool, true, false, cond, leb, ◌&&◌, List, [], ◌∷◌, length, get_or, map, All, Option, Some, None, refl, ap, ◌∙◌, arith}
use Rattle.std.specs.Int.{w32, w64}
use Rattle.std.specs.Prelude.{FitsSigned}
use Rattle.std.proofs.lemmas.List.{length-map}
use Rattle.std.proofs.lemmas.List.Elements.{All-head, All-tail}
use Rattle.mk_value.specs.Limits.{max_bytes}
use Rattle.mk_value.specs.Heading.{Domain, Heading, no_attributes, attribute, Attribute, heading_of, find}
use Rattle.mk_value.specs.Data.{Datum, integer, long, text, bytes, relation, tuple_of, relation_of, IsText, IsOf, IsTupleOf, AreTuplesOf, IsRowOf, AreRowsOf}
use Rattle.mk_value.specs.Tables.{domain_at}
use Rattle.mk_value.proofs.Cells.{value_is_of}
use Rattle.mk_value.proofs.Converting.{default_is_of}
use Rattle.mk_value.proofs.Relations.{rows_of-relation_of, IsOf-relation, row_fits}
use Rattle.tables.specs.Homes.{rows_in}
use Rattle.tables.specs.Tables.{inner_schema}
use Rattle.view_store.specs.Fitting.{is_within}
use Rattle.view_store.proofs.Fitting.{is_of_tells}
use Rattle.view_store.proofs.Walking.{place_within}
use Rattle.tables.proofs.Values.{rows_inside}
use Rattle.restructure.specs.Restructuring.{narrowed, text_or_empty, converted, restructured_value, row_under, value_under, restructured_row, restructured_rows}

-- a value is of some domain: what that says of the value alone
IsValue : Datum → Type 0
IsValue (integer z) = FitsSigned w32 z
IsValue (long z) = FitsSigned w64 z
IsValue (text content) = IsText content × (length content ≤ max_bytes)
IsValue (bytes content) = length content ≤ max_bytes
IsValue (relation r) = Unit {0}

value_of : (d : Datum) (e : Domain) → IsOf d e → IsValue d
unfolding IsValue
value_of (integer z) Domain.integer h = h
value_of (long z) Domain.long h = h
value_of (text content) Domain.text h = h
value_of (bytes content) Domain.bytes h = h
value_of (relation r) e h = tt
value_of _ _ h = absurd h

narrowed_by : (b : Bool) (z : ℤ) → (b ≡ true → FitsSigned w32 z) → FitsSigned w32 (cond b z (pos 0))
narrowed_by true z h = h refl
narrowed_by false z h = default_is_of Domain.integer

pub narrowed_fits : (z : ℤ) → FitsSigned w32 (narrowed z)
narrowed_fits z = narrowed_by (is_within (2 ^ 31) z) z (is_of_tells (integer z) Domain.integer).0

pub widened_fits : (z : ℤ) → FitsSigned w32 z → FitsSigned w64 z
widened_fits (pos n) h = record { sfits = let p = h.sfits in omega arith }
widened_fits (negsuc n) h = record { sfits = let p = h.sfits in omega arith }

text_by : (b : Bool) (content : List ℕ) → (b ≡ true → IsOf (text content) Domain.text) → IsOf (text (cond b content [])) Domain.text
text_by true content h = h refl
text_by false content h = default_is_of Domain.text

pub text_fits : (content : List ℕ) → length content ≤ max_bytes → IsOf (text (text_or_empty content)) Domain.text
text_fits content p =
    let short : leb (length content) max_bytes ≡ true = (is_of_tells (bytes content) Domain.bytes).1 p in
    text_by _ content (λ e. (is_of_tells (text content) Domain.text).0 (ap (λ b. b && leb (length content) max_bytes) e ∙ short))

converted_fits : (e : Domain) (d : Datum) → IsValue d → IsOf (converted e d) e
unfolding IsValue
converted_fits Domain.integer (integer z) h = h
converted_fits Domain.long (long z) h = h
converted_fits Domain.text (text content) h = h
converted_fits Domain.bytes (bytes content) h = h
converted_fits Domain.long (integer z) h = widened_fits z h
converted_fits Domain.integer (long z) h = narrowed_fits z
converted_fits Domain.bytes (text content) h = h.1
converted_fits Domain.text (bytes content) h = text_fits content h
converted_fits e d h = default_is_of e

tuples_fit : (f : List Datum → List Datum) (old : List Attribute) (g : Heading) → ((row : List Datum) → IsRowOf row old → IsTupleOf (tuple_of (f row)) g)
    → (rows : List (List Datum)) → All (λ row. IsRowOf row old) rows → AreTuplesOf (relation_of (map f rows)) g
tuples_fit f old g each [] h = tt
tuples_fit f old g each (row ∷ rest) h = (
  each row (All-head (λ r. IsRowOf r old) row rest h),
  tuples_fit f old g each rest (All-tail (λ r. IsRowOf r old) row rest h),
)

view_fits : (f : List Datum → List Datum) (old : List Attribute) (g : Heading) → ((row : List Datum) → IsRowOf row old → IsTupleOf (tuple_of (f row)) g)
    → (rows : List (List Datum)) → AreRowsOf rows old → IsOf (relation (relation_of (map f rows))) (Domain.relation g)
view_fits f old g each rows h = (
  let count = ap length (rows_of-relation_of (map f rows)) in let same = length-map rows f in let few = h.few in omega (arith, count, same, few),
  tuples_fit f old g each rows h.whole,
)

cell_fits : (e : Domain) (old : List Attribute) (o : Option ℕ) (row : List Datum) → ((k : ℕ) → k < length old → IsOf (restructured_value (domain_at old k) e (get_or row k (integer (pos 0)))) e)
    → ((k : ℕ) → o ≡ Some k → k < length old) → IsOf (value_under old o e row) e
cell_fits e old None row each within = default_is_of e
cell_fits e old (Some k) row each within = each k (within k refl)

mutual
  pub value_fits : (new old : Domain) (d : Datum) → IsOf d old → IsOf (restructured_value old new d) new
  value_fits Domain.integer old d h = converted_fits Domain.integer d (value_of d old h)
  value_fits Domain.long old d h = converted_fits Domain.long d (value_of d old h)
  value_fits Domain.text old d h = converted_fits Domain.text d (value_of d old h)
  value_fits Domain.bytes old d h = converted_fits Domain.bytes d (value_of d old h)
  value_fits (Domain.relation g) old d h =
      view_fits (row_under (inner_schema old) g) (inner_schema old) g (λ row whole. tuple_fits g (inner_schema old) row whole) (rows_in d) (rows_inside d old h)

  tuple_fits : (g : Heading) (old : List Attribute) (row : List Datum) → IsRowOf row old → IsTupleOf (tuple_of (row_under old g row)) g
  tuple_fits no_attributes old row h = tt
  tuple_fits (attribute n e rest) old row h = (
    cell_fits e old (find old n) row (λ k p. value_fits e (domain_at old k) (get_or row k (integer (pos 0))) (value_is_of row old k h p)) (λ k found. place_within old n k found),
    tuple_fits rest old row h,
  )

-- a row of the old schema makes one of the new
pub row_whole : (old new : List Attribute) (row : List Datum) → IsRowOf row old → IsRowOf (restructured_row old new row) new
row_whole old new row h = row_fits (restructured_row old new row) new (tuple_fits (heading_of new) old row h)

-- rows of the old schema make rows of the new
pub rows_whole : (old new : List Attribute) (rows : List (List Datum)) → AreRowsOf rows old → AreRowsOf (restructured_rows old new rows) new
rows_whole old new rows h =
    (IsOf-relation (restructured_rows old new rows) new).1
    (view_fits (row_under old (heading_of new)) old (heading_of new) (λ row whole. tuple_fits (heading_of new) old row whole) rows h)
