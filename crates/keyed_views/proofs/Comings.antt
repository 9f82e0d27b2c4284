-- How a row comes to rows that are kept by key.
use Rattle.std.proofs.Common.{◌≡◌, ℕ, ◌+◌, ◌<◌, ◌≤◌, ◌==◌, ◌||◌, Bool, true, false, cond, nat_lt, pos, List, [], ◌∷◌, ◌++◌, length, get_or, set, take, Some, None, refl, ap, sym, ◌∙◌, arith, inl, inr}
use Rattle.std.specs.List.{list_any}
use Rattle.std.specs.Option.{option_or, unwrap_or}
use Rattle.std.proofs.lemmas.Bool.{cases_eq, eq-eqb, ne_eqb}
use Rattle.std.proofs.lemmas.List.{get_or-set_other, get_or-set_same, length-set, length-take-le, take_more}
use Rattle.keyed_views.proofs.Hashing.{map_edits}
use Rattle.mapped.proofs.Calling.{key_of_row}
use Rattle.mapped.proofs.Keyed.{count_from}
use Rattle.mapped.specs.Keys.{IsKeyFor, keys_of}
use Rattle.mapped.specs.Refusals.{count_due}
use Rattle.mapped.specs.declared.error.MapError.{MapError}
use Rattle.mapped.specs.declared.error.MapError.TheVariants.{KeyIsView, NoKeys}
use Rattle.mk_value.proofs.Relations.{row_fits_length}
use Rattle.mk_value.specs.Data.{AreRowsOf, Datum, IsRowOf, cell, integer}
use Rattle.mk_value.specs.Heading.{Attribute, find}
use Rattle.relations.specs.Fitting.{is_view}
use Rattle.row_edits.specs.Edits.{edited_by}
use Rattle.row_edits.specs.declared.edit.RowEdit.{RowEdit}
use Rattle.keyed_views.specs.Mapped.{row_with}
use Rattle.keyed_views.specs.Refusals.{refused_if, schema_due}
use Rattle.tables.specs.Tables.{place_of_property}
use Rattle.keyed_views.specs.declared.error.MappingError.{MappingError}
use Rattle.keyed_views.specs.declared.error.MappingError.TheVariants.{Kind, Range}

-- an index that follows edits has the keys of the rows after them
pub keys_followed : (keys : ℕ) (edits : List RowEdit) (row key : List Datum) (rows old new : List (List Datum)) → old ≡ keys_of keys rows → take keys row ≡ key → new ≡ edited_by key edits old
    → new ≡ keys_of keys (edited_by row edits rows)
keys_followed keys edits row key rows old new was same is =
    is ∙ ap (edited_by key edits) was ∙ ap (λ k. edited_by k edits (keys_of keys rows)) (sym same) ∙ sym (map_edits (take keys) edits row rows)

-- the first values of a row of the schema are a key
pub record HasKeyIn (keys : ℕ) (schema : List Attribute) (row : List Datum) : Type 0 where
  pub within : keys ≤ length row
  pub full : length (take keys row) ≡ keys
  pub fits : IsKeyFor schema (take keys row)

pub key_in : (keys : ℕ) (schema : List Attribute) (row : List Datum) → IsRowOf row schema → count_due keys schema ≡ None → HasKeyIn keys schema row
key_in keys schema row fits none =
    let few = (count_from keys schema none).few in
    let long : length row ≡ length schema = row_fits_length row schema fits in
    let within : keys ≤ length row = omega arith in
    record { within = within; full = length-take-le keys row within; fits = key_of_row keys schema row fits none }

none_of_two : (v w : Bool) (a b : MappingError) (c d : MapError) → option_or (refused_if v a) (refused_if w b) ≡ None → cond w (Some c) (cond v (Some d) None) ≡ None
none_of_two true w a b c d e = cc
none_of_two false true a b c d e = cc
none_of_two false false a b c d e = refl

-- a schema that refuses no mapping by so many values can have so many keys
pub count_none : (keys : ℕ) (schema : List Attribute) → schema_due keys schema ≡ None → count_due keys schema ≡ None
count_none keys schema e =
    none_of_two (list_any (λ a. is_view a.domain) (take keys schema)) ((keys == 0) || nat_lt (length schema) keys) Kind (Range (length schema)) NoKeys KeyIsView e

-- a row that has another value in one column, value by value
module _ (schema : List Attribute) (rows : List (List Datum)) (at : ℕ) (prop : List ℕ) (d : Datum) (k col : ℕ) (named : find schema prop ≡ Some k) (whole : AreRowsOf rows schema) (there : at < length rows) (inside : col < length schema) where
  abbrev row : List Datum
  row = get_or rows at []

  place : place_of_property schema prop ≡ k
  place = ap (λ o. unwrap_or o 0) named

  long : length row ≡ length schema
  long = row_fits_length row schema (whole.whole at [] there)

  with_is : row_with schema rows at prop d ≡ set row k d
  with_is = ap (λ j. set row j d) place

  value_is : get_or (set row k d) col (integer (pos 0)) ≡ cond (col == k) d (cell rows at col)
  value_is = elim (cases_eq col k) [
    | inl e ↦
        let l = long in
        let q : k < length row = omega arith in
        ap (λ j. get_or (set row k d) j (integer (pos 0))) e ∙ get_or-set_same row k d (integer (pos 0)) q ∙ sym (ap (λ b. cond b d (cell rows at col)) (eq-eqb col k e))
    | inr apart ↦ get_or-set_other row k col d (integer (pos 0)) apart ∙ sym (ap (λ b. cond b d (cell rows at col)) (ne_eqb col k apart))
  ]

  pub take_with : (key : List Datum) (v : Datum) → v ≡ cond (col == k) d (cell rows at col) → key ≡ take col (row_with schema rows at prop d) → key ++ v ∷ [] ≡ take (col + 1) (row_with schema rows at prop d)
  take_with key v is so_far =
      let l = long in
      let m = length-set row k d in
      let n = ap length with_is in
      ap (λ x. key ++ x ∷ []) (is ∙ sym value_is ∙ ap (λ r. get_or r col (integer (pos 0))) (sym with_is))
      ∙ ap (λ ks. ks ++ get_or (row_with schema rows at prop d) col (integer (pos 0)) ∷ []) so_far
      ∙ sym (take_more (row_with schema rows at prop d) col (integer (pos 0)) (omega arith))
