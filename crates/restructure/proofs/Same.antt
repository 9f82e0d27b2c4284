-- Under its own schema a table is as it was.
use Rattle.std.proofs.Common.{◌≡◌, ◌≢◌, ℕ, zero, suc, ◌+◌, ◌<◌, ltb, cond, Bool, true, false, List, [], ◌∷◌, length, get_or, map, drop, All, pos, Some, None, refl, ap, sym, subst, ◌∙◌, arith, add-one, drop-cons}
use Rattle.std.specs.List.{position_or_len}
use Rattle.std.specs.Cmp.Lexicographic.{same_text, nat_list_eq_equiv}
use Rattle.std.proofs.lemmas.Bool.Decides.{Decides-ltb}
use Rattle.std.proofs.lemmas.List.Sums.{position_or_len_is}
use Rattle.std.proofs.lemmas.List.Elements.{All-head, All-tail}
use Rattle.mk_value.specs.Names.{same_bytes}
use Rattle.mk_value.specs.Heading.{Domain, Heading, no_attributes, attribute, Attribute, attributes_of, heading_of, find, HaveDistinctNames, IsDomain, AreAttributes, IsHeading}
use Rattle.mk_value.specs.Data.{Datum, integer, long, text, bytes, relation, relation_of, rows_of, IsOf, IsRowOf, AreRowsOf}
use Rattle.mk_value.specs.Tables.{domain_at}
use Rattle.mk_value.proofs.Cells.{value_is_of}
use Rattle.mk_value.proofs.Converting.{relation_of-rows_of}
use Rattle.mk_value.proofs.Headings.{AreAttributes-heading_of, attributes_of-heading_of}
use Rattle.mk_value.proofs.Relations.{row_fits_length}
use Rattle.tables.proofs.Lists.{drop_at}
use Rattle.restructure.specs.Restructuring.{restructured_value, row_under, value_under, restructured_row, restructured_rows}
use Rattle.tables.proofs.Values.{rows_inside}

abbrev pub no_attribute : Attribute
no_attribute = record { name = []; domain = Domain.integer }

-- a test of two names that are not the same fails
other_name : (b : Bool) (xs ys : List ℕ) → same_bytes xs ys ≡ b → xs ≢ ys → b ≡ false
other_name true xs ys e ne = absurd (ne (same_text xs ys (sym e)))
other_name false xs ys e ne = refl

-- the first property of the name of the one at a place is that one, where names are distinct
pub find_at : (schema : List Attribute) (k : ℕ) (n : List ℕ) → HaveDistinctNames schema → k < length schema → (get_or schema k no_attribute).name ≡ n → find schema n ≡ Some k
find_at schema k n distinct p e =
    let test = λ (a : Attribute). same_bytes a.name n in
    let place : position_or_len test schema ≡ k =
    position_or_len_is test schema k no_attribute (omega arith)
    (λ j q. other_name _ (get_or schema j no_attribute).name n refl (λ same. distinct j k no_attribute q p (same ∙ sym e)))
    (λ _. subst (λ name. same_bytes name n ≡ true) (sym e) (nat_list_eq_equiv.refl n)) in
    ap (λ j. cond (ltb j (length schema)) (Some j) None) place ∙ ap (λ b. cond b (Some k) None) ((Decides-ltb k (length schema)).1 p)

rows_same : (f : List Datum → List Datum) (schema : List Attribute) → ((row : List Datum) → IsRowOf row schema → f row ≡ row) → (rows : List (List Datum)) → All (λ row. IsRowOf row schema) rows → map f rows ≡ rows
rows_same f schema same [] h = refl
rows_same f schema same (row ∷ rest) h =
    ap (λ r. r ∷ map f rest) (same row (All-head (λ r. IsRowOf r schema) row rest h))
    ∙ ap (λ rs. row ∷ rs) (rows_same f schema same rest (All-tail (λ r. IsRowOf r schema) row rest h))

pub drop_next : {X : Type 0} (xs : List X) (k : ℕ) (d : X) → k < length xs → drop k xs ≡ get_or xs k d ∷ drop (k + 1) xs
drop_next xs k d p = rw add-one (drop-cons xs k d p)

pub drop_none : {X Y : Type 0} (xs : List X) (ys : List Y) (k : ℕ) → length xs ≡ length ys → drop k xs ≡ [] → [] ≡ drop k ys
drop_none [] [] zero e f = refl
drop_none [] [] (suc k) e f = refl
drop_none [] (y ∷ ys) k e f = absurd (omega arith)
drop_none (x ∷ xs) [] k e f = absurd (omega arith)
drop_none (x ∷ xs) (y ∷ ys) zero e f = absurd (let g : ◌≡◌ {A = List _} (x ∷ xs) [] = f in cc)
drop_none (x ∷ xs) (y ∷ ys) (suc k) e f = drop_none xs ys k (omega arith) f

mutual
  pub value_same : (e : Domain) (d : Datum) → IsDomain e → IsOf d e → restructured_value e e d ≡ d
  value_same Domain.integer (integer z) whole h = refl
  value_same Domain.long (long z) whole h = refl
  value_same Domain.text (text content) whole h = refl
  value_same Domain.bytes (bytes content) whole h = refl
  value_same (Domain.relation g) (relation r) whole h =
      ap (λ rows. relation (relation_of rows))
      (rows_same (row_under (attributes_of g) g) (attributes_of g) (λ row fits. row_same g (attributes_of g) 0 row whole.0.distinct fits refl whole.1) (rows_of r) (rows_inside (relation r) (Domain.relation g) h).whole)
      ∙ ap relation (relation_of-rows_of r)
  value_same _ _ whole h = absurd h

  -- the properties from a place on give the values from there on
  row_same : (g : Heading) (schema : List Attribute) (k : ℕ) (row : List Datum) → HaveDistinctNames schema → IsRowOf row schema → drop k schema ≡ attributes_of g → AreAttributes g → row_under schema g row ≡ drop k row
  row_same no_attributes schema k row distinct fits e whole = drop_none schema row k (sym (row_fits_length row schema fits)) e
  row_same (attribute n e rest) schema k row distinct fits at whole =
      let a : Attribute = record { name = n; domain = e } in
      let found = drop_at schema k a (attributes_of rest) no_attribute at in
      let named : (get_or schema k no_attribute).name ≡ n = ap (λ (b : Attribute). b.name) found.here in
      let domain : domain_at schema k ≡ e = ap (λ (b : Attribute). b.domain) found.here in
      let place : find schema n ≡ Some k = find_at schema k n distinct found.within named in
      let held = get_or row k (integer (pos 0)) in
      let of : IsOf held e = subst (λ x. IsOf held x) domain (value_is_of row schema k fits found.within) in
      let value : value_under schema (find schema n) e row ≡ held =
      ap (λ o. value_under schema o e row) place ∙ ap (λ x. restructured_value x e held) domain ∙ value_same e held whole.1 of in
      let long = row_fits_length row schema fits in
      let p = found.within in
      ap (λ d. d ∷ row_under schema rest row) value
      ∙ ap (λ ds. held ∷ ds) (row_same rest schema (k + 1) row distinct fits found.next whole.2)
      ∙ sym (drop_next row k (integer (pos 0)) (omega arith))

-- the rows of a whole table under its own schema
pub rows_kept : (schema : List Attribute) (rows : List (List Datum)) → IsHeading schema → AreRowsOf rows schema → restructured_rows schema schema rows ≡ rows
rows_kept schema rows heading whole =
    rows_same (restructured_row schema schema) schema
    (λ row fits. row_same (heading_of schema) schema 0 row heading.limits.distinct fits (sym (attributes_of-heading_of schema)) (AreAttributes-heading_of schema heading.attributes))
    rows whole.whole
