-- Criteria of which none is refused may be asked.
use Rattle.std.proofs.Common.{◌≡◌, ℕ, ◌+◌, ◌<◌, pos, Bool, true, false, not, ◌&&◌, List, [], length, get_or, map, drop, All, Option, Some, None, refl, ap, sym, subst, ◌∙◌}
use Rattle.std.specs.Option.{option_or}
use Rattle.std.proofs.lemmas.Bool.{false≢true}
use Rattle.std.proofs.lemmas.Option.{none-some}
use Rattle.std.proofs.lemmas.List.{get_or-map, length-map}
use Rattle.mk_value.specs.Heading.{Domain, Attribute}
use Rattle.mk_value.specs.Data.{Datum, integer, cell}
use Rattle.mk_value.specs.Tables.{domain_at, IsPlainDomain, IsComparable}
use Rattle.mk_value.proofs.Walks.{drop_read, same_default}
use Rattle.relations.specs.Criteria.{Interval, is_within, is_in_range}
use Rattle.relations.specs.declared.error.DerivedError.{DerivedError}
use Rattle.relations.specs.declared.error.DerivedError.TheVariants.{WrongKind}
use Rattle.relations.specs.Fitting.{is_view, fits}
use Rattle.relations.specs.Columns.{column_of}
use Rattle.relations.specs.Positions.{AreResolved, IsUsable}
use Rattle.relations.specs.Refusals.{absent, a_view, unfit, range_due}
use Rattle.relations.specs.Rows.{has, domain_of, value_of}
use Rattle.relations.proofs.Comparable.{comparable}
use Rattle.relations.proofs.Fitting.{fitting}
use Rattle.relations.proofs.Names.{column_in, has_at, item_present, item_plain, property_at_column, value_at_column}
use Rattle.relations.proofs.Faults.{none_refused, not_false}

pub first_none : (a b : Option DerivedError) → option_or a b ≡ None → a ≡ None
first_none None b h = refl
first_none (Some e) b h = absurd (none-some _ (sym h))

pub rest_none : (a b : Option DerivedError) → option_or a b ≡ None → b ≡ None
rest_none None b h = h
rest_none (Some e) b h = absurd (none-some _ (sym h))

pub plain_domain : (e : Domain) → is_view e ≡ false → IsPlainDomain e
plain_domain Domain.integer h = tt
plain_domain Domain.long h = tt
plain_domain Domain.text h = tt
plain_domain Domain.bytes h = tt
plain_domain (Domain.relation r) h = absurd (false≢true (sym h))

both_true : (x y : Bool) → (x && y) ≡ true → (x ≡ true) × (y ≡ true)
both_true true true e = (refl, refl)
both_true true false e = absurd (false≢true e)
both_true false y e = absurd (false≢true e)

-- the domain at a name's column is the name's
pub domain_here : (schema : List Attribute) (name : List ℕ) → has schema name ≡ true → domain_at schema (column_of schema name) ≡ domain_of schema name
domain_here schema name h = ap (λ (a : Attribute). a.domain) (property_at_column schema name (record { name = []; domain = Domain.integer }) h)

asked : (e f : Domain) (d : Datum) → e ≡ f → is_view f ≡ false → fits f d ≡ true → IsComparable d e
asked e f d same flat h = subst (IsComparable d) (sym same) (comparable d f (fitting f d flat h) (plain_domain f flat))

pub usable : (schema : List Attribute) (criteria : List Interval) → range_due criteria schema ≡ None → All (IsUsable schema) criteria
usable schema criteria due k d p =
    let prop : Interval → List ℕ = λ b. b.prop in
    let named = first_none (absent schema (map prop criteria)) _ due in
    let others = rest_none (absent schema (map prop criteria)) _ due in
    let no_view = first_none (a_view schema (map prop criteria)) _ others in
    let last = rest_none (a_view schema (map prop criteria)) _ others in
    let fit = first_none (unfit schema criteria) None last in
    let b = get_or criteria k d in
    let test : Interval → Bool = λ b. not (fits (domain_of schema b.prop) b.low && fits (domain_of schema b.prop) b.high) in
    let read = same_default criteria k d (get_or criteria k d) p in
    let here = item_present prop schema criteria k b named p read in
    let flat = item_plain prop schema criteria k b no_view p read in
    let both = both_true (fits (domain_of schema b.prop) b.low) (fits (domain_of schema b.prop) b.high) (not_false _ (none_refused (λ (b : Interval). WrongKind b.prop) test criteria fit k d p)) in
    let same = domain_here schema b.prop here in
    record {
      present = column_in schema b.prop here;
      low = asked (domain_at schema (column_of schema b.prop)) (domain_of schema b.prop) b.low same flat both.0;
      high = asked (domain_at schema (column_of schema b.prop)) (domain_of schema b.prop) b.high same flat both.1;
    }

-- one criterion further
module _ (schema : List Attribute) (criteria : List Interval) (columns : List ℕ) (rows : List (List Datum)) (row at col : ℕ) (b : Interval)
    (h : AreResolved schema criteria columns) (p : at < length criteria) (read : b ≡ get_or criteria at b) (column : col ≡ get_or columns at 0) where
  pub col_is : col ≡ column_of schema b.prop
  col_is =
      column ∙ ap (λ cs. get_or cs at 0) h.columns ∙ get_or-map (λ (b : Interval). column_of schema b.prop) criteria at b 0 p ∙ ap (λ (c : Interval). column_of schema c.prop) (sym read)

  use_is : IsUsable schema b
  use_is = subst (IsUsable schema) (sym read) (h.usable at b p)

  pub may_ask : (col < length schema) × IsComparable b.low (domain_at schema col) × IsComparable b.high (domain_at schema col)
  may_ask =
      let P : ℕ → Type 0 = λ k. (k < length schema) × IsComparable b.low (domain_at schema k) × IsComparable b.high (domain_at schema k) in
      subst P (sym col_is) (use_is.present, use_is.low, use_is.high)

  value_is : value_of schema (get_or rows row []) b.prop ≡ cell rows row col
  value_is =
      value_at_column schema (get_or rows row []) b.prop (has_at schema b.prop use_is.present) ∙ ap (λ k. get_or (get_or rows row []) k (integer (pos 0))) (sym col_is)

  split : is_in_range schema (drop at criteria) (get_or rows row []) ≡ (is_within b (cell rows row col) && is_in_range schema (drop (at + 1) criteria) (get_or rows row []))
  split =
      ap (λ (bs : List Interval). is_in_range schema bs (get_or rows row [])) (drop_read criteria at b p read)
      ∙ ap (λ (d : Datum). is_within b d && is_in_range schema (drop (at + 1) criteria) (get_or rows row [])) value_is

  pub within : is_within b (cell rows row col) ≡ true → is_in_range schema (drop (at + 1) criteria) (get_or rows row []) ≡ is_in_range schema (drop at criteria) (get_or rows row [])
  within e = sym (split ∙ ap (λ t. t && is_in_range schema (drop (at + 1) criteria) (get_or rows row [])) e)

  pub outside : is_within b (cell rows row col) ≡ false → is_in_range schema (drop at criteria) (get_or rows row []) ≡ false
  outside e = split ∙ ap (λ t. t && is_in_range schema (drop (at + 1) criteria) (get_or rows row [])) e

pub columns_in_range : (columns : List ℕ) (schema : List Attribute) (criteria : List Interval) → AreResolved schema criteria columns → length columns ≡ length criteria
columns_in_range columns schema criteria h = ap length h.columns ∙ length-map criteria (λ (b : Interval). column_of schema b.prop)
