-- Criteria and keys that are looked up by name at each row: one criterion or key further.
use Rattle.std.proofs.Common.{◌≡◌, ◌⊎◌, ℕ, ◌+◌, ◌<◌, ◌≤◌, pos, Bool, true, false, List, [], ◌∷◌, length, get_or, map, drop, None, refl, ap, sym, subst, ◌∙◌, inl, inr, arith}
use Rattle.std.specs.declared.cmp.Ordering.{Ordering}
use Rattle.std.specs.declared.cmp.Ordering.TheVariants.{Less, Equal, Greater}
use Rattle.std.specs.Ordering.{is_ne, ordering_then}
use Rattle.std.proofs.lemmas.Bool.{false≢true}
use Rattle.std.proofs.lemmas.List.{get_or-map, length-drop}
use Rattle.mk_value.specs.Heading.{Attribute}
use Rattle.mk_value.specs.Data.{Datum, integer}
use Rattle.mk_value.specs.Order.{value_cmp, turned}
use Rattle.mk_value.specs.Tables.{domain_at, IsComparable, IsPlainDomain}
use Rattle.mk_value.proofs.Walks.{drop_read, same_default}
use Rattle.relations.specs.declared.criteria.Key.{Key}
use Rattle.relations.specs.Columns.{column_of}
use Rattle.relations.specs.Criteria.{Interval}
use Rattle.relations.specs.Fitting.{is_view}
use Rattle.relations.specs.Positions.{AreResolved, IsUsable}
use Rattle.relations.specs.Refusals.{range_due, sort_due}
use Rattle.relations.specs.Rows.{has, value_of}
use Rattle.relations.specs.Searching.{asked_cmp}
use Rattle.relations.specs.Sorting.{row_cmp}
use Rattle.relations.specs.Keys.{IsPlainKey}
use Rattle.relations.proofs.Asking.{domain_here, plain_domain, usable}
use Rattle.relations.proofs.PlainKeys.{given_plain}
use Rattle.relations.proofs.Names.{column_in, has_at, value_at_column}

-- what decides between two rows, and what leaves it to the rest
pub stop : (d : Bool) (o p : Ordering) → is_ne o ≡ true → ordering_then (turned d o) p ≡ turned d o
stop d Equal p h = absurd (false≢true h)
stop false Less p h = refl
stop true Less p h = refl
stop false Greater p h = refl
stop true Greater p h = refl

pub pass : (d : Bool) (o p : Ordering) → is_ne o ≡ false → ordering_then (turned d o) p ≡ p
pass false Equal p h = refl
pass true Equal p h = refl
pass d Less p h = absurd (false≢true (sym h))
pass d Greater p h = absurd (false≢true (sym h))

-- one criterion, under the schema as it is read
module _ (schema s : List Attribute) (criteria : List Interval) (i : ℕ) (b : Interval) (prop : List ℕ) (due : range_due criteria schema ≡ None) (p : i < length criteria) (read : b ≡ get_or criteria i b)
    (same : s ≡ schema) (name : prop ≡ b.prop) where
  used : IsUsable schema b
  used = subst (IsUsable schema) (sym read) (usable schema criteria due i b p)

  pub criterion_present : has s prop ≡ true
  criterion_present = ap (λ (x : List Attribute). has x prop) same ∙ ap (has schema) name ∙ has_at schema b.prop used.present

  module _ (col : ℕ) (found : col ≡ column_of s prop) where
    pub criterion_column : col ≡ column_of schema b.prop
    criterion_column = found ∙ ap (λ (x : List Attribute). column_of x prop) same ∙ ap (column_of schema) name

    pub criterion_asks : (col < length schema) × IsComparable b.low (domain_at schema col) × IsComparable b.high (domain_at schema col)
    criterion_asks =
        let P : ℕ → Type 0 = λ k. (k < length schema) × IsComparable b.low (domain_at schema k) × IsComparable b.high (domain_at schema k) in
        subst P (sym criterion_column) (used.present, used.low, used.high)

    pub criterion_value : (row : List Datum) → value_of schema row b.prop ≡ get_or row col (integer (pos 0))
    criterion_value row = value_at_column schema row b.prop (has_at schema b.prop used.present) ∙ ap (λ k. get_or row k (integer (pos 0))) (sym criterion_column)

    -- with the columns that all criteria have
    pub resolved : AreResolved schema criteria (map (λ (c : Interval). column_of schema c.prop) criteria)
    resolved = record { columns = refl; usable = usable schema criteria due }

    pub column_read : col ≡ get_or (map (λ (c : Interval). column_of schema c.prop) criteria) i 0
    column_read = criterion_column ∙ ap (λ (c : Interval). column_of schema c.prop) read ∙ sym (get_or-map (λ (c : Interval). column_of schema c.prop) criteria i b 0 p)

-- one key
module _ (schema s : List Attribute) (keys : List Key) (i : ℕ) (k : Key) (due : sort_due keys schema ≡ None) (p : i < length keys) (read : k ≡ get_or keys i k) (same : s ≡ schema) where
  plain : IsPlainKey schema k
  plain = subst (IsPlainKey schema) (sym read) (given_plain schema keys due i k p)

  pub key_present : has s k.prop ≡ true
  key_present = ap (λ (x : List Attribute). has x k.prop) same ∙ plain.present

  module _ (col : ℕ) (found : col ≡ column_of s k.prop) where
    pub key_column : col ≡ column_of schema k.prop
    key_column = found ∙ ap (λ (x : List Attribute). column_of x k.prop) same

    pub key_asks : (col < length schema) × IsPlainDomain (domain_at schema col)
    key_asks =
        let P : ℕ → Type 0 = λ j. (j < length schema) × IsPlainDomain (domain_at schema j) in
        subst P (sym key_column) (column_in schema k.prop plain.present, plain_domain (domain_at schema (column_of schema k.prop)) (ap is_view (domain_here schema k.prop plain.present) ∙ plain.plain))

    pub key_value : (row : List Datum) → value_of schema row k.prop ≡ get_or row col (integer (pos 0))
    key_value row = value_at_column schema row k.prop plain.present ∙ ap (λ j. get_or row j (integer (pos 0))) (sym key_column)

    key_split : (a b : List Datum) → row_cmp schema (drop i keys) a b
        ≡ ordering_then (turned k.down (value_cmp (get_or a col (integer (pos 0))) (get_or b col (integer (pos 0))))) (row_cmp schema (drop (i + 1) keys) a b)
    key_split a b =
        ap (λ (ks : List Key). row_cmp schema ks a b) (drop_read keys i k p read)
        ∙ ap (λ (d : Datum). ordering_then (turned k.down (value_cmp d (value_of schema b k.prop))) (row_cmp schema (drop (i + 1) keys) a b)) (key_value a)
        ∙ ap (λ (d : Datum). ordering_then (turned k.down (value_cmp (get_or a col (integer (pos 0))) d)) (row_cmp schema (drop (i + 1) keys) a b)) (key_value b)

    pub key_decides : (a b : List Datum) (o : Ordering) → o ≡ value_cmp (get_or a col (integer (pos 0))) (get_or b col (integer (pos 0))) → is_ne o ≡ true
        → row_cmp schema keys a b ≡ row_cmp schema (drop i keys) a b → turned k.down o ≡ row_cmp schema keys a b
    key_decides a b o e ne before =
        sym (before ∙ key_split a b ∙ ap (λ q. ordering_then (turned k.down q) (row_cmp schema (drop (i + 1) keys) a b)) (sym e) ∙ stop k.down o (row_cmp schema (drop (i + 1) keys) a b) ne)

    pub key_ties : (a b : List Datum) (o : Ordering) → o ≡ value_cmp (get_or a col (integer (pos 0))) (get_or b col (integer (pos 0))) → is_ne o ≡ false
        → row_cmp schema keys a b ≡ row_cmp schema (drop i keys) a b → row_cmp schema keys a b ≡ row_cmp schema (drop (i + 1) keys) a b
    key_ties a b o e eq before =
        before ∙ key_split a b ∙ ap (λ q. ordering_then (turned k.down q) (row_cmp schema (drop (i + 1) keys) a b)) (sym e) ∙ pass k.down o (row_cmp schema (drop (i + 1) keys) a b) eq

-- one key and its criterion
module _ (schema : List Attribute) (keys : List Key) (criteria : List Interval) (i : ℕ) (row : List Datum) (v low : Datum) (o : Ordering) (b : Interval) (p : i < length keys) (q : i < length criteria)
    (read : b ≡ get_or criteria i b) (value : value_of schema row b.prop ≡ v) (bound : low ≡ b.low) (e : o ≡ value_cmp v low) where
  asked_split : (k : Key) → k ≡ get_or keys i k → asked_cmp schema (drop i keys) (drop i criteria) row ≡ ordering_then (turned k.down o) (asked_cmp schema (drop (i + 1) keys) (drop (i + 1) criteria) row)
  asked_split k r =
      let rest = asked_cmp schema (drop (i + 1) keys) (drop (i + 1) criteria) row in
      ap (λ (ks : List Key). asked_cmp schema ks (drop i criteria) row) (drop_read keys i k p r)
      ∙ ap (λ (bs : List Interval). asked_cmp schema (k ∷ drop (i + 1) keys) bs row) (drop_read criteria i b q read)
      ∙ ap (λ (d : Datum). ordering_then (turned k.down (value_cmp d b.low)) rest) value
      ∙ ap (λ (d : Datum). ordering_then (turned k.down (value_cmp v d)) rest) (sym bound)
      ∙ ap (λ x. ordering_then (turned k.down x) rest) (sym e)

  pub asked_decides : (k : Key) → k ≡ get_or keys i k → is_ne o ≡ true → asked_cmp schema keys criteria row ≡ asked_cmp schema (drop i keys) (drop i criteria) row → turned k.down o ≡ asked_cmp schema keys criteria row
  asked_decides k r ne before = sym (before ∙ asked_split k r ∙ stop k.down o (asked_cmp schema (drop (i + 1) keys) (drop (i + 1) criteria) row) ne)

  pub asked_ties : is_ne o ≡ false → asked_cmp schema keys criteria row ≡ asked_cmp schema (drop i keys) (drop i criteria) row → asked_cmp schema keys criteria row ≡ asked_cmp schema (drop (i + 1) keys) (drop (i + 1) criteria) row
  asked_ties eq before =
      let blank : Key = record { prop = []; down = false } in
      let k = get_or keys i blank in
      before ∙ asked_split k (same_default keys i blank k p) ∙ pass k.down o (asked_cmp schema (drop (i + 1) keys) (drop (i + 1) criteria) row) eq

asked_none : (schema : List Attribute) (keys : List Key) (criteria : List Interval) (row : List Datum) → (length keys ≤ 0) ⊎ (length criteria ≤ 0) → asked_cmp schema keys criteria row ≡ Equal
asked_none schema [] criteria row h = refl
asked_none schema (k ∷ keys) [] row h = refl
asked_none schema (k ∷ keys) (c ∷ criteria) row h = elim h [ inl p ↦ absurd (omega arith) | inr p ↦ absurd (omega arith) ]

pub asked_end : (schema : List Attribute) (keys : List Key) (criteria : List Interval) (row : List Datum) (n : ℕ) → (length keys ≤ n) ⊎ (length criteria ≤ n) → asked_cmp schema (drop n keys) (drop n criteria) row ≡ Equal
asked_end schema keys criteria row n h =
    let one = length-drop n keys in
    let two = length-drop n criteria in
    asked_none schema (drop n keys) (drop n criteria) row (elim h [ inl p ↦ inl (omega arith) | inr p ↦ inr (omega arith) ])
