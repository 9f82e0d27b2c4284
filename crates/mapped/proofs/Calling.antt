-- What callers have to show: that keys stay distinct over an event, and that the first values of a row are a key.
use Rattle.std.proofs.Common.{◌≡◌, ◌≢◌, ℕ, ◌+◌, ◌-◌, ◌<◌, ◌≤◌, List, [], length, get_or, set, take, pos, None, Some, Contains, ap, sym, subst, ◌∙◌, arith, inl, inr}
use Rattle.std.specs.List.{insert, remove, slice_get}
use Rattle.std.proofs.lemmas.Bool.{cases_lt, cases_eq}
use Rattle.std.proofs.lemmas.List.{get_or_default, get_or-set_same, get_or-set_other, length-set, get_or-take, length-take-le}
use Rattle.std.proofs.lemmas.List.Edits.{length-insert, length-remove, get_or-insert_below, get_or-insert_at, get_or-insert_above, get_or-remove_below, get_or-remove_above}
use Rattle.std.proofs.lemmas.Option.{slice_get-get_or}
use Rattle.mk_value.specs.Data.{Datum, integer, IsRowOf}
use Rattle.mk_value.specs.Heading.{Attribute}
use Rattle.mk_value.specs.Tables.{IsComparable, domain_at}
use Rattle.mk_value.proofs.Cells.{value_is_of}
use Rattle.relations.proofs.Comparable.{comparable}
use Rattle.mk_value.specs.Limits.{max_rows}
use Rattle.mk_value.proofs.Relations.{row_fits_length}
use Rattle.mapped.specs.Index.{AreKeys}
use Rattle.mapped.specs.Keys.{IsKeyFor}
use Rattle.mapped.specs.Refusals.{count_due}
use Rattle.mapped.proofs.Keyed.{count_from, plain_at}
use Rattle.mapped.proofs.Moving.{keys_apart, fewer}

-- a key that no row has comes in
module _ (keys : List (List Datum)) (at : ℕ) (key : List Datum) (whole : AreKeys keys) (there : at ≤ length keys) (few : length keys < max_rows) (away : Contains keys key → ⊥) where
  other : (i : ℕ) (d : List Datum) → i < length keys → get_or keys i d ≢ key
  other i d p same = away (i, p, get_or_default keys i key d p ∙ same)

  -- the key at a place before or behind the one that came, by the place that it had
  come_apart : (i j : ℕ) (d : List Datum) → i < j → j < length (insert keys at key) → get_or (insert keys at key) i d ≢ get_or (insert keys at key) j d
  come_apart i j d p q e =
      let long = length-insert keys at key there in
      elim (cases_lt i at) [
        | inl front ↦
            let one = get_or-insert_below keys at key d i front there in
            elim (cases_lt j at) [
              | inl both ↦ whole.distinct i j d p (omega arith) (sym one ∙ e ∙ get_or-insert_below keys at key d j both there)
              | inr past ↦ elim (cases_eq j at) [
                | inl here ↦ other i d (omega arith) (sym one ∙ e ∙ ap (λ k. get_or (insert keys at key) k d) here ∙ get_or-insert_at keys at key d there)
                | inr behind ↦
                    let k : ℕ = j - 1 in
                    let back : j ≡ k + 1 = omega arith in
                    whole.distinct i k d (omega arith) (omega arith) (sym one ∙ e ∙ ap (λ k. get_or (insert keys at key) k d) back ∙ get_or-insert_above keys at key d k (omega arith) there)
              ]
            ]
        | inr past ↦
            let k : ℕ = j - 1 in
            let back : j ≡ k + 1 = omega arith in
            let two = ap (λ k. get_or (insert keys at key) k d) back ∙ get_or-insert_above keys at key d k (omega arith) there in
            elim (cases_eq i at) [
              | inl here ↦ other k d (omega arith) (sym two ∙ sym e ∙ ap (λ k. get_or (insert keys at key) k d) here ∙ get_or-insert_at keys at key d there)
              | inr behind ↦
                  let l : ℕ = i - 1 in
                  let same : i ≡ l + 1 = omega arith in
                  let one = ap (λ k. get_or (insert keys at key) k d) same ∙ get_or-insert_above keys at key d l (omega arith) there in
                  whole.distinct l k d (omega arith) (omega arith) (sym one ∙ e ∙ two)
            ]
      ]

  pub come_in : AreKeys (insert keys at key)
  come_in = record { few = (let long = length-insert keys at key there in omega arith); distinct = come_apart }

-- a key that no other row has takes the place of one
module _ (keys : List (List Datum)) (at : ℕ) (key : List Datum) (whole : AreKeys keys) (there : at < length keys) where
  pub take_place : ((i : ℕ) → i < length keys → i ≢ at → get_or keys i [] ≢ key) → AreKeys (set keys at key)
  take_place others =
      let long : length (set keys at key) ≡ length keys = length-set keys at key in
      let kept : (i : ℕ) (d : List Datum) → i < length keys → i ≢ at → get_or (set keys at key) i d ≡ get_or keys i [] =
      λ i d p ne. get_or-set_other keys at i key d ne ∙ get_or_default keys i d [] p in
      let come : (d : List Datum) → get_or (set keys at key) at d ≡ key = λ d. get_or-set_same keys at key d there in
      record {
        few = (let f = whole.few in omega arith);
        distinct = λ i j d p q e. elim (cases_eq i at) [
          | inl here ↦
              let ne : j ≢ at = λ s. absurd (omega arith) in
              others j (omega arith) ne (sym (kept j d (omega arith) ne) ∙ sym e ∙ ap (λ k. get_or (set keys at key) k d) here ∙ come d)
          | inr apart ↦ elim (cases_eq j at) [
            | inl there ↦ others i (omega arith) apart (sym (kept i d (omega arith) apart) ∙ e ∙ ap (λ k. get_or (set keys at key) k d) there ∙ come d)
            | inr far ↦ keys_apart keys i j whole (omega arith) (omega arith) (let ne : i ≢ j = λ s. absurd (omega arith) in ne) (sym (kept i d (omega arith) apart) ∙ e ∙ kept j d (omega arith) far)
          ]
        ];
      }

  -- no other row has it where this one has, and where none has
  pub others_of_found : slice_get keys at ≡ Some key → (i : ℕ) → i < length keys → i ≢ at → get_or keys i [] ≢ key
  others_of_found found i p ne e = keys_apart keys i at whole p there ne (e ∙ sym (some_is (sym (slice_get-get_or keys at [] there) ∙ found)))
    where
      some_is : {a b : List Datum} → Some a ≡ Some b → a ≡ b
      some_is e = cc

  pub others_of_none : (Contains keys key → ⊥) → (i : ℕ) → i < length keys → i ≢ at → get_or keys i [] ≢ key
  others_of_none away i p ne e = away (i, p, get_or_default keys i key [] p ∙ e)

  -- once the row that has a key goes, none has it
  pub gone : slice_get keys at ≡ Some key → Contains (remove keys at) key → ⊥
  gone found has =
      let k : ℕ = has.0 in
      let long = length-remove keys at there in
      let p : k < length (remove keys at) = has.1 in
      let e : get_or (remove keys at) k [] ≡ key = get_or_default (remove keys at) k [] key p ∙ has.2 in
      elim (cases_lt k at) [
        | inl front ↦ others_of_found found k (omega arith) (let ne : k ≢ at = λ s. absurd (omega arith) in ne) (sym (get_or-remove_below keys at [] k front there) ∙ e)
        | inr past ↦
            others_of_found found (k + 1) (omega arith) (let ne : k + 1 ≢ at = λ s. absurd (omega arith) in ne) (sym (get_or-remove_above keys at [] k (omega arith) there) ∙ e)
      ]

-- a row goes
pub go_out : (keys : List (List Datum)) (at : ℕ) → at < length keys → AreKeys keys → AreKeys (remove keys at)
go_out = fewer

-- the first values of a row of the schema are a key, if there may be so many keys
pub key_of_row : (count : ℕ) (schema : List Attribute) (row : List Datum) → IsRowOf row schema → count_due count schema ≡ None → IsKeyFor schema (take count row)
key_of_row count schema row fits none =
    let h = count_from count schema none in
    let long : length row ≡ length schema = row_fits_length row schema fits in
    let cut : length (take count row) ≡ count = length-take-le count row (omega (arith, h.few)) in
    record {
      few = omega (arith, h.few);
      comparable = λ i p.
          let q : i < count = omega arith in
          let inside : i < length schema = omega (arith, h.few) in
          subst (λ d. IsComparable d (domain_at schema i)) (sym (get_or-take count row i (integer (pos 0)) q))
          (comparable (get_or row i (integer (pos 0))) (domain_at schema i) (value_is_of row schema i fits inside) (plain_at count schema h i q));
    }
