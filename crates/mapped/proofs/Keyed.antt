-- The keys of rows: how many a schema may have, and where they stand in order.
use Rattle.std.proofs.Common.{◌≡◌, ℕ, zero, suc, ◌+◌, ◌-◌, ◌<◌, ◌≤◌, ◌==◌, ◌||◌, ◌&&◌, not, cond, nat_lt, Bool, true, false, List, [], length, get_or, take, Some, None, refl, ap, sym, ◌∙◌, arith, inl, inr}
use Rattle.std.specs.List.{list_any}
use Rattle.std.specs.Option.{option_map}
use Rattle.std.specs.declared.cmp.Ordering.{Ordering}
use Rattle.std.specs.declared.cmp.Ordering.TheVariants.{Less}
use Rattle.std.specs.Ordering.{is_lt}
use Rattle.std.proofs.lemmas.Bool.{cases_lt, false≢true, lt-ltb, ltb-false}
use Rattle.std.proofs.lemmas.List.{length-map, get_or-map, get_or-take, length-take-le, get_or_default}
use Rattle.std.proofs.lemmas.List.Folds.{list_any_at}
use Rattle.mk_value.specs.Heading.{Domain, Attribute}
use Rattle.mk_value.specs.Data.{Datum}
use Rattle.mk_value.specs.Tables.{IsPlainDomain, domain_at}
use Rattle.relations.specs.Fitting.{is_view}
use Rattle.relations.specs.Positions.{numbers}
use Rattle.relations.proofs.Faults.{none_refused}
use Rattle.relations.proofs.Numbers.{numbers_at, length-numbers}
use Rattle.mapped.specs.declared.error.MapError.TheVariants.{NoKeys, KeyIsView}
use Rattle.mapped.specs.Keys.{keys_of, key_cmp, AscendByKey}
use Rattle.mapped.specs.Refusals.{count_due, is_unordered, first_unordered}
use Rattle.mapped.proofs.Finding.{find_none, find_first}
use Rattle.mapped.proofs.Searching.{less_from}
use Rattle.mapped.proofs.Prefixes.{key_cmp_total}

-- so many keys a schema can have
pub record IsCount (count : ℕ) (schema : List Attribute) : Type 0 where
  pub some : 0 < count
  pub few : count ≤ length schema
  pub plain : list_any (λ a. is_view a.domain) (take count schema) ≡ false

count_where : (count : ℕ) (schema : List Attribute) (b c v : Bool) → (count == 0) ≡ b → nat_lt (length schema) count ≡ c → list_any (λ a. is_view a.domain) (take count schema) ≡ v
    → cond (b || c) (Some NoKeys) (cond v (Some KeyIsView) None) ≡ None → IsCount count schema
count_where count schema true c v e f g none = cc
count_where count schema false true v e f g none = cc
count_where count schema false false true e f g none = cc
count_where count schema false false false e f g none = record { some = grind arith; few = ltb-false (length schema) count f; plain = g }

pub count_from : (count : ℕ) (schema : List Attribute) → count_due count schema ≡ None → IsCount count schema
count_from count schema none = count_where count schema (count == 0) (nat_lt (length schema) count) (list_any (λ a. is_view a.domain) (take count schema)) refl refl refl none

plain_from : (d : Domain) → is_view d ≡ false → IsPlainDomain d
plain_from Domain.integer e = tt
plain_from Domain.long e = tt
plain_from Domain.text e = tt
plain_from Domain.bytes e = tt
plain_from (Domain.relation h) e = cc

not_true : (b : Bool) → (b ≡ true → ⊥) → b ≡ false
not_true true f = absurd (f refl)
not_true false f = refl

-- none of the first properties is a view
pub plain_at : (count : ℕ) (schema : List Attribute) → IsCount count schema → (i : ℕ) → i < count → IsPlainDomain (domain_at schema i)
plain_at count schema h i p =
    let d : Attribute = record { name = []; domain = Domain.integer } in
    let long = length-take-le count schema h.few in
    plain_from (domain_at schema i) (not_true (is_view (domain_at schema i)) (λ e.
    false≢true (sym h.plain ∙ list_any_at (λ (a : Attribute). is_view a.domain) (take count schema) i d (omega arith) (ap (λ (a : Attribute). is_view a.domain) (get_or-take count schema i d p) ∙ e))))

-- the key of a row
pub key_at : (count : ℕ) (rows : List (List Datum)) (i : ℕ) → i < length rows → get_or (keys_of count rows) i [] ≡ take count (get_or rows i [])
key_at count rows i p = get_or-map (take count) rows i [] [] p

pub length_keys : (count : ℕ) (rows : List (List Datum)) → length (keys_of count rows) ≡ length rows
length_keys count rows = length-map rows (take count)

module _ (count : ℕ) (rows : List (List Datum)) where
  pub unordered_at : (i : ℕ) (o : Ordering) → 0 < i → i < length rows → o ≡ key_cmp (take count (get_or rows (i - 1) [])) (take count (get_or rows i [])) → is_unordered (keys_of count rows) i ≡ not (is_lt o)
  unordered_at i o p q e =
      ap (λ b. b && not (is_lt (key_cmp (get_or (keys_of count rows) (i - 1) []) (get_or (keys_of count rows) i [])))) (lt-ltb 0 i p)
      ∙ ap (λ k. not (is_lt (key_cmp k (get_or (keys_of count rows) i [])))) (key_at count rows (i - 1) (omega arith))
      ∙ ap (λ k. not (is_lt (key_cmp (take count (get_or rows (i - 1) [])) k))) (key_at count rows i q) ∙ ap (λ o. not (is_lt o)) (sym e)

  -- the first row whose key is not above that of the row before it
  pub unordered_first : (i : ℕ) → i < length rows → is_unordered (keys_of count rows) i ≡ true → ((k : ℕ) → k < i → is_unordered (keys_of count rows) k ≡ false) → Some i ≡ first_unordered (keys_of count rows)
  unordered_first i p passes fails = let long = length_keys count rows in sym (find_first (is_unordered (keys_of count rows)) (length (keys_of count rows)) i (omega arith) passes fails)

  pub unordered_none : ((k : ℕ) → k < length rows → is_unordered (keys_of count rows) k ≡ false) → None ≡ first_unordered (keys_of count rows)
  unordered_none fails = let long = length_keys count rows in sym (find_none (is_unordered (keys_of count rows)) (length (keys_of count rows)) (λ k p. fails k (omega arith)))

  -- where there is none, the rows ascend by key
  next_less : first_unordered (keys_of count rows) ≡ None → (i : ℕ) → i + 1 < length rows → key_cmp (take count (get_or rows i [])) (take count (get_or rows (i + 1) [])) ≡ Less
  next_less none i p =
      let long = length_keys count rows in
      let n = length-numbers (length (keys_of count rows)) in
      let there : i + 1 < length (numbers (length (keys_of count rows))) = omega arith in
      let all = none_refused (λ (i : ℕ). i) (is_unordered (keys_of count rows)) (numbers (length (keys_of count rows))) (ap (option_map (λ (i : ℕ). i)) none) in
      let here : is_unordered (keys_of count rows) (i + 1) ≡ false = ap (is_unordered (keys_of count rows)) (sym (numbers_at (length (keys_of count rows)) (i + 1) 0 (omega arith))) ∙ all (i + 1) 0 there in
      let o : Ordering = key_cmp (take count (get_or rows (i + 1 - 1) [])) (take count (get_or rows (i + 1) [])) in
      let less : is_lt o ≡ true = not_false (is_lt o) (sym (unordered_at (i + 1) o (omega arith) p refl) ∙ here) in
      ap (λ k. key_cmp (take count (get_or rows k [])) (take count (get_or rows (i + 1) []))) (let e : i ≡ i + 1 - 1 = omega arith in e) ∙ less_from o less
    where
      not_false : (b : Bool) → not b ≡ false → b ≡ true
      not_false true e = refl
      not_false false e = cc

  far_less : first_unordered (keys_of count rows) ≡ None → (i j : ℕ) → i < j → j < length rows → key_cmp (take count (get_or rows i [])) (take count (get_or rows j [])) ≡ Less
  far_less none i zero p q = absurd (omega arith)
  far_less none i (suc j) p q =
      let next : key_cmp (take count (get_or rows j [])) (take count (get_or rows (suc j) [])) ≡ Less =
      ap (λ k. key_cmp (take count (get_or rows j [])) (take count (get_or rows k []))) (let e : suc j ≡ j + 1 = omega arith in e) ∙ next_less none j (omega arith) in
      elim (cases_lt i j) [
        | inl lt ↦ key_cmp_total.trans (take count (get_or rows i [])) (take count (get_or rows j [])) (take count (get_or rows (suc j) [])) (far_less none i j lt (omega arith)) next
        | inr ge ↦ ap (λ k. key_cmp (take count (get_or rows k [])) (take count (get_or rows (suc j) []))) (let e : i ≡ j = omega arith in e) ∙ next
      ]

  pub ascend_from : first_unordered (keys_of count rows) ≡ None → AscendByKey count rows
  ascend_from none i j d p q =
      ap (λ row. key_cmp (take count row) (take count (get_or rows j d))) (get_or_default rows i d [] (omega arith))
      ∙ ap (λ row. key_cmp (take count (get_or rows i [])) (take count row)) (get_or_default rows j d [] q) ∙ far_less none i j p q
