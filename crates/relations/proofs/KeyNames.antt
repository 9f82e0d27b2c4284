-- Keys of which each property is named once.
use Rattle.std.proofs.Common.{◌≡◌, ℕ, ◌+◌, ◌<◌, ◌||◌, Bool, true, false, not, List, [], ◌∷◌, ◌++◌, length, get_or, map, take, All, Option, None, refl, ap, sym, subst, ◌∙◌, arith}
use Rattle.std.specs.declared.cmp.Ordering.{Ordering}
use Rattle.std.specs.declared.cmp.Ordering.TheVariants.{Equal}
use Rattle.std.specs.Cmp.Lexicographic.{same_text}
use Rattle.std.specs.List.{list_any}
use Rattle.std.specs.Ordering.{ordering_then}
use Rattle.std.specs.Option.{option_or}
use Rattle.std.proofs.lemmas.Bool.{false≢true}
use Rattle.std.proofs.lemmas.List.{get_or_push, length-append, take_more}
use Rattle.std.proofs.lemmas.List.Elements.{All-push, All-take}
use Rattle.std.proofs.Math.Seq.{take-append_seam}
use Rattle.mk_value.specs.Data.{Datum}
use Rattle.mk_value.specs.Heading.{Attribute}
use Rattle.mk_value.specs.Names.{same_bytes}
use Rattle.mk_value.specs.Order.{value_cmp}
use Rattle.relations.specs.declared.criteria.Key.{Key}
use Rattle.relations.specs.declared.error.DerivedError.{DerivedError}
use Rattle.relations.specs.declared.error.DerivedError.TheVariants.{KeyIsView, NoProp}
use Rattle.relations.specs.Fitting.{is_view}
use Rattle.relations.specs.Keys.{IsPlainKey}
use Rattle.relations.specs.Merging.{OrderAs}
use Rattle.relations.specs.Refusals.{absent, a_view, sort_due}
use Rattle.relations.specs.Rows.{domain_of, has, value_of}
use Rattle.relations.specs.Sorting.{row_cmp}
use Rattle.relations.proofs.KeyColumns.{absorbed, either_way, first_tied, keys_more, own_cmp, second_tied, straight}
use Rattle.relations.proofs.Narrowing.{none_found}
use Rattle.relations.proofs.PlainKeys.{given_plain}

-- two rows in one property
abbrev values_cmp : List Attribute → List ℕ → List Datum → List Datum → Ordering
values_cmp schema prop a b = value_cmp (value_of schema a prop) (value_of schema b prop)

-- rows that tie by keys tie in the property of each
tied_in : (schema : List Attribute) (x : Key) (prop : List ℕ) (a b : List Datum) (among tie : Bool) → same_bytes x.prop prop ≡ tie → tie || among ≡ true → own_cmp schema x a b ≡ Equal
    → (among ≡ true → values_cmp schema prop a b ≡ Equal) → values_cmp schema prop a b ≡ Equal
tied_in schema x prop a b among true e h tied later =
    subst (λ n. values_cmp schema n a b ≡ Equal) (same_text x.prop prop (sym e)) (straight x.down (values_cmp schema x.prop a b) tied)
tied_in schema x prop a b among false e h tied later = later h

ties : (schema : List Attribute) (keys : List Key) (prop : List ℕ) (a b : List Datum) → list_any (λ (key : Key). same_bytes key.prop prop) keys ≡ true → row_cmp schema keys a b ≡ Equal → values_cmp schema prop a b ≡ Equal
ties schema [] prop a b h e = absurd (false≢true h)
ties schema (x ∷ keys) prop a b h e =
    tied_in schema x prop a b (list_any (λ (key : Key). same_bytes key.prop prop) keys) (same_bytes x.prop prop) refl h (first_tied (own_cmp schema x a b) (row_cmp schema keys a b) e)
    (λ later. ties schema keys prop a b later (second_tied (own_cmp schema x a b) (row_cmp schema keys a b) e))

-- keys of plain properties are due no refusal
none_of_two : (a b : Option DerivedError) → a ≡ None → b ≡ None → option_or a (option_or b None) ≡ None
none_of_two a b p q = ap (λ x. option_or x (option_or b None)) p ∙ ap (λ x. option_or x None) q

due_of : (schema : List Attribute) (keys : List Key) → All (IsPlainKey schema) keys → sort_due keys schema ≡ None
due_of schema keys h =
    let prop : Key → List ℕ = λ k. k.prop in
    none_of_two (absent schema (map prop keys)) (a_view schema (map prop keys))
    (none_found NoProp (λ n. not (has schema n)) prop keys (λ k d p. ap not (h k d p).present))
    (none_found KeyIsView (λ n. is_view (domain_of schema n)) prop keys (λ k d p. (h k d p).plain))

plain_of : (schema : List Attribute) (keys : List Key) → sort_due keys schema ≡ None → All (IsPlainKey schema) keys
plain_of schema keys due k d p = given_plain schema keys due k d p

pub order_begin : OrderAs [] []
order_begin = record { alike = λ schema a b. refl; due = λ schema h. h }

-- one key further
module _ (keys deciding : List Key) (i : ℕ) (k : Key) (p : i < length keys) (read : k ≡ get_or keys i k) (before : OrderAs (take i keys) deciding) where
  longer : take (i + 1) keys ≡ take i keys ++ k ∷ []
  longer = take_more keys i k p ∙ ap (λ (x : Key). take i keys ++ x ∷ []) (sym read)

  front : (schema : List Attribute) → All (IsPlainKey schema) (take i keys ++ k ∷ []) → All (IsPlainKey schema) (take i keys)
  front schema h = subst (All (IsPlainKey schema)) (take-append_seam (take i keys) (k ∷ [])) (All-take (IsPlainKey schema) (length (take i keys)) (take i keys ++ k ∷ []) h)

  last : (schema : List Attribute) → All (IsPlainKey schema) (take i keys ++ k ∷ []) → IsPlainKey schema k
  last schema h =
      let long = length-append (take i keys) (k ∷ []) in
      subst (IsPlainKey schema) (get_or_push (take i keys) k k (length (take i keys)) (omega arith)) (h (length (take i keys)) k (omega arith))

  deciding_plain : (schema : List Attribute) → All (IsPlainKey schema) (take i keys ++ k ∷ []) → All (IsPlainKey schema) deciding
  deciding_plain schema h = plain_of schema deciding (before.due schema (due_of schema (take i keys) (front schema h)))

  pub order_pushed : OrderAs (take (i + 1) keys) (deciding ++ k ∷ [])
  order_pushed = subst (λ (ks : List Key). OrderAs ks (deciding ++ k ∷ [])) (sym longer) (record {
    alike = λ schema a b. keys_more schema deciding k a b ∙ ap (λ o. ordering_then o (own_cmp schema k a b)) (before.alike schema a b) ∙ sym (keys_more schema (take i keys) k a b);
    due = λ schema h.
        let plain = plain_of schema (take i keys ++ k ∷ []) h in
        due_of schema (deciding ++ k ∷ []) (All-push (IsPlainKey schema) deciding k (deciding_plain schema plain) (last schema plain));
  })

  pub order_skipped : list_any (λ (key : Key). same_bytes key.prop k.prop) deciding ≡ true → OrderAs (take (i + 1) keys) deciding
  order_skipped again = subst (λ (ks : List Key). OrderAs ks deciding) (sym longer) (record {
    alike = λ schema a b.
        absorbed (row_cmp schema deciding a b) (own_cmp schema k a b) (λ e. either_way k.down (values_cmp schema k.prop a b) (ties schema deciding k.prop a b again e))
        ∙ ap (λ o. ordering_then o (own_cmp schema k a b)) (before.alike schema a b)
        ∙ sym (keys_more schema (take i keys) k a b);
    due = λ schema h. due_of schema deciding (deciding_plain schema (plain_of schema (take i keys ++ k ∷ []) h));
  })
