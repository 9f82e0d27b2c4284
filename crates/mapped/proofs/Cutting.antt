-- Keys that go side by side: the positions of the others in their order.
use Rattle.std.proofs.Common.{◌≡◌, ℕ, ◌+◌, ◌-◌, ◌<◌, ◌≤◌, Bool, true, List, [], ◌++◌, length, get_or, take, drop, ap, sym, subst, ◌∙◌, arith, inl, inr}
use Rattle.std.specs.List.{filter}
use Rattle.std.proofs.lemmas.Bool.{cases_lt}
use Rattle.std.proofs.lemmas.Bool.Decides.{nat_tests}
use Rattle.std.proofs.lemmas.List.{drop-map, get_or_append_left, get_or-append_right, get_or_default, get_or-drop, get_or-take, length-append, length-drop, length-take-le, map-append, take-map}
use Rattle.mk_value.specs.Data.{Datum}
use Rattle.relations.proofs.Ascending.{IsIn, ascends_from_pairs, contains_from_in, in_from_contains}
use Rattle.row_edits.specs.Runs.{is_outside, kept_outside, moved_down, moved_up}
use Rattle.row_edits.proofs.Filtered.{ascends_filter, filter_in, in_filter}
use Rattle.mapped.specs.Index.{AreKeys}
use Rattle.mapped.specs.Keys.{keys_of}
use Rattle.mapped.specs.Order.{IsIndexOf, key_at_cmp}
use Rattle.mapped.proofs.Lists.{all_from_in, all_in, ascends_map, in_map, map_in, pairs_from_ascends}
use Rattle.mapped.proofs.Moving.{at_same}

-- places moved up and down
up_outside : (at n k : ℕ) → is_outside at n (moved_up at n k) ≡ true
up_outside at n k = grind (arith, nat_tests)

down_up : (at n k : ℕ) → moved_down at n (moved_up at n k) ≡ k
down_up at n k = grind (arith, nat_tests)

up_down : (at n k : ℕ) → is_outside at n k ≡ true → moved_up at n (moved_down at n k) ≡ k
up_down at n k h = grind (arith, nat_tests)

up_low : (at n k : ℕ) → k < at → moved_up at n k ≡ k
up_low at n k h = grind (arith, nat_tests)

up_high : (at n k : ℕ) → at ≤ k → moved_up at n k ≡ k + n
up_high at n k h = grind (arith, nat_tests)

up_less : (at n j k : ℕ) → j < k → moved_up at n j < moved_up at n k
up_less at n j k h = grind (arith, nat_tests)

down_within : (at n k size : ℕ) → is_outside at n k ≡ true → at + n ≤ size → k < size → moved_down at n k < size - n
down_within at n k size h le p = grind (arith, nat_tests)

module _ (keys : List (List Datum)) (at n : ℕ) (le : at + n ≤ length keys) where
  abbrev left : List (List Datum)
  left = take at keys ++ drop (at + n) keys

  pub left_long : length left ≡ length keys - n
  left_long = let a = length-append (take at keys) (drop (at + n) keys) in let b = length-take-le at keys (omega arith) in let c = length-drop (at + n) keys in omega arith

  key_up : (i : ℕ) → get_or left i [] ≡ get_or keys (moved_up at n i) []
  key_up i =
      let f : length (take at keys) ≡ at = length-take-le at keys (omega arith) in
      elim (cases_lt i at) [
        | inl p ↦
            get_or_append_left (take at keys) (drop (at + n) keys) [] i (omega arith) ∙ get_or-take at keys i [] p ∙ ap (λ j. get_or keys j []) (sym (up_low at n i p))
        | inr p ↦
            get_or-append_right (take at keys) (drop (at + n) keys) at i [] f p ∙ get_or-drop (at + n) keys (i - at) []
            ∙ ap (λ j. get_or keys j []) ((let e : at + n + (i - at) ≡ i + n = omega arith in e) ∙ sym (up_high at n i p))
      ]

  key_down : (k : ℕ) → is_outside at n k ≡ true → get_or left (moved_down at n k) [] ≡ get_or keys k []
  key_down k e = key_up (moved_down at n k) ∙ ap (λ j. get_or keys j []) (up_down at n k e)

  up_within : (i : ℕ) → i < length left → moved_up at n i < length keys
  up_within i p = let l = left_long in elim (cases_lt i at) [
    | inl q ↦ let e = up_low at n i q in omega arith
    | inr q ↦ let e = up_high at n i q in omega arith
  ]

  left_keys : AreKeys keys → AreKeys left
  left_keys whole = record {
    few = let l = left_long in let f = whole.few in omega arith;
    distinct = λ i j d p q e.
        whole.distinct (moved_up at n i) (moved_up at n j) [] (up_less at n i j p) (up_within j q)
        (sym (key_up i) ∙ default i d (omega (arith, p, q)) ∙ e ∙ sym (default j d q) ∙ key_up j);
  }
    where
      default : (i : ℕ) (d : List Datum) → i < length left → get_or left i [] ≡ get_or left i d
      default i d p = get_or_default left i [] d p

  pub left_index : (order : List ℕ) → IsIndexOf keys order → IsIndexOf left (kept_outside at n order)
  left_index order h =
      let out : ℕ → Bool = is_outside at n in
      let of : (k : ℕ) → IsIn k (filter out order) → (k < length keys) × (out k ≡ true) =
      λ k g. let r = in_filter out order k g in (all_in (λ i. i < length keys) order k h.ordered.ordered.within r.0, r.1) in
      record {
        whole = left_keys h.whole;
        ordered = record {
          ordered = record {
            within = all_from_in (λ i. i < length left) (kept_outside at n order) (λ i g.
                let r = map_in (moved_down at n) (filter out order) i g in
                let x = of r.0 r.1 in
                let l = left_long in
                let w = down_within at n r.0 (length keys) x.1 le x.0 in
                subst (λ j. j < length left) r.2 (omega arith));
            ascends = pairs_from_ascends (key_at_cmp left) (kept_outside at n order)
                (ascends_map (key_at_cmp keys) (key_at_cmp left) (moved_down at n) (filter out order)
                (λ j k a b less. at_same keys left j k (moved_down at n j) (moved_down at n k) (key_down j (of j a).1) (key_down k (of k b).1) less)
                (ascends_filter (key_at_cmp keys) out order (ascends_from_pairs (key_at_cmp keys) order h.ordered.ordered.ascends)));
          };
          complete = λ i p. contains_from_in (kept_outside at n order) i
              (subst (λ j. IsIn j (kept_outside at n order)) (down_up at n i)
              (in_map (moved_down at n) (filter out order) (moved_up at n i)
              (filter_in out order (moved_up at n i) (in_from_contains order (moved_up at n i) (h.ordered.complete (moved_up at n i) (up_within i p))) (up_outside at n i))));
        };
      }

-- the keys of the rows that are left
pub keys_left : (count at n : ℕ) (rows : List (List Datum)) → take at (keys_of count rows) ++ drop (at + n) (keys_of count rows) ≡ keys_of count (take at rows ++ drop (at + n) rows)
keys_left count at n rows =
    ap (λ ks. ks ++ drop (at + n) (keys_of count rows)) (take-map (take count) at rows) ∙ ap (λ ks. keys_of count (take at rows) ++ ks) (drop-map (take count) (at + n) rows)
    ∙ sym (map-append (take count) (take at rows) (drop (at + n) rows))
