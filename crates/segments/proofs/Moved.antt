-- Laws of ends that are moved in place.
use Rattle.std.proofs.Common.{◌≡◌, ℕ, suc, ◌+◌, ◌-◌, ◌<◌, ◌≤◌, ◌⊎◌, inl, inr, List, [], ◌∷◌, ◌++◌, length, map, get_or, set, take, drop, refl, sym, ap, subst, ◌∙◌, arith, sum}
use Rattle.std.proofs.lemmas.Bool.{cases_lt}
use Rattle.std.proofs.lemmas.List.{append_assoc, same_lists, length-append, length-drop, length-take-le, length-map, get_or_append_left, get_or-append_right, get_or-take, get_or-drop, get_or-map, get_or_default, get_or-set_same, get_or-set_other, take-append-drop, take-set, drop-set}
use Rattle.std.specs.List.{All}
use Rattle.std.proofs.lemmas.List.Elements.{All-get_or, All-from_get_or, All-from_recursion}
use Rattle.segments.specs.Segments.{ends_from, counts_from, AreEnds, start_of}
use Rattle.segments.proofs.Counts.{sum-cons, sum-take-mono, length-counts_from}
use Rattle.segments.proofs.Lists.{drop-cons-at}
use Rattle.segments.proofs.Places.{end_at, start_within}
use Rattle.segments.proofs.Splices.{spliced_made, fresh_few}

-- the ends from number `after` up to `at` are moved, and all others are as they were
pub record AreMoved (es now : List ℕ) (after at from to : ℕ) : Type 0 where
  pub before : (k : ℕ) → k < after → get_or now k 0 ≡ get_or es k 0
  pub moved : (k : ℕ) → after ≤ k → k < at → get_or now k 0 ≡ get_or es k 0 - from + to
  pub rest : (k : ℕ) → at ≤ k → get_or now k 0 ≡ get_or es k 0

-- none so far
pub none_moved : (es : List ℕ) (after from to : ℕ) → AreMoved es es after after from to
none_moved es after from to = record {
  before = λ k l. refl;
  moved = λ k low high. absurd (omega arith);
  rest = λ k l. refl;
}

-- one end more
pub moved_more : (es now : List ℕ) (after at from to : ℕ) → after ≤ at → at < length now → AreMoved es now after at from to → AreMoved es (set now at (get_or now at 0 - from + to)) after (at + 1) from to
moved_more es now after at from to order within h = record {
  before = λ k l. other k (inl (omega arith)) ∙ h.before k l;
  moved = λ k low high.
      elim (cases_lt k at) [
        | inl less ↦ other k (inl less) ∙ h.moved k low less
        | inr last ↦
            let is : k ≡ at = omega arith in
            ap (λ j. get_or (set now at new) j 0) is
            ∙ get_or-set_same now at new 0 within
            ∙ ap (λ e. e - from + to) (h.rest at (omega arith))
            ∙ ap (λ j. get_or es j 0 - from + to) (sym is)
      ];
  rest = λ k l. other k (inr (omega arith)) ∙ h.rest k (omega arith);
} where
  new : ℕ
  new = get_or now at 0 - from + to

  other : (k : ℕ) → (k < at) ⊎ (at < k) → get_or (set now at new) k 0 ≡ get_or now k 0
  other k (inl less) = get_or-set_other now at k new 0 (λ is. omega (arith, less, is))
  other k (inr more) = get_or-set_other now at k new 0 (λ is. omega (arith, more, is))

-- a fact of each end from number `after` on
pub end_of_rest : (P : ℕ → Type 0) (es : List ℕ) (after at : ℕ) → after ≤ at → at < length es → All P (drop after es) → P (get_or es at 0)
end_of_rest P es after at order within h =
    let there : after + (at - after) ≡ at = omega arith in
    subst P (get_or-drop after es (at - after) 0 ∙ ap (λ j. get_or es j 0) there) (All-get_or P (drop after es) (at - after) 0 (omega (arith, length-drop after es)) h)

-- all ends from there on
pub ends_moved : (es now : List ℕ) (after end from to : ℕ) → after ≤ length es → length now ≡ length es → end ≡ length es → AreMoved es now after end from to → now ≡ take after es ++ map (λ e. e - from + to) (drop after es)
ends_moved es now after end from to within len is h =
    same_lists now (take after es ++ map f (drop after es))
    (omega (arith, len, length-append (take after es) (map f (drop after es)), front, length-map (drop after es) f, length-drop after es))
    (λ k d l.
    get_or_default now k d 0 l
    ∙ elim (cases_lt k after) [
      | inl less ↦
          h.before k less
          ∙ sym (get_or_append_left (take after es) (map f (drop after es)) d k (omega (arith, less, front)) ∙ get_or-take after es k d less ∙ get_or_default es k d 0 (omega (arith, l, len)))
      | inr more ↦
          let there : after + (k - after) ≡ k = omega (arith, more) in
          h.moved k more (omega (arith, l, len, is))
          ∙ sym (get_or-append_right (take after es) (map f (drop after es)) after k d front more
          ∙ get_or-map f (drop after es) (k - after) 0 d (omega (arith, l, len, more, length-drop after es))
          ∙ ap f (get_or-drop after es (k - after) 0 ∙ ap (λ j. get_or es j 0) there))
    ])
  where
    f : ℕ → ℕ
    f e = e - from + to

    front : length (take after es) ≡ after
    front = length-take-le after es within

set_parts : (xs : List ℕ) (i y : ℕ) → i < length xs → set xs i y ≡ take i xs ++ (y ∷ drop (i + 1) xs)
set_parts xs i y l = sym (take-append-drop i (set xs i y)) ∙ ap (λ zs. zs ++ drop i (set xs i y)) (take-set xs i y) ∙ ap (λ zs. take i xs ++ zs) (drop-set xs i y l)

-- a segment of another count ends among few items
pub set_few : (cs : List ℕ) (k count : ℕ) → k < length cs → sum (set cs k count) ≤ 16777216 → start_of cs k + count ≤ 16777216
set_few cs k count within few = omega (arith, few, ap sum (set_parts cs k count within), fresh_few cs (count ∷ []) k (k + 1), sum-cons count [])

-- a segment of another count
pub recounted : (most : ℕ) (es new : List ℕ) (k count from to : ℕ) → AreEnds most es → k < length es → count ≤ most → sum (set (counts_from 0 es) k count) ≤ 16777216 → from ≡ get_or es k 0 → to ≡ start_of (counts_from 0 es) k + count
    → new ≡ take k es ++ map (λ e. e - from + to) (drop k es) → AreEnds most new × (counts_from 0 new ≡ set (counts_from 0 es) k count)
recounted most es new k count from to h within small few at_from at_to made =
    let cs : List ℕ = counts_from 0 es in
    let start : ℕ = start_of cs k in
    let f : ℕ → ℕ = λ e. e - from + to in
    let len = length-counts_from 0 es in
    let next : suc k ≡ k + 1 = omega arith in
    let parts : take k cs ++ ((count ∷ []) ++ drop (k + 1) cs) ≡ set cs k count = sym (set_parts cs k count (omega (arith, len))) in
    let first : f (get_or es k 0) ≡ start + count = omega (arith, at_from, at_to) in
    let rest : map f (drop k es) ≡ (start + count) ∷ map f (drop (k + 1) es) =
    ap (map f) (drop-cons-at es k 0 within) ∙ ap (λ e. e ∷ map f (drop (suc k) es)) first ∙ ap (λ n. (start + count) ∷ map f (drop n es)) next in
    let all : new ≡ take k es ++ ends_from start (count ∷ []) ++ map f (drop (k + 1) es) =
    made ∙ ap (λ xs. take k es ++ xs) rest ∙ sym (append_assoc (take k es) ((start + count) ∷ []) (map f (drop (k + 1) es))) in
    let made_so = spliced_made most es (count ∷ []) new k (k + 1) start from to h (All-from_recursion (λ n. n ≤ most) (count ∷ []) (small, tt))
    (omega (arith, ap sum parts, few)) refl (at_from ∙ end_at most es k h within ∙ ap (start_of cs) next) (omega (arith, at_to, sum-cons count [])) all in
    (made_so.0, made_so.1 ∙ parts)

-- a fact of each place from where segment k ends up to the end is one of the ends from there on
pub ends_behind : (P : ℕ → Type 0) (most : ℕ) (es : List ℕ) (k from : ℕ) → AreEnds most es → k < length es → from ≡ get_or es k 0 → ((e : ℕ) → from ≤ e → e ≤ 16777216 → P e) → All P (drop k es)
ends_behind P most es k from h within at_from each =
    let cs : List ℕ = counts_from 0 es in
    All-from_get_or P (drop k es) 0 (λ i l.
    let in_range : k + i < length es = omega (arith, length-drop k es) in
    let here : get_or (drop k es) i 0 ≡ start_of cs (suc (k + i)) = get_or-drop k es i 0 ∙ end_at most es (k + i) h in_range in
    each (get_or (drop k es) i 0)
    (omega (arith, here, at_from, end_at most es k h within, sum-take-mono cs (suc k) (suc (k + i)) (omega arith)))
    (omega (arith, here, h.few, start_within cs (suc (k + i)) (omega (arith, length-counts_from 0 es)))))
