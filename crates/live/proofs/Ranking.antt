-- The places that rows have once others are gone, written beside each.
use Rattle.std.proofs.Common.{◌≡◌, ◌≢◌, ℕ, zero, suc, ◌+◌, ◌<◌, ◌≤◌, Bool, true, false, not, if◌then◌else◌, List, [], ◌∷◌, ◌++◌, get_or, map, refl, ap, sym, ◌∙◌, arith, inl, inr}
use Rattle.std.specs.List.{filter}
use Rattle.std.proofs.lemmas.Bool.{eq-eqb, ne_eqb}
use Rattle.std.proofs.lemmas.List.{get_or-map, map-append}
use Rattle.mk_value.specs.Limits.{max_rows}
use Rattle.relations.specs.Positions.{numbers}
use Rattle.relations.proofs.Ascending.{IsIn}
use Rattle.relations.proofs.Numbers.{length-numbers, numbers_at, numbers_more}
use Rattle.live.specs.Leaving.{has_rank, kept_left, no_rank, place_left, rank_of}
use Rattle.live.proofs.Leaving.{kept_goes, kept_stays, place_goes, place_stays, stays_or_goes}

pub ranked : (k : ℕ) → k ≢ no_rank → has_rank k ≡ true
ranked k ne = ap not (ne_eqb k no_rank ne)

pub unranked : (k : ℕ) → k ≡ no_rank → has_rank k ≡ false
unranked k e = ap not (eq-eqb k no_rank e)

pub place_few : (gone : ℕ → Bool) (n : ℕ) → place_left gone n ≤ n
place_few gone zero = omega arith
place_few gone (suc n) = elim (stays_or_goes (gone n)) [
  | inl e ↦ let a = place_stays gone n e in let b = place_few gone n in omega arith
  | inr e ↦ let a = place_goes gone n e in let b = place_few gone n in omega arith
]

-- one rank more
pub ranks_more : (gone : ℕ → Bool) (n rank : ℕ) (xs : List ℕ) → xs ≡ map (rank_of gone) (numbers n) → rank ≡ place_left gone n
    → xs ++ (if gone n then no_rank else rank) ∷ [] ≡ map (rank_of gone) (numbers (n + 1))
ranks_more gone n rank xs is e =
    ap (λ ys. ys ++ (if gone n then no_rank else rank) ∷ []) is ∙ ap (λ r. map (rank_of gone) (numbers n) ++ (if gone n then no_rank else r) ∷ []) e
    ∙ sym (ap (map (rank_of gone)) (numbers_more n) ∙ map-append (rank_of gone) (numbers n) (n ∷ []))

pub rank_more : (gone : ℕ → Bool) (n rank : ℕ) → rank ≡ place_left gone n → (if gone n then rank else rank + 1) ≡ place_left gone (n + 1)
rank_more gone n rank e = elim (stays_or_goes (gone n)) [
  | inl f ↦ ap (λ b. if b then rank else rank + 1) f ∙ ap (λ r. r + 1) e ∙ sym (place_stays gone n f) ∙ ap (place_left gone) (let z : suc n ≡ n + 1 = omega arith in z)
  | inr f ↦ ap (λ b. if b then rank else rank + 1) f ∙ e ∙ sym (place_goes gone n f) ∙ ap (place_left gone) (let z : suc n ≡ n + 1 = omega arith in z)
]

-- the positions that have a rank are those that are left
module _ (gone : ℕ → Bool) (n : ℕ) (few : n ≤ max_rows) where
  abbrev ranks : List ℕ
  ranks = map (rank_of gone) (numbers n)

  rank_at : (k : ℕ) → k < n → get_or ranks k 0 ≡ rank_of gone k
  rank_at k p = get_or-map (rank_of gone) (numbers n) k 0 0 (let l = length-numbers n in omega arith) ∙ ap (rank_of gone) (numbers_at n k 0 p)

  pub kept_ranked : (ks : List ℕ) → ((k : ℕ) → IsIn k ks → k < n) → filter has_rank (map (λ k. get_or ranks k 0) ks) ≡ kept_left gone ks
  kept_ranked [] below = refl
  kept_ranked (x ∷ xs) below =
      let p = below x (inl refl) in
      let rest = kept_ranked xs (λ k h. below k (inr h)) in
      elim (stays_or_goes (gone x)) [
        | inl e ↦
            let is : get_or ranks x 0 ≡ place_left gone x = rank_at x p ∙ ap (λ b. if b then no_rank else place_left gone x) e in
            let small = place_few gone x in
            yes (get_or ranks x 0) (map (λ k. get_or ranks k 0) xs) (ranked (get_or ranks x 0) (λ f. absurd (omega arith))) ∙ ap (λ y. y ∷ filter has_rank (map (λ k. get_or ranks k 0) xs)) is ∙ ap (λ ys. place_left gone x ∷ ys) rest
            ∙ sym (kept_stays gone x xs e)
        | inr e ↦
            let is : get_or ranks x 0 ≡ no_rank = rank_at x p ∙ ap (λ b. if b then no_rank else place_left gone x) e in
            no (get_or ranks x 0) (map (λ k. get_or ranks k 0) xs) (unranked (get_or ranks x 0) is) ∙ rest ∙ sym (kept_goes gone x xs e)
      ]
    where
      yes : (y : ℕ) (ys : List ℕ) → has_rank y ≡ true → filter has_rank (y ∷ ys) ≡ y ∷ filter has_rank ys
      yes y ys e = ap (λ b. if b then y ∷ filter has_rank ys else filter has_rank ys) e

      no : (y : ℕ) (ys : List ℕ) → has_rank y ≡ false → filter has_rank (y ∷ ys) ≡ filter has_rank ys
      no y ys e = ap (λ b. if b then y ∷ filter has_rank ys else filter has_rank ys) e
