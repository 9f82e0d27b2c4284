-- The rows of a watch, by where they stand in the root.
use Rattle.std.proofs.Common.{◌≡◌, ℕ, ◌<◌, List, [], length, get_or, map, Some, refl, ap, sym, subst, ◌∙◌, arith}
use Rattle.std.proofs.lemmas.List.{get_or-map, get_or_default, length-map, same_lists}
use Rattle.mk_value.specs.Data.{Datum}
use Rattle.mk_value.specs.Heading.{Attribute}
use Rattle.relations.specs.Positions.{numbers}
use Rattle.relations.specs.Rows.{rows_at}
use Rattle.relations.proofs.Numbers.{length-numbers, numbers_at}
use Rattle.live.specs.Chains.{AreLinked, AreNow, LeadTo, place_in_root, seen}
use Rattle.live.specs.States.{WatchState}
use Rattle.live.proofs.Seeing.{seen_size, through}
use Rattle.live.proofs.Standing.{now_linked}

module _ (rows : List (List Datum)) (watches : List WatchState) (h : AreLinked rows watches) (w : ℕ) (p : w < length watches) where
  abbrev over_watch : ℕ → ℕ
  over_watch = place_in_root watches (Some w)

  -- a row of the watch stands where the watches say
  pub stands : (row : ℕ) → row < length (seen rows watches (Some w)) → (over_watch row < length rows) × (get_or rows (over_watch row) [] ≡ get_or (seen rows watches (Some w)) row [])
  stands row q = through rows watches h (length watches) (Some w) row (λ v e. let same : w ≡ v = cc in (subst (λ u. u < length watches) same p, subst (λ u. u < length watches) same p)) q

  pub lead_to : (places : List ℕ) (d : WatchState) → places ≡ map over_watch (numbers (length (get_or watches w d).kept)) → LeadTo rows watches w places
  lead_to places d e =
      let n = length (get_or watches w d).kept in
      let size = seen_size rows watches (Some w) h.sources w d refl p in
      let count = length-numbers n in
      let mapped = length-map (numbers n) over_watch in
      let long : length places ≡ n = ap length e ∙ mapped ∙ count in
      let read : (k x : ℕ) → k < n → get_or places k x ≡ over_watch k =
      λ k x q. ap (λ (ps : List ℕ). get_or ps k x) e ∙ get_or-map over_watch (numbers n) k 0 x (omega arith) ∙ ap over_watch (numbers_at n k 0 q) in
      record {
        within = λ k x q. subst (λ i. i < length rows) (sym (read k x (omega arith))) (stands k (omega arith)).0;
        few = let f = h.few w d p in omega arith;
        lead = same_lists (rows_at rows places) (seen rows watches (Some w)) (length-map places (λ i. get_or rows i []) ∙ long ∙ sym size) (λ k x q.
            let m = length-map places (λ i. get_or rows i []) in
            let r : k < n = omega arith in
            get_or-map (λ i. get_or rows i []) places k 0 x (omega arith) ∙ ap (λ i. get_or rows i []) (read k 0 r) ∙ (stands k (omega arith)).1
            ∙ default_of (seen rows watches (Some w)) k x (omega arith));
      }
    where
      default_of : (xs : List (List Datum)) (k : ℕ) (x : List Datum) → k < length xs → get_or xs k [] ≡ get_or xs k x
      default_of xs k x q = get_or_default xs k [] x q

pub row_stands : (schema : List Attribute) (rows : List (List Datum)) (watches : List WatchState) (k : ℕ) (d : WatchState) (i : ℕ) → AreNow schema rows watches → k < length watches → i < length (get_or watches k d).kept
    → (place_in_root watches (Some k) i < length rows) × (get_or rows (place_in_root watches (Some k) i) [] ≡ get_or (seen rows watches (Some k)) i [])
row_stands schema rows watches k d i h p q =
    let linked = now_linked schema rows watches h in
    let size = seen_size rows watches (Some k) h.sources k d refl p in
    stands rows watches linked k p i (omega arith)
