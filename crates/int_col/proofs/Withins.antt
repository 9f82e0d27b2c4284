-- Laws of a splice that touches one segment alone.
use Rattle.std.proofs.Common.{◌≡◌, ℕ, suc, ◌+◌, ◌-◌, ◌<◌, ◌≤◌, ℤ, Bool, true, false, List, ◌∷◌, ◌++◌, length, get_or, set, take, drop, replicate, sym, ap, subst, ◌∙◌, arith, sum}
use Rattle.std.proofs.lemmas.List.{map-set, take_all}
use Rattle.std.specs.Bool.{OnTrue}
use Rattle.segments.specs.declared.segments.Place.{Place}
use Rattle.segments.specs.declared.splice.Splice.{Splice}
use Rattle.segments.specs.Segments.{start_of}
use Rattle.segments.specs.Splices.{Applies, spliced}
use Rattle.segments.specs.Joined.{joined, counts_of}
use Rattle.segments.proofs.Counts.{sum-take-suc}
use Rattle.segments.proofs.Joined.{count_is, length-counts, length-joined, length-spliced, spliced_part}
use Rattle.int_col.specs.declared.spine.Within.{Within}
use Rattle.int_col.specs.Cuts.{AreCuts}
use Rattle.int_col.specs.Spine.{IsSpine}
use Rattle.int_col.specs.Within.{IsPlaceOrEnd, IsWithin}
use Rattle.int_col.proofs.CutLaws.{AreCuts-set, AreCuts-two}
use Rattle.int_col.proofs.PackedSplices.{length-spliced as length_after}

-- the end of the list is that of its last segment
pub end_is : (cs : List ℕ) (xs : List ℤ) (p : Place) → length xs ≡ sum cs → 0 < length cs → p.segment ≡ length cs - 1 → p.offset ≡ get_or cs p.segment 0 → IsPlaceOrEnd cs (length xs) p
end_is cs xs p whole some last all =
    let next : suc p.segment ≡ length cs = omega arith in
    let l : p.segment < length cs = omega arith in
    record {
      segment = l;
      within = omega (arith, all);
      sum = omega (arith, whole, all, sum-take-suc p.segment cs l, ap (start_of cs) next, ap sum (take_all (length cs) cs (omega arith)));
    }

-- segments among which one has another count
pub may_stand_one : (r : Bool) (cs : List ℕ) (k n : ℕ) → AreCuts cs → k < length cs → 0 < n → n ≤ 2048 → ((j : ℕ) → k ≡ suc j → 2048 < get_or cs j 0 + n) → OnTrue r (k + 1 < length cs → 2048 < n + get_or cs (k + 1) 0) → OnTrue r (AreCuts (set cs k n))
may_stand_one false cs k n h l some few before behind = tt
may_stand_one true cs k n h l some few before behind =
    let next : suc k ≡ k + 1 = omega arith in
    AreCuts-set cs k n h l some few before (λ more. subst (λ i. 2048 < n + get_or cs i 0) (sym next) (behind (omega arith)))

-- two segments in place of those from a up to b
pub may_stand_two : (r : Bool) (cs : List ℕ) (a b m n : ℕ) → AreCuts cs → a ≤ b → b ≤ length cs → m ≤ 2048 → n ≤ 2048 → 2048 < m + n → ((j : ℕ) → a ≡ suc j → 2048 < get_or cs j 0 + m) → OnTrue r (b < length cs → 2048 < n + get_or cs b 0) → OnTrue r (AreCuts (take a cs ++ (m ∷ n ∷ drop b cs)))
may_stand_two false cs a b m n h order in_range m_few n_few apart before behind = tt
may_stand_two true cs a b m n h order in_range m_few n_few apart before behind = AreCuts-two cs a b m n h (omega arith) m_few n_few apart before behind

module _ (ss : List (List ℤ)) (e : Splice) (w : Within) (s t : List ℤ) (v : ℤ) (a : Applies (length (joined ss)) e) (h : IsWithin (counts_of ss) e w) (here : s ≡ get_or ss w.segment s) (made : t ≡ spliced s w.splice.at w.splice.end w.splice.count v) where
  in_list : w.segment < length ss
  in_list = omega (arith, h.in_range, length-counts ss)

  count : get_or (counts_of ss) w.segment 0 ≡ length s
  count = count_is ss w.segment s in_list here

  size : length t ≡ w.size
  size = ap length made ∙ length_after s w.splice.at w.splice.end w.splice.count v h.order (omega (arith, h.inside, count)) ∙ (omega (arith, h.size, count))

  -- the segment with its splice is the list with the whole
  pub joined_within : joined (set ss w.segment t) ≡ spliced (joined ss) e.at e.end e.count v
  joined_within =
      let n : ℕ = w.splice.end - w.splice.at in
      let end : w.splice.end ≡ w.splice.at + n = omega (arith, h.order) in
      let whole_end : e.at + n ≡ e.end = omega (arith, h.at, h.end, h.order) in
      ap (λ x. joined (set ss w.segment x))
      (made ∙ ap (λ k. spliced s w.splice.at k w.splice.count v) end ∙ ap (λ k. spliced s w.splice.at (w.splice.at + n) k v) h.count)
      ∙ spliced_part ss w.segment e.at w.splice.at n s (replicate e.count v) in_list here h.at (omega (arith, h.inside, h.order, count))
      ∙ ap (λ k. spliced (joined ss) e.at k e.count v) whole_end

  counts_within : counts_of (set ss w.segment t) ≡ set (counts_of ss) w.segment w.size
  counts_within = map-set length ss w.segment t ∙ ap (set (counts_of ss) w.segment) size

  pub few_within : (counts : List ℕ) → counts ≡ counts_of ss → sum (set counts w.segment w.size) ≤ 16777216
  few_within counts are =
      omega (arith, ap (λ cs. sum (set cs w.segment w.size)) are, ap sum counts_within, length-joined (set ss w.segment t), ap length joined_within, length-spliced (joined ss) e v a, a.few)

  pub IsSpine-within : (counts new : List ℕ) → counts ≡ counts_of ss → new ≡ set counts w.segment w.size → IsSpine (set ss w.segment t) new
  IsSpine-within counts new are is = record {
    cut = subst AreCuts (sym counts_within) h.cut;
    counted = is ∙ ap (λ cs. set cs w.segment w.size) are ∙ sym counts_within;
  }
