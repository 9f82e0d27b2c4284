-- Laws of a splice and of the segments that it replaces.
use Rattle.std.proofs.Common.{◌≡◌, ℕ, suc, ◌+◌, ◌-◌, ◌%◌, ◌<◌, ◌≤◌, ◌⊎◌, inl, inr, ℤ, List, [], ◌∷◌, ◌++◌, length, get_or, take, drop, replicate, sym, ap, subst, ◌∙◌, arith}
use Rattle.std.proofs.lemmas.Bool.{cases_lt}
use Rattle.std.proofs.lemmas.List.{append_assoc, append-nil, drop_all, length-drop, length-take-le, map-append, take_all}
use Rattle.segments.specs.declared.splice.Splice.{Splice}
use Rattle.segments.specs.declared.splice.Replaced.{Replaced}
use Rattle.segments.specs.Segments.{start_of}
use Rattle.segments.specs.Splices.{Covers, AreApartBefore, AreApartBehind, FitsBehind, TakesNeighbors, size_after, items_after, spliced}
use Rattle.segments.specs.Joined.{joined, counts_of}
use Rattle.segments.proofs.Counts.{sum-take-suc}
use Rattle.segments.proofs.Lists.{take-split, drop-cons-at}
use Rattle.segments.proofs.Joined.{joined-append}
use Rattle.int_col.specs.Cuts.{AreCuts, full_cuts}
use Rattle.int_col.proofs.CutLaws.{cut_few, cut_some, cut_neighbours, full_cuts-more, AreCuts-spliced}
use Rattle.int_col.proofs.Lists.{around}

-- the segment before is taken in, and the one before that has no room
before_taken : (cs : List ℕ) (e : Splice) (t u : Replaced) → AreCuts cs → Covers cs e t → Covers cs e u → t.first ≡ u.first + 1 → AreApartBefore 2048 cs u.first (size_after e u)
before_taken cs e t u h c d less k is =
    let l : suc k < length cs = omega (arith, c.order, c.in_range) in
    let next : t.first ≡ suc (suc k) = omega arith in
    let from : t.start ≡ start_of cs (suc (suc k)) = c.start ∙ ap (start_of cs) next in
    let to : u.start ≡ start_of cs (suc k) = d.start ∙ ap (start_of cs) is in
    omega (arith, sum-take-suc (suc k) cs l, cut_neighbours cs k h l, c.before)

-- d values more, which fit into the last segment, and behind them a segment that does not fit in with those
behind_taken : (cs : List ℕ) (n after : ℕ) → AreCuts cs → after < length cs → FitsBehind 2048 n (get_or cs after 0) → AreApartBehind 2048 (n + get_or cs after 0) (drop (suc after) cs)
behind_taken cs n after h l fits =
    let P : List ℕ → Type 0 = AreApartBehind 2048 (n + get_or cs after 0) in
    let more : ℕ = get_or cs after 0 in
    let some : 0 < more = cut_some cs after h l in
    let few : more ≤ 2048 = cut_few cs after h l in
    elim (cases_lt (suc after) (length cs)) [
      | inl next ↦
          let d : ℕ = get_or cs (suc after) 0 in
          let pair : 2048 < more + d = cut_neighbours cs after h next in
          let apart : ((n + more) % 2048 ≡ 0) ⊎ (2048 < (n + more) % 2048 + d) =
          elim (cases_lt (n % 2048 + more) 2048) [
            | inl less ↦ elim fits [ inl none ↦ inr (omega arith) | inr fit ↦ inr (omega arith) ]
            | inr full ↦ elim fits [ inl none ↦ inl (omega arith) | inr fit ↦ inl (omega (arith, fit.0, fit.1)) ]
          ] in
          subst P (sym (drop-cons-at cs (suc after) 0 next)) (omega arith, apart)
      | inr last ↦ subst P (sym (drop_all (suc after) cs last)) tt
    ]

-- the segments beside those that a splice replaces are apart from what stands in their place
pub replaced_apart : (cs : List ℕ) (e : Splice) (t : Replaced) → AreCuts cs → Covers cs e t → TakesNeighbors 2048 cs e t → AreApartBefore 2048 cs t.first (size_after e t) × AreApartBehind 2048 (size_after e t) (drop t.after cs)
replaced_apart cs e t h c taken =
    let u : Replaced = taken.wider in
    let d : Covers cs e u = taken.wider_covers in
    let Before : Replaced → Type 0 = λ x. AreApartBefore 2048 cs x.first (size_after e x) in
    let Behind : Replaced → Type 0 = λ x. AreApartBehind 2048 (size_after e x) (drop x.after cs) in
    let before : Before u =
    elim taken.before [
      | inl stays ↦ subst Before (sym stays.0) stays.1
      | inr takes ↦ before_taken cs e taken.needed u h taken.exact.covers d takes.0
    ] in
    elim taken.behind [
      | inl stays ↦ (subst Before (sym stays.0) before, subst Behind (sym stays.0) stays.1)
      | inr takes ↦
          let next : t.after ≡ suc u.after = omega (arith, takes.1) in
          let l : u.after < length cs = omega (arith, c.in_range) in
          let first : t.first ≡ u.first = takes.0 in
          let start : t.start ≡ u.start = c.start ∙ ap (start_of cs) first ∙ sym d.start in
          let stop : t.stop ≡ u.stop + get_or cs u.after 0 = omega (arith, c.stop, d.stop, ap (start_of cs) next, sum-take-suc u.after cs l) in
          let size : size_after e u + get_or cs u.after 0 ≡ size_after e t = omega (arith, d.behind) in
          let P : ℕ → Type 0 = λ n. AreApartBehind 2048 n (drop (suc u.after) cs) in
          let Q : ℕ → Type 0 = λ k. AreApartBehind 2048 (size_after e t) (drop k cs) in (
            λ k is. omega (arith, before k (sym first ∙ is)),
            subst Q (sym next) (subst P size (behind_taken cs (size_after e u) u.after h l takes.2)),
          )
    ]

-- n values cut anew in place of the segments from a up to b
pub cuts_after : (cs fresh : List ℕ) (a b n : ℕ) → AreCuts cs → a ≤ length cs → fresh ≡ full_cuts n → AreApartBefore 2048 cs a n → AreApartBehind 2048 n (drop b cs) → AreCuts (take a cs ++ (fresh ++ drop b cs))
cuts_after cs fresh a b n h in_range made before behind =
    let P : List ℕ → Type 0 = λ ds. AreCuts (take a cs ++ (ds ++ drop b cs)) in
    subst P (sym made) (AreCuts-spliced cs a b n h in_range before behind)

-- one segment more of a list that is cut
pub cut_more : (ss new : List (List ℤ)) (xs s : List ℤ) (from to : ℕ) → joined ss ≡ take from xs → counts_of ss ≡ full_cuts from → from % 2048 ≡ 0 → from < to → to ≤ from + 2048 → to ≤ length xs → s ≡ take (to - from) (drop from xs) → new ≡ ss ++ s ∷ [] → (joined new ≡ take to xs) × (counts_of new ≡ full_cuts to)
cut_more ss new xs s from to values cuts whole some few within is made =
    let len : length s ≡ to - from = ap length is ∙ length-take-le (to - from) (drop from xs) (omega (arith, length-drop from xs)) in
    let sum : from + (to - from) ≡ to = omega arith in (
      ap joined made ∙ joined-append ss (s ∷ []) ∙ ap (λ ys. joined ss ++ ys) (append-nil s) ∙ ap (λ ys. ys ++ s) values ∙ ap (λ ys. take from xs ++ ys) is ∙ sym (take-split xs from to (omega arith)),
      ap counts_of made ∙ map-append length ss (s ∷ []) ∙ ap (λ ns. counts_of ss ++ ns) (ap (λ n. n ∷ []) len) ∙ ap (λ ns. ns ++ (to - from) ∷ []) cuts ∙ sym (full_cuts-more from (to - from) whole (omega arith) (omega arith)) ∙ ap full_cuts sum,
    )

-- copies of a value in a whole list, with the values before and behind written over their front and their end
pub arranged_all : (xs : List ℤ) (at end count : ℕ) (v : ℤ) (copies front back post : List ℤ) (m : ℕ) → copies ≡ replicate (at + count + (length xs - end)) v → length front ≡ at → front ≡ take at xs → back ≡ take m (drop end xs) → m ≡ length xs - end → post ≡ [] → take (at + count) (front ++ drop at copies) ++ (back ++ post) ≡ spliced xs at end count v
arranged_all xs at end count v copies front back post m are len before behind is none =
    let first : take (at + count) (front ++ drop at copies) ≡ front ++ replicate count v =
    around front copies at count (at + count + (length xs - end)) v are (omega arith) len in
    let last : back ++ post ≡ drop end xs =
    ap (λ ys. back ++ ys) none ∙ append-nil back ∙ behind ∙ take_all m (drop end xs) (omega (arith, length-drop end xs)) in
    ap (λ ys. ys ++ (back ++ post)) first
    ∙ append_assoc front (replicate count v) (back ++ post)
    ∙ ap (λ ys. ys ++ (replicate count v ++ (back ++ post))) before
    ∙ ap (λ ys. take at xs ++ (replicate count v ++ ys)) last

-- copies of the splice's value, with the values before and behind written over their front and their end
pub arranged : (xs : List ℤ) (e : Splice) (t : Replaced) (v : ℤ) (copies front back post : List ℤ) (m : ℕ) → copies ≡ replicate (size_after e t) v → length front ≡ e.at - t.start → front ≡ take (e.at - t.start) (drop t.start xs) → back ≡ take m (drop e.end xs) → m ≡ t.stop - e.end → post ≡ [] → take (e.at - t.start + e.count) (front ++ drop (e.at - t.start) copies) ++ (back ++ post) ≡ items_after xs e t v
arranged xs e t v copies front back post m are len before behind is none =
    let b : ℕ = e.at - t.start in
    let first : take (b + e.count) (front ++ drop b copies) ≡ front ++ replicate e.count v =
    around front copies b e.count (size_after e t) v are (omega arith) len in
    ap (λ ys. ys ++ (back ++ post)) first
    ∙ append_assoc front (replicate e.count v) (back ++ post)
    ∙ ap (λ ys. ys ++ (replicate e.count v ++ (back ++ post))) before
    ∙ ap (λ ys. take b (drop t.start xs) ++ (replicate e.count v ++ ys)) (ap (λ ys. back ++ ys) none ∙ append-nil back ∙ behind ∙ ap (λ k. take k (drop e.end xs)) is)
