-- Laws of the ends of segments, and of the places of items in the segments.
use Rattle.std.proofs.Common.{◌≡◌, ℕ, zero, suc, ◌+◌, ◌-◌, ◌*◌, ◌/◌, ◌<◌, ◌≤◌, inl, inr, List, [], ◌∷◌, length, get_or, set, take, drop, refl, sym, ap, subst, ◌∙◌, arith, sum}
use Rattle.std.proofs.Math.Nat.{div-mul-le_self}
use Rattle.std.proofs.lemmas.Nat.{div_below, row_fits}
use Rattle.std.proofs.lemmas.Bool.{cases_lt}
use Rattle.std.proofs.lemmas.List.{take_all, get_or_default, take-append-drop}
use Rattle.std.specs.List.{All}
use Rattle.std.proofs.lemmas.List.Elements.{All-set}
use Rattle.segments.specs.declared.segments.Place.{Place}
use Rattle.segments.specs.Segments.{ends_from, counts_from, AreEnds, start_of, IsPlace}
use Rattle.segments.proofs.Counts.{sum-append, sum-take-few, sum-take-suc, sum-take-mono, length-counts_from, get_or-ends_from, drop-ends_from, All-ends_from, ends_made, ends_extended, sum-extended}

-- segment k ends where the next begins
pub end_at : (most : ℕ) (es : List ℕ) (k : ℕ) → AreEnds most es → k < length es → get_or es k 0 ≡ start_of (counts_from 0 es) (suc k)
end_at most es k h l =
    ap (λ xs. get_or xs k 0) h.placed
    ∙ get_or-ends_from 0 (counts_from 0 es) k (omega (arith, length-counts_from 0 es))
    ∙ (let e : 0 + sum (take (suc k) (counts_from 0 es)) ≡ sum (take (suc k) (counts_from 0 es)) = omega arith in e)

-- what a read of the end before segment k gives
pub start_read : (most : ℕ) (es : List ℕ) (k x : ℕ) → AreEnds most es → 0 < k → k ≤ length es → x ≡ get_or es (k - 1) x → x ≡ start_of (counts_from 0 es) k
start_read most es zero x h some l read = absurd (omega arith)
start_read most es (suc k) x h some l read =
    let same : suc k - 1 ≡ k = omega arith in
    read ∙ ap (λ i. get_or es i x) same ∙ get_or_default es k x 0 (omega arith) ∙ end_at most es k h (omega arith)

pub start_all : (cs : List ℕ) → start_of cs (length cs) ≡ sum cs
start_all cs = ap sum (take_all (length cs) cs (omega arith))

pub start_within : (cs : List ℕ) (k : ℕ) → k ≤ length cs → start_of cs k ≤ sum cs
start_within cs k le = omega (arith, sum-take-mono cs k (length cs) le, start_all cs)

-- what a search of the ends may rest on

some_segment : (cs : List ℕ) (at : ℕ) → at < sum cs → 0 < length cs
some_segment [] at l = absurd (omega arith)
some_segment (c ∷ cs) at l = omega arith

pub search_from : (most : ℕ) (es : List ℕ) (at : ℕ) → AreEnds most es → at < sum (counts_from 0 es) → at / most < length es
search_from most es at h l =
    let cs : List ℕ = counts_from 0 es in
    div_below at most (length es) h.some (omega (arith, start_all cs, sum-take-few (length cs) most cs h.each, ap (λ n. n * most) (length-counts_from 0 es)))

pub search_below : (most : ℕ) (es : List ℕ) (at : ℕ) → AreEnds most es → at < sum (counts_from 0 es) → (k : ℕ) → k < at / most → get_or es k 0 ≤ at
search_below most es at h l k below =
    let cs : List ℕ = counts_from 0 es in
    let within = search_from most es at h l in
    omega (arith, end_at most es k h (omega arith), sum-take-few (suc k) most cs h.each, row_fits k most (at / most) most below (omega arith), div-mul-le_self at most)

pub search_reached : (most : ℕ) (es : List ℕ) (at : ℕ) → AreEnds most es → at < sum (counts_from 0 es) → at < get_or es (length es - 1) 0
search_reached most es at h l =
    let cs : List ℕ = counts_from 0 es in
    let some = some_segment cs at l in
    let last : suc (length es - 1) ≡ length cs = omega (arith, length-counts_from 0 es) in
    let end : get_or es (length es - 1) 0 ≡ sum cs = end_at most es (length es - 1) h (omega (arith, length-counts_from 0 es)) ∙ ap (start_of cs) last ∙ start_all cs in
    omega arith

pub search_ascending : (most : ℕ) (es : List ℕ) → AreEnds most es → (j k : ℕ) → j ≤ k → k < length es → get_or es j 0 ≤ get_or es k 0
search_ascending most es h j k le l =
    omega (arith, end_at most es j h (omega arith), end_at most es k h l, sum-take-mono (counts_from 0 es) (suc j) (suc k) (omega arith))

-- the first segment that ends above a place begins at or below it
pub start_found : (most : ℕ) (es : List ℕ) (at r : ℕ) → AreEnds most es → r < length es → ((k : ℕ) → k < r → get_or es k 0 ≤ at) → start_of (counts_from 0 es) r ≤ at
start_found most es at zero h l first = omega arith
start_found most es at (suc r) h l first = omega (arith, end_at most es r h (omega arith), first r (omega arith))

pub place_found : (most : ℕ) (es : List ℕ) (at : ℕ) (p : Place) → AreEnds most es → p.segment < length es → at < get_or es p.segment 0 → ((k : ℕ) → k < p.segment → get_or es k 0 ≤ at) → p.offset ≡ at - start_of (counts_from 0 es) p.segment → IsPlace (counts_from 0 es) at p
place_found most es at p h l above first is =
    let cs : List ℕ = counts_from 0 es in
    let in_range : p.segment < length cs = omega (arith, length-counts_from 0 es) in
    let below = start_found most es at p.segment h l first in
    record {
      segment = in_range;
      within = omega (arith, end_at most es p.segment h l, sum-take-suc p.segment cs in_range);
      sum = omega arith;
    }

-- a place from a segment's start on is not in a segment before it
pub segment_order : (cs : List ℕ) (first at : ℕ) (p : Place) → IsPlace cs at p → start_of cs first ≤ at → first ≤ p.segment + 1
segment_order cs first at p place from =
    elim (cases_lt (p.segment + 1) first) [
      | inl later ↦ absurd (omega (arith, sum-take-mono cs (suc p.segment) first (omega arith), sum-take-suc p.segment cs place.segment, place.sum, place.within))
      | inr sooner ↦ sooner
    ]

-- the end of a place's segment is above it
pub end_above : (cs : List ℕ) (at : ℕ) (p : Place) → IsPlace cs at p → at < start_of cs (p.segment + 1)
end_above cs at p place =
    let next : suc p.segment ≡ p.segment + 1 = omega arith in
    omega (arith, sum-take-suc p.segment cs place.segment, place.sum, place.within, ap (start_of cs) next)

-- a fact of each place from where segment b begins up to the end is one of the ends of the segments from b on
pub moved_ends : (P : ℕ → Type 0) (most : ℕ) (es : List ℕ) (b : ℕ) → AreEnds most es → ((e : ℕ) → start_of (counts_from 0 es) b ≤ e → e ≤ sum (counts_from 0 es) → P e) → All P (drop b es)
moved_ends P most es b h each =
    let cs : List ℕ = counts_from 0 es in
    let from : 0 + sum (take b cs) ≡ start_of cs b = omega arith in
    let parts : sum (take b cs) + sum (drop b cs) ≡ sum cs = sym (sum-append (take b cs) (drop b cs)) ∙ ap sum (take-append-drop b cs) in
    let is : drop b es ≡ ends_from (start_of cs b) (drop b cs) = ap (drop b) h.placed ∙ drop-ends_from 0 b cs ∙ ap (λ n. ends_from n (drop b cs)) from in
    let Q : List ℕ → Type 0 = All P in
    subst Q (sym is) (All-ends_from P (start_of cs b) (drop b cs) (λ e low high. each e low (omega (arith, parts))))

-- one item more in the last segment
pub extended : (most : ℕ) (es : List ℕ) (last end : ℕ) → AreEnds most es → suc last ≡ length es → get_or (counts_from 0 es) last 0 < most → sum (counts_from 0 es) < 16777216 → end ≡ get_or es last 0 + 1 → AreEnds most (set es last end) × (counts_from 0 (set es last end) ≡ set (counts_from 0 es) last (get_or (counts_from 0 es) last 0 + 1))
extended most es last end h len room few is =
    let cs : List ℕ = counts_from 0 es in
    let n : ℕ = get_or cs last 0 + 1 in
    let whole : suc last ≡ length cs = omega (arith, length-counts_from 0 es) in
    let small : n ≤ most = omega arith in
    ends_made most (set cs last n) (set es last end) h.some (All-set (λ k. k ≤ most) cs last n small h.each)
    (omega (arith, sum-extended cs last n (omega arith) refl))
    (ends_extended cs es last end h.placed whole is)
