-- Blocks that were placed one after another: they meet nothing in use and not one another, each begins where the file may already reach, and
-- there is one way to place them.
use Rattle.std.proofs.Common.{◌≡◌, refl, sym, ◌∙◌, ap, subst, ℕ, zero, suc, ◌+◌, ◌<◌, ◌≤◌, ◌⊎◌, inl, inr, ⊎_elim, List, [], ◌∷◌, arith, All}
use Rattle.std.proofs.lemmas.List.Elements.{All-weaker, All-head, All-tail, All-cons, All-nil}
use Rattle.std.proofs.lemmas.List.Kept.{AllPairs-cons}
use Rattle.mk_value.specs.declared.span.Span.{Span}
use Rattle.free_space.specs.Extents.{IsAligned, Meets, AreApart, extent_len}
use Rattle.free_space.specs.FreeSpace.{IsFree, end_of}
use Rattle.free_space.specs.Sites.{first_place, no_span, IsSite, IsPlaced, ArePlaced}
use Rattle.free_space.proofs.EndLemmas.{extents-le-end_of, floor-le-end_of}
use Rattle.free_space.proofs.ExtentLemmas.{apart_from_end, extent_len-aligned}
use Rattle.free_space.proofs.PlaceLemmas.{least_place_unique}

pub extent_of_none : extent_len 0 ≡ 0
unfolding extent_len
extent_of_none = refl

-- a placed block stands where it may and meets nothing in use
pub record IsApartFrom (floor : ℕ) (used : List Span) (span : Span) : Type 0 where
  pub aligned : IsAligned span.place
  pub behind : floor ≤ span.place
  pub some : 0 < span.len
  pub free : IsFree used span

-- or it has no bytes
abbrev pub IsPut : ℕ → List Span → Span → Type 0
IsPut floor used span = (span ≡ no_span) ⊎ IsApartFrom floor used span

put_is : (floor : ℕ) (used : List Span) (len : ℕ) (span : Span) → IsPlaced floor used len span → IsPut floor used span
put_is floor used zero span placed = inl placed
put_is floor used (suc n) span placed = inr (record {
  aligned = placed.1.stands.aligned;
  behind = placed.1.stands.from_floor;
  some = let l = placed.0 in omega (arith, l);
  free = subst (λ (k : ℕ). IsFree used (record { place = span.place; len = k })) (sym placed.0) placed.1.stands.free;
})

put_beside : (floor : ℕ) (used : List Span) (span other : Span) → IsPut floor (span ∷ used) other → IsPut floor used other
put_beside floor used span other = ⊎_elim (λ none. inl none)
    (λ apart. inr (record { aligned = apart.aligned; behind = apart.behind; some = apart.some; free = All-tail (λ o. ¬ Meets o other) span used apart.free }))

-- each of the blocks that are placed one after another meets nothing in use
pub placed_free : (floor : ℕ) (used : List Span) (lens : List ℕ) (spans : List Span) → ArePlaced floor used lens spans → All (IsPut floor used) spans
placed_free floor used [] [] placed = All-nil (IsPut floor used)
placed_free floor used [] (span ∷ spans) placed = absurd placed
placed_free floor used (len ∷ lens) [] placed = absurd placed
placed_free floor used (len ∷ lens) (span ∷ spans) placed = All-cons (IsPut floor used) span spans (put_is floor used len span placed.0)
    (All-weaker (IsPut floor (span ∷ used)) (IsPut floor used) (λ other is. put_beside floor used span other is) spans (placed_free floor (span ∷ used) lens spans placed.1))

not_meeting : (floor : ℕ) (used : List Span) (span other : Span) → IsPut floor (span ∷ used) other → ¬ Meets span other
not_meeting floor used span other put meets = ⊎_elim
    (λ none. let m = subst (λ (s : Span). (s.place ≤ meets.0) × (meets.0 < s.place + extent_len s.len)) none meets.2 in let a = m.1 in omega (arith, a, extent_of_none))
    (λ apart. All-head (λ o. ¬ Meets o other) span used apart.free meets) put

-- and they do not meet one another
pub placed_apart : (floor : ℕ) (used : List Span) (lens : List ℕ) (spans : List Span) → ArePlaced floor used lens spans → AreApart spans
placed_apart floor used [] [] placed = λ i j d below within. absurd (omega (arith, within))
placed_apart floor used [] (span ∷ spans) placed = absurd placed
placed_apart floor used (len ∷ lens) [] placed = absurd placed
placed_apart floor used (len ∷ lens) (span ∷ spans) placed = AllPairs-cons (λ one other. ¬ Meets one other) span spans
    (All-weaker (IsPut floor (span ∷ used)) (λ other. ¬ Meets span other) (λ other is. not_meeting floor used span other is) spans (placed_free floor (span ∷ used) lens spans placed.1))
    (placed_apart floor (span ∷ used) lens spans placed.1)

-- no span in use stands at a place that is no multiple of 16
pub AreAligned : List Span → Type 0
AreAligned used = All (λ span. IsAligned span.place) used

-- the end of what is used, the extents of which stand at multiples of 16
pub end_aligned : (floor : ℕ) (used : List Span) → IsAligned floor → All (λ span. IsAligned span.place) used → IsAligned (end_of floor used)
end_aligned floor [] aligned all = aligned
end_aligned floor (span ∷ used) aligned all =
    let first : IsAligned span.place = All-head (λ span. IsAligned span.place) span used all in
    let rounded = extent_len-aligned span.len in
    let rest : IsAligned (end_of floor used) = end_aligned floor used aligned (All-tail (λ span. IsAligned span.place) span used all) in
    omega (arith, first, rounded, rest)

-- Each block begins at or below the end of what is used and of the blocks before it.
abbrev pub BeginBelow : ℕ → List Span → List Span → Type 0
BeginBelow floor used [] = Unit {0}
BeginBelow floor used (span ∷ spans) = (span.place ≤ end_of floor used) × BeginBelow floor (span ∷ used) spans

place_aligned : (floor : ℕ) (used : List Span) (len : ℕ) (span : Span) → IsPlaced floor used len span → IsAligned span.place
place_aligned floor used zero span placed = subst (λ (s : Span). IsAligned s.place) (sym placed) refl
place_aligned floor used (suc n) span placed = placed.1.stands.aligned

begins_below : (floor : ℕ) (used : List Span) (len : ℕ) (span : Span) → IsAligned floor → All (λ span. IsAligned span.place) used → IsPlaced floor used len span → span.place ≤ end_of floor used
begins_below floor used zero span aligned all placed = let none = ap (λ (s : Span). s.place) placed in omega (arith, none)
begins_below floor used (suc n) span aligned all placed = placed.1.least (end_of floor used) (record {
  aligned = end_aligned floor used aligned all;
  from_floor = floor-le-end_of floor used;
  free = λ k d within. apart_from_end _ _ (extents-le-end_of floor used k d within);
})

pub placed_begins : (floor : ℕ) (used : List Span) (lens : List ℕ) (spans : List Span) → IsAligned floor → All (λ span. IsAligned span.place) used → ArePlaced floor used lens spans → BeginBelow floor used spans
placed_begins floor used [] [] aligned all placed = tt
placed_begins floor used [] (span ∷ spans) aligned all placed = absurd placed
placed_begins floor used (len ∷ lens) [] aligned all placed = absurd placed
placed_begins floor used (len ∷ lens) (span ∷ spans) aligned all placed = (
  begins_below floor used len span aligned all placed.0,
  placed_begins floor (span ∷ used) lens spans aligned (All-cons (λ span. IsAligned span.place) span used (place_aligned floor used len span placed.0) all) placed.1,
)

one_span : (floor : ℕ) (used : List Span) (len : ℕ) (one other : Span) → IsPlaced floor used len one → IsPlaced floor used len other → one ≡ other
one_span floor used zero one other first second = first ∙ sym second
one_span floor used (suc n) one other first second =
    let places : one.place ≡ other.place = least_place_unique floor used (suc n) one.place other.place first.1 second.1 in
    let lens : one.len ≡ other.len = first.0 ∙ sym second.0 in
    let span : ℕ → ℕ → Span = λ place len. record { place = place; len = len } in
    ap (λ (place : ℕ). span place one.len) places ∙ ap (λ (len : ℕ). span other.place len) lens

-- blocks of given lengths get one list of spans
pub placed_unique : (floor : ℕ) (used : List Span) (lens : List ℕ) (one other : List Span) → ArePlaced floor used lens one → ArePlaced floor used lens other → one ≡ other
placed_unique floor used [] [] [] first second = refl
placed_unique floor used [] [] (o ∷ other) first second = absurd second
placed_unique floor used [] (s ∷ one) other first second = absurd first
placed_unique floor used (len ∷ lens) [] other first second = absurd first
placed_unique floor used (len ∷ lens) (s ∷ one) [] first second = absurd second
placed_unique floor used (len ∷ lens) (s ∷ one) (o ∷ other) first second =
    let here : s ≡ o = one_span floor used len s o first.0 second.0 in
    let rest : one ≡ other = placed_unique floor (s ∷ used) lens one other first.1 (subst (λ (t : Span). ArePlaced floor (t ∷ used) lens other) (sym here) second.1) in
    cc (here, rest)

-- Of an end that is a multiple of 16: a block within it has its whole extent within it.
pub site_from_block : (end place len : ℕ) → IsAligned end → IsAligned place → first_place ≤ place → 0 < len → place ≤ end → len + place ≤ end → IsSite end (record { place = place; len = len })
unfolding extent_len
site_from_block end place len end_even even behind some below within = record { aligned = even; behind = behind; some = some; within = omega arith }
