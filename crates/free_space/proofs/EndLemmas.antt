-- The end of what is used: the greatest of the floor and the ends of the used extents.
use Rattle.std.proofs.Common.{ℕ, ◌≡◌, ◌-◌, ◌<◌, ◌≤◌, max, List, [], ◌∷◌, length, get_or, arith, All, IsPermutation, inl, inr}
use Rattle.std.proofs.lemmas.Bool.{cases_lt}
use Rattle.std.proofs.lemmas.List.{get_or_default}
use Rattle.std.proofs.lemmas.List.Elements.{All-cons, All-head, All-tail}
use Rattle.std.proofs.lemmas.List.Sorted.{All-permutation, IsPermutation-sym}
use Rattle.mk_value.specs.declared.span.Span.{Span}
use Rattle.free_space.specs.Extents.{IsAligned, IsBlock, extent_end}
use Rattle.free_space.specs.FreeSpace.{IsLaidOut, end_of}
use Rattle.free_space.proofs.ExtentLemmas.{extent_end-aligned}

-- the extent of the span ends at or below the bound
abbrev EndsBy : ℕ → Span → Type 0
EndsBy bound span = extent_end span ≤ bound

pub floor-le-end_of : (floor : ℕ) (used : List Span) → floor ≤ end_of floor used
floor-le-end_of floor [] = omega arith
floor-le-end_of floor (span ∷ used) = omega (arith, floor-le-end_of floor used)

raised : (low high : ℕ) → low ≤ high → (used : List Span) → All (EndsBy low) used → All (EndsBy high) used
raised low high up used all = λ k d within. let below : extent_end (get_or used k d) ≤ low = all k d within in omega arith

-- no used extent ends above the end
pub extents-le-end_of : (floor : ℕ) (used : List Span) → All (λ span. extent_end span ≤ end_of floor used) used
extents-le-end_of floor [] = λ k d within. absurd (omega arith)
extents-le-end_of floor (span ∷ used) =
    let rest : All (EndsBy (end_of floor (span ∷ used))) used = raised (end_of floor used) (end_of floor (span ∷ used)) (omega arith) used (extents-le-end_of floor used) in
    All-cons (EndsBy (end_of floor (span ∷ used))) span used (omega arith) rest

-- a bound on the floor and on each used extent bounds the end
pub end_of-le : (floor : ℕ) (used : List Span) (bound : ℕ) → floor ≤ bound → All (λ span. extent_end span ≤ bound) used → end_of floor used ≤ bound
end_of-le floor [] bound low all = low
end_of-le floor (span ∷ used) bound low all =
    let first : extent_end span ≤ bound = All-head (EndsBy bound) span used all in
    omega (arith, end_of-le floor used bound low (All-tail (EndsBy bound) span used all))

-- the end does not ask in which order the used spans stand
pub end_of-permutation : (floor : ℕ) (used other : List Span) → IsPermutation used other → end_of floor other ≡ end_of floor used
end_of-permutation floor used other same =
    let here : All (EndsBy (end_of floor used)) other = All-permutation (EndsBy (end_of floor used)) used other same (extents-le-end_of floor used) in
    let there : All (EndsBy (end_of floor other)) used = All-permutation (EndsBy (end_of floor other)) other used (IsPermutation-sym used other same) (extents-le-end_of floor other) in
    omega (arith, end_of-le floor other (end_of floor used) (floor-le-end_of floor used) here, end_of-le floor used (end_of floor other) (floor-le-end_of floor other) there)

-- the end once a span is taken
pub end_of-taken : (floor : ℕ) (span : Span) (used taken : List Span) → IsPermutation (span ∷ used) taken → end_of floor taken ≡ max (extent_end span) (end_of floor used)
end_of-taken floor span used taken same = end_of-permutation floor (span ∷ used) taken same

pub end_of-aligned : (floor : ℕ) (used : List Span) → IsAligned floor → All IsBlock used → IsAligned (end_of floor used)
end_of-aligned floor [] aligned all = aligned
end_of-aligned floor (span ∷ used) aligned all =
    let first : IsAligned (extent_end span) = extent_end-aligned span (All-head IsBlock span used all) in
    let rest : IsAligned (end_of floor used) = end_of-aligned floor used aligned (All-tail IsBlock span used all) in
    omega arith

-- of spans in order the last ends last
ends_by_last : (used : List Span) (last : Span) → IsLaidOut used → last ≡ get_or used (length used - 1) last → All (EndsBy (extent_end last)) used
ends_by_last used last laid is = λ k d within. elim (cases_lt k (length used - 1)) [
  | inl before ↦
      let next : extent_end (get_or used k last) ≤ (get_or used (length used - 1) last).place = laid.in_order k (length used - 1) last before (omega arith) in
      let at_last : extent_end (get_or used k last) ≤ last.place = rw (← is) at next in
      rw (get_or_default used k d last within) (omega arith)
  | inr at ↦ let here : k ≡ length used - 1 = omega arith in rw (get_or_default used k d last within, here, ← is) (omega arith)
]

pub end_of-last : (floor : ℕ) (used : List Span) (last : Span) → IsLaidOut used → 0 < length used → last ≡ get_or used (length used - 1) last → end_of floor used ≡ max floor (extent_end last)
end_of-last floor used last laid some is =
    let final : extent_end (get_or used (length used - 1) last) ≤ end_of floor used = extents-le-end_of floor used (length used - 1) last (omega arith) in
    let reached : extent_end last ≤ end_of floor used = rw (← is) at final in
    let bound = max floor (extent_end last) in
    let all : All (EndsBy bound) used = raised (extent_end last) bound (omega arith) used (ends_by_last used last laid is) in
    omega (arith, floor-le-end_of floor used, end_of-le floor used bound (omega arith) all)
