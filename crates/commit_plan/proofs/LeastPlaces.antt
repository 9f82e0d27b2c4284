-- Each block has a least place, since behind all that is in use there is room for any.
use Rattle.std.proofs.Common.{◌≡◌, ℕ, zero, suc, ◌+◌, ◌%◌, ◌<◌, ◌≤◌, ◌⊎◌, inl, inr, List, [], ◌∷◌, All, refl, subst, arith}
use Rattle.std.proofs.lemmas.Bool.{cases_lt, cases_order}
use Rattle.std.proofs.lemmas.List.Elements.{All-cons, All-head, All-nil, All-tail}
use Rattle.mk_value.specs.declared.span.Span.{Span}
use Rattle.free_space.specs.Extents.{IsAligned, Meets, extent_end}
use Rattle.free_space.specs.FreeSpace.{CanStandAt, IsFree, end_of}
use Rattle.free_space.specs.Sites.{ArePlaced, IsPlaced, no_span}
use Rattle.free_space.proofs.EndLemmas.{extents-le-end_of, floor-le-end_of}
use Rattle.free_space.proofs.ExtentLemmas.{apart_from_end}
use Rattle.free_space.proofs.Placing.{end_aligned}
use Rattle.commit_plan.specs.Placing.{stacked}

-- spans that stand at multiples of 16
abbrev pub AreAligned : List Span → Type 0
AreAligned spans = All (λ span. IsAligned span.place) spans

-- a property that each number has or has not
abbrev IsDecided : (ℕ → Type 0) → Type 0
IsDecided P = (n : ℕ) → P n ⊎ (¬ P n)

-- the least number of a property
record HasLeast (P : ℕ → Type 0) : Type 0 where
  number : ℕ
  has : P number
  least : (other : ℕ) → P other → number ≤ other

not_below : (low other : ℕ) → ¬ (other < low) → low ≤ other
not_below low other above = elim (cases_lt other low) [ inl below ↦ absurd (above below) | inr at_least ↦ at_least ]

none_up_to : (P : ℕ → Type 0) (low : ℕ) → ¬ P low → ((other : ℕ) → other < low → ¬ P other) → (other : ℕ) → other < low + 1 → ¬ P other
none_up_to P low none below other upto has = elim (cases_lt other low) [
  | inl less ↦ below other less has
  | inr more ↦ none (subst P (let same : other ≡ low = omega (arith, upto, more) in same) has)
]

-- it is looked for from a number on below which no number has the property, up to one that has it
least_from : (P : ℕ → Type 0) → IsDecided P → (left low : ℕ) → P (low + left) → ((other : ℕ) → other < low → ¬ P other) → HasLeast P
least_from P decided zero low has below = record {
  number = low;
  has = subst P (let same : low + zero ≡ low = omega arith in same) has;
  least = λ other p. not_below low other (λ less. below other less p);
}
least_from P decided (suc left) low has below = elim (decided low) [
  | inl here ↦ record { number = low; has = here; least = λ other p. not_below low other (λ less. below other less p) }
  | inr none ↦ least_from P decided left (low + 1) (subst P (let same : low + suc left ≡ low + 1 + left = omega arith in same) has) (none_up_to P low none below)
]

least_of : (P : ℕ → Type 0) → IsDecided P → (some : ℕ) → P some → HasLeast P
least_of P decided some has = least_from P decided some 0 (subst P (let same : some ≡ 0 + some = omega arith in same) has) (λ other below. absurd (omega (arith, below)))

-- Whether a block can stand at a place is decided.
meets_or_not : (one other : Span) → Meets one other ⊎ (¬ Meets one other)
meets_or_not one other = elim (cases_lt other.place one.place) [
  | inl before ↦ elim (cases_lt one.place (extent_end other)) [
    | inl within ↦ elim (cases_lt one.place (extent_end one)) [
      | inl some ↦ inl (one.place, (omega arith, some), (omega (arith, before), within))
      | inr none ↦ inr (λ m. let a = m.1 in absurd (omega (arith, a, none)))
    ]
    | inr past ↦ inr (λ m. let a = m.1 in let b = m.2 in absurd (omega (arith, a, b, past)))
  ]
  | inr behind ↦ elim (cases_lt other.place (extent_end one)) [
    | inl within ↦ elim (cases_lt other.place (extent_end other)) [
      | inl some ↦ inl (other.place, (behind, within), (omega arith, some))
      | inr none ↦ inr (λ m. let b = m.2 in absurd (omega (arith, b, none)))
    ]
    | inr past ↦ inr (λ m. let a = m.1 in let b = m.2 in absurd (omega (arith, a, b, past)))
  ]
]

free_or_not : (used : List Span) (span : Span) → IsFree used span ⊎ (¬ IsFree used span)
free_or_not [] span = inl (All-nil (λ other. ¬ Meets other span))
free_or_not (other ∷ used) span = elim (meets_or_not other span) [
  | inl meets ↦ inr (λ free. All-head (λ o. ¬ Meets o span) other used free meets)
  | inr apart ↦ elim (free_or_not used span) [
    | inl free ↦ inl (All-cons (λ o. ¬ Meets o span) other used apart free)
    | inr not ↦ inr (λ free. not (All-tail (λ o. ¬ Meets o span) other used free))
  ]
]

aligned_or_not : (place : ℕ) → IsAligned place ⊎ (¬ IsAligned place)
aligned_or_not place = elim (cases_order (place % 16) 0) [
  | inl same ↦ inl same
  | inr other ↦ inr (λ same. elim other [ inl less ↦ absurd (omega (arith, less)) | inr more ↦ absurd (omega (arith, more, same)) ])
]

stands_or_not : (floor : ℕ) (used : List Span) (len : ℕ) → IsDecided (CanStandAt floor used len)
stands_or_not floor used len place = elim (aligned_or_not place) [
  | inl aligned ↦ elim (cases_lt place floor) [
    | inl below ↦ inr (λ stands. let from = stands.from_floor in absurd (omega (arith, below, from)))
    | inr from ↦ elim (free_or_not used (record { place = place; len = len })) [
      | inl free ↦ inl (record { aligned = aligned; from_floor = from; free = free })
      | inr not ↦ inr (λ stands. not stands.free)
    ]
  ]
  | inr not ↦ inr (λ stands. not stands.aligned)
]

-- behind all that is in use a block of any length can stand
stands_behind : (floor : ℕ) (used : List Span) (len : ℕ) → IsAligned floor → AreAligned used → CanStandAt floor used len (end_of floor used)
stands_behind floor used len aligned all = record {
  aligned = end_aligned floor used aligned all;
  from_floor = floor-le-end_of floor used;
  free = λ k d within. apart_from_end _ _ (extents-le-end_of floor used k d within);
}

-- a block of a length at its least place
pub record HasPlace (floor : ℕ) (used : List Span) (len : ℕ) : Type 0 where
  pub span : Span
  pub placed : IsPlaced floor used len span
  pub aligned : IsAligned span.place

pub one_place_found : (floor : ℕ) (used : List Span) (len : ℕ) → IsAligned floor → AreAligned used → HasPlace floor used len
one_place_found floor used zero aligned all = record { span = no_span; placed = refl; aligned = refl }
one_place_found floor used (suc n) aligned all =
    let found = least_of (CanStandAt floor used (suc n)) (stands_or_not floor used (suc n)) (end_of floor used) (stands_behind floor used (suc n) aligned all) in
    record {
      span = record { place = found.number; len = suc n };
      placed = (refl, record { stands = found.has; least = found.least });
      aligned = found.has.aligned;
    }

-- blocks of these lengths, one after another
pub record HavePlaces (floor : ℕ) (used : List Span) (lens : List ℕ) : Type 0 where
  pub spans : List Span
  pub placed : ArePlaced floor used lens spans
  pub aligned : AreAligned (stacked spans used)

pub places_found : (floor : ℕ) (used : List Span) (lens : List ℕ) → IsAligned floor → AreAligned used → HavePlaces floor used lens
places_found floor used [] aligned all = record { spans = []; placed = tt; aligned = all }
places_found floor used (len ∷ lens) aligned all =
    let first = one_place_found floor used len aligned all in
    let rest = places_found floor (first.span ∷ used) lens aligned (All-cons (λ span. IsAligned span.place) first.span used first.aligned all) in
    record { spans = first.span ∷ rest.spans; placed = (first.placed, rest.placed); aligned = rest.aligned }
