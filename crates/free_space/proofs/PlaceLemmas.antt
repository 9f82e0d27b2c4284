-- Placing: why the first gap that is long enough is the least place.
use Rattle.std.proofs.Common.{ℕ, ◌≡◌, ◌+◌, ◌-◌, ◌<◌, ◌≤◌, max, List, length, get_or, arith, IsPermutation, inl, inr}
use Rattle.std.proofs.lemmas.Bool.{cases_lt}
use Rattle.std.proofs.lemmas.List.{get_or_default}
use Rattle.std.proofs.lemmas.List.Sorted.{All-permutation, IsPermutation-sym}
use Rattle.mk_value.specs.declared.span.Span.{Span}
use Rattle.free_space.specs.Extents.{IsAligned, IsBlock, Meets, extent_end, extent_len}
use Rattle.free_space.specs.FreeSpace.{CanStandAt, IsFree, IsLaidOut, IsLeastPlace, end_of}
use Rattle.free_space.proofs.EndLemmas.{end_of-aligned, extents-le-end_of, floor-le-end_of}
use Rattle.free_space.proofs.ExtentLemmas.{apart_from_end, apart_sym, end_before, extent_end-aligned, extent_len-least, le-extent_len, meets_within}

-- a span of this length at this place
abbrev pub span_at : ℕ → ℕ → Span
span_at len place = record { place = place; len = len }

-- the end of what is used is a place where a block of any length may stand
stands_at_end : (floor : ℕ) (used : List Span) (len : ℕ) → IsAligned floor → IsLaidOut used → CanStandAt floor used len (end_of floor used)
stands_at_end floor used len aligned laid = record {
  aligned = end_of-aligned floor used aligned laid.blocks;
  from_floor = floor-le-end_of floor used;
  free = λ k d within. apart_from_end (get_or used k d) (span_at len (end_of floor used)) (extents-le-end_of floor used k d within);
}

-- no least place lies above the end
pub least_place-le-end_of : (floor : ℕ) (used : List Span) (len place : ℕ) → IsAligned floor → IsLaidOut used → IsLeastPlace floor used len place → place ≤ end_of floor used
least_place-le-end_of floor used len place aligned laid is = is.least (end_of floor used) (stands_at_end floor used len aligned laid)

-- there is one least place at most
pub least_place_unique : (floor : ℕ) (used : List Span) (len one other : ℕ) → IsLeastPlace floor used len one → IsLeastPlace floor used len other → one ≡ other
least_place_unique floor used len one other first second = omega (arith, first.least other second.stands, second.least one first.stands)

-- whether an extent is free, and the least place, do not ask in which order the used spans stand
pub free_permutation : (used other : List Span) (span : Span) → IsPermutation used other → IsFree used span → IsFree other span
free_permutation used other span same free = let Apart : Span → Type 0 = λ one. ¬ Meets one span in All-permutation Apart used other same free

stands_permutation : (floor : ℕ) (used other : List Span) (len place : ℕ) → IsPermutation used other → CanStandAt floor used len place → CanStandAt floor other len place
stands_permutation floor used other len place same stands = record {
  aligned = stands.aligned;
  from_floor = stands.from_floor;
  free = free_permutation used other (span_at len place) same stands.free;
}

pub least_place_permutation : (floor : ℕ) (used other : List Span) (len place : ℕ) → IsPermutation used other → IsLeastPlace floor used len place → IsLeastPlace floor other len place
least_place_permutation floor used other len place same is = record {
  stands = stands_permutation floor used other len place same is.stands;
  least = λ lower stands. is.least lower (stands_permutation floor other used len lower (IsPermutation-sym used other same) stands);
}

-- ---- the search: the first `seen` used spans end at or before the place, and no block can stand below it

pub record IsReached (floor : ℕ) (used : List Span) (len seen place : ℕ) : Type 0 where
  pub aligned : IsAligned place
  pub from_floor : floor ≤ place
  pub past : (k : ℕ) (d : Span) → k < seen → extent_end (get_or used k d) ≤ place
  pub least : (other : ℕ) → CanStandAt floor used len other → place ≤ other

pub reached_none : (floor : ℕ) (used : List Span) (len : ℕ) → IsAligned floor → IsReached floor used len 0 floor
reached_none floor used len aligned = record {
  aligned = aligned;
  from_floor = omega arith;
  past = λ k d none. absurd (omega arith);
  least = λ other stands. stands.from_floor;
}

-- a block that stands at or above a place from which it does not reach up to the next used span stands past that span
stands_past : (floor : ℕ) (used : List Span) (len place other : ℕ) (span : Span) → 0 < len → IsBlock span → ¬ Meets span (span_at len other) → place ≤ other → span.place < place + len → extent_end span ≤ other
stands_past floor used len place other span some block apart from short = elim (cases_lt other (extent_end span)) [
  | inl before ↦ elim (cases_lt other span.place) [
    | inl below ↦
        let whole : extent_end (span_at len other) ≤ span.place = end_before (span_at len other) span block.not_empty (omega arith) (apart_sym span (span_at len other) apart) in
        absurd (omega (arith, le-extent_len len))
    | inr at ↦ absurd (apart (meets_within span (span_at len other) some at before))
  ]
  | inr past ↦ past
]

pub reached_more : (floor : ℕ) (used : List Span) (len seen place : ℕ) (span : Span) → 0 < len → IsLaidOut used → seen < length used → span ≡ get_or used seen span → span.place < place + len → IsReached floor used len seen place → IsReached floor used len (seen + 1) (max place (extent_end span))
reached_more floor used len seen place span some laid within is short so_far =
    let block : IsBlock span = let here : IsBlock (get_or used seen span) = laid.blocks seen span within in rw (← is) at here in
    let rounded : IsAligned (extent_end span) = extent_end-aligned span block in
    record {
      aligned = let even : IsAligned place = so_far.aligned in omega arith;
      from_floor = let low : floor ≤ place = so_far.from_floor in omega arith;
      past = λ k d upto. elim (cases_lt k seen) [
        | inl before ↦ let ends : extent_end (get_or used k d) ≤ place = so_far.past k d before in omega arith
        | inr at ↦ let here : k ≡ seen = omega arith in rw (here, get_or_default used seen d span within, ← is) (omega arith)
      ];
      least = λ other stands.
          let from : place ≤ other = so_far.least other stands in
          let free : ¬ Meets (get_or used seen span) (span_at len other) = stands.free seen span within in
          let apart : ¬ Meets span (span_at len other) = rw (← is) at free in
          let past : extent_end span ≤ other = stands_past floor used len place other span some block apart from short in
          omega arith;
    }

-- a block that reaches up to the next used span at most stands free of all
pub least_before : (floor : ℕ) (used : List Span) (len seen place : ℕ) (span : Span) → IsLaidOut used → seen < length used → span ≡ get_or used seen span → place + len ≤ span.place → IsReached floor used len seen place → IsLeastPlace floor used len place
least_before floor used len seen place span laid within is fits reached = record {
  stands = record { aligned = reached.aligned; from_floor = reached.from_floor; free = free };
  least = reached.least;
}
  where
    rounded : extent_end (span_at len place) ≤ span.place
    rounded =
        let block : IsBlock span = let here : IsBlock (get_or used seen span) = laid.blocks seen span within in rw (← is) at here in
        let even : IsAligned place = reached.aligned in
        let even_span : IsAligned span.place = block.aligned in
        let gap : extent_len len ≤ span.place - place = extent_len-least len (span.place - place) (omega arith) (omega arith) in
        omega arith

    free : IsFree used (span_at len place)
    free = λ k d inside. elim (cases_lt k seen) [
      | inl before ↦ apart_from_end (get_or used k d) (span_at len place) (reached.past k d before)
      | inr from ↦ elim (cases_lt seen k) [
        | inl later ↦
            let next : extent_end (get_or used seen span) ≤ (get_or used k span).place = laid.in_order seen k span later inside in
            let past : extent_end span ≤ (get_or used k span).place = rw (← is) at next in
            rw (get_or_default used k d span inside) (apart_sym (span_at len place) (get_or used k span) (apart_from_end (span_at len place) (get_or used k span) (omega (arith, rounded))))
        | inr at ↦ let here : k ≡ seen = omega arith in rw (here, get_or_default used seen d span within, ← is) (apart_sym (span_at len place) span (apart_from_end (span_at len place) span rounded))
      ]
    ]

-- past all used spans a block stands free of all
pub least_past_all : (floor : ℕ) (used : List Span) (len place : ℕ) → IsReached floor used len (length used) place → IsLeastPlace floor used len place
least_past_all floor used len place reached = record {
  stands = record {
    aligned = reached.aligned;
    from_floor = reached.from_floor;
    free = λ k d within. apart_from_end (get_or used k d) (span_at len place) (reached.past k d within);
  };
  least = reached.least;
}
