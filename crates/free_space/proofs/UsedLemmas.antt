-- The used spans of a free map: how they come to be laid out, and that they stay so.
use Rattle.std.proofs.Common.{ℕ, suc, zero, ap, sym, ◌⊎◌, ◌≡◌, ◌+◌, ◌<◌, ◌≤◌, List, [], ◌∷◌, length, get_or, refl, inl, inr, arith, All, Contains, IsPermutation}
use Rattle.std.specs.List.{insert, remove}
use Rattle.std.specs.List.Sorted.{IsNonDecreasingBy, IsPartitionPoint}
use Rattle.std.proofs.lemmas.Bool.{cases_lt, cases_order}
use Rattle.std.proofs.lemmas.List.{get_or_default}
use Rattle.std.proofs.lemmas.List.Elements.{All-cons, All-head, All-tail, Contains-append_right}
use Rattle.std.proofs.lemmas.List.Quantifiers.{all_pairs_remove}
use Rattle.std.proofs.lemmas.List.Sorted.{All-permutation, Contains-permutation, IsPermutation-insert, IsPermutation-remove, IsPermutation-sym}
use Rattle.std.proofs.lemmas.Option.{get_or_from_slice_get, slice_get_within}
use Rattle.mk_value.specs.declared.span.Span.{Span}
use Rattle.free_space.specs.Extents.{AreApart, IsBlock, Meets, extent_end}
use Rattle.free_space.specs.FreeSpace.{IsFree, IsLaidOut}
use Rattle.free_space.specs.Overlaps.{AreFirstToMeet, AreNeighborsApart, place_of}
use Rattle.free_space.proofs.ExtentLemmas.{apart_sym, end_before, place_below_end}
use Rattle.free_space.proofs.OrderLemmas.{all_pairs_insert, apart_from_order, apart_permutation, order_from_neighbors}

-- each extent ends at or before the place of the later one
Before : Span → Span → Type 0
Before one later = extent_end one ≤ later.place

-- blocks in order of place of which no two neighbors meet
pub laid_out_from_neighbors : (spans : List Span) → All IsBlock spans → IsNonDecreasingBy place_of spans → AreNeighborsApart spans (length spans) → IsLaidOut spans
laid_out_from_neighbors spans blocks rising apart = record {
  blocks = blocks;
  in_order = order_from_neighbors spans (λ k d within. end_before (get_or spans k d) (get_or spans (k + 1) d) (blocks (k + 1) d (omega arith)).not_empty (rising k (k + 1) d (omega arith) (omega arith)) (apart k d within));
}

-- spans that are the first to meet do meet
pub not_apart_from_meeting : (spans : List Span) (one other : Span) → AreFirstToMeet spans one other → ¬ AreApart spans
not_apart_from_meeting spans one other is apart =
    let ordered = is.ordered in
    let at = is.neighbors.at in
    let within : at + 1 < length ordered = slice_get_within ordered (at + 1) other is.neighbors.second in
    let gap : ¬ Meets (get_or ordered at one) (get_or ordered (at + 1) one) = apart_permutation spans ordered is.by_place.permutation apart at (at + 1) one (omega arith) within in
    let same : ¬ Meets one other = rw (get_or_from_slice_get ordered at one one is.neighbors.first, get_or_from_slice_get ordered (at + 1) other one is.neighbors.second) at gap in
    same is.neighbors.meet

-- a free block goes in at its place
pub laid_out_insert : (used : List Span) (at : ℕ) (span : Span) → IsLaidOut used → IsBlock span → IsFree used span → at ≤ length used → IsPartitionPoint (λ other. other.place < span.place) (λ other. span.place ≤ other.place) used at → IsLaidOut (insert used at span)
laid_out_insert used at span laid block free inside split = record {
  blocks = All-permutation IsBlock (span ∷ used) (insert used at span) (IsPermutation-insert used at span) (All-cons IsBlock span used block laid.blocks);
  in_order = all_pairs_insert (λ one later. extent_end one ≤ later.place) used at span inside laid.in_order
      (λ k d below. let lower : (get_or used k d).place < span.place = split.0 k d (omega arith) below in end_before (get_or used k d) span block.not_empty (omega arith) (free k d (omega arith)))
      (λ k d from within. end_before span (get_or used k d) (laid.blocks k d within).not_empty (split.1 k d from within) (apart_sym (get_or used k d) span (free k d within)));
}

pub laid_out_remove : (used : List Span) (at : ℕ) → IsLaidOut used → at < length used → IsLaidOut (remove used at)
laid_out_remove used at laid within = record {
  blocks = λ k d inside. All-tail IsBlock (get_or used at d) (remove used at) (All-permutation IsBlock used (get_or used at d ∷ remove used at) (IsPermutation-remove used at (get_or used at d) within (get_or_default used at d (get_or used at d) within)) laid.blocks) k d inside;
  in_order = all_pairs_remove (λ one later. extent_end one ≤ later.place) used at within laid.in_order;
}

-- a used span stands where those of lower places end
pub found_at_split : (used : List Span) (at : ℕ) (span : Span) → IsLaidOut used → Contains used span → IsPartitionPoint (λ other. other.place < span.place) (λ other. span.place ≤ other.place) used at → (at < length used) × (get_or used at span ≡ span)
found_at_split used at span laid (k, within, is) split = elim (cases_order k at) [
  | inl same ↦ rw (← same) (within, is)
  | inr (inl below) ↦ let lower : (get_or used k span).place < span.place = split.0 k span (omega arith) below in let none : span.place < span.place = rw is at lower in absurd (omega arith)
  | inr (inr above) ↦
      let here : at < length used = omega arith in
      let next : extent_end (get_or used at span) ≤ (get_or used k span).place = laid.in_order at k span above within in
      let ends : extent_end (get_or used at span) ≤ span.place = rw is at next in
      let from : span.place ≤ (get_or used at span).place = split.1 at span (omega arith) here in
      absurd (omega (arith, place_below_end (get_or used at span) (laid.blocks at span here).not_empty))
]

-- the places of laid out spans rise
pub rising_from_laid_out : (used : List Span) → IsLaidOut used → IsNonDecreasingBy place_of used
rising_from_laid_out used laid = λ i j d upto within. elim (cases_lt i j) [
  | inl before ↦ let next : extent_end (get_or used i d) ≤ (get_or used j d).place = laid.in_order i j d before within in omega arith
  | inr at ↦ let here : i ≡ j = omega arith in rw here (omega arith)
]

-- ---- what a span that was taken changes

pub taken_is_used : (used taken : List Span) (span : Span) → IsPermutation (span ∷ used) taken → Contains taken span
taken_is_used used taken span same = Contains-permutation (span ∷ used) taken span same (0, omega arith, refl)

pub still_used : (used taken : List Span) (span other : Span) → IsPermutation (span ∷ used) taken → Contains used other → Contains taken other
still_used used taken span other same there = Contains-permutation (span ∷ used) taken other same (Contains-append_right (span ∷ []) used other there)

-- an extent is free beside the taken one and the earlier ones exactly where it meets neither
pub free_beside_taken : (used taken : List Span) (span other : Span) → IsPermutation (span ∷ used) taken → IsFree taken other → (¬ Meets span other) × IsFree used other
free_beside_taken used taken span other same free =
    let Apart : Span → Type 0 = λ one. ¬ Meets one other in
    let both : All Apart (span ∷ used) = All-permutation Apart taken (span ∷ used) (IsPermutation-sym (span ∷ used) taken same) free in
    (All-head Apart span used both, All-tail Apart span used both)

pub free_of_taken : (used taken : List Span) (span other : Span) → IsPermutation (span ∷ used) taken → ¬ Meets span other → IsFree used other → IsFree taken other
free_of_taken used taken span other same apart free =
    let Apart : Span → Type 0 = λ one. ¬ Meets one other in
    All-permutation Apart (span ∷ used) taken same (All-cons Apart span used apart free)

-- the used spans of a map do not meet
pub apart_from_laid_out : (used : List Span) → IsLaidOut used → AreApart used
apart_from_laid_out used laid = apart_from_order used laid.in_order

-- ---- a list of used spans is determined by what it contains

AreAmong : List Span → List Span → Type 0
AreAmong ones others = (span : Span) → Contains ones span → Contains others span

laid_out_rest : (first : Span) (rest : List Span) → IsLaidOut (first ∷ rest) → IsLaidOut rest
laid_out_rest first rest laid = record {
  blocks = All-tail IsBlock first rest laid.blocks;
  in_order = λ i j d lower within. laid.in_order (suc i) (suc j) d (omega arith) (omega arith);
}

-- a later span begins at or past the end of the first
past_first : (first : Span) (rest : List Span) (span : Span) → IsLaidOut (first ∷ rest) → Contains rest span → extent_end first ≤ span.place
past_first first rest span laid (k, within, is) =
    let next : extent_end first ≤ (get_or rest k span).place = laid.in_order 0 (suc k) span (omega arith) (omega arith) in
    rw is at next

first_or_rest : (first : Span) (rest : List Span) (span : Span) → Contains (first ∷ rest) span → (first ≡ span) ⊎ Contains rest span
first_or_rest first rest span (zero, within, is) = inl is
first_or_rest first rest span (suc k, within, is) = inr (k, omega arith, is)

same_first : (one other : Span) (ones others : List Span) → IsLaidOut (one ∷ ones) → IsLaidOut (other ∷ others) → Contains (other ∷ others) one → Contains (one ∷ ones) other → one ≡ other
same_first one other ones others laid laid' there here = elim (first_or_rest other others one there) [
  | inl same ↦ sym same
  | inr later ↦ elim (first_or_rest one ones other here) [
    | inl same ↦ same
    | inr also ↦
        let below : extent_end other ≤ one.place = past_first other others one laid' later in
        let above : extent_end one ≤ other.place = past_first one ones other laid also in
        absurd (omega (arith, place_below_end one (All-head IsBlock one ones laid.blocks).not_empty, place_below_end other (All-head IsBlock other others laid'.blocks).not_empty))
  ]
]

among_rest : (first : Span) (ones others : List Span) → IsLaidOut (first ∷ ones) → AreAmong (first ∷ ones) (first ∷ others) → AreAmong ones others
unfolding AreAmong
among_rest first ones others laid among = λ span there. elim (first_or_rest first others span (among span (Contains-append_right (first ∷ []) ones span there))) [
  | inl same ↦
      let past : extent_end first ≤ span.place = past_first first ones span laid there in
      let level : first.place ≡ span.place = ap place_of same in
      absurd (omega (arith, place_below_end first (All-head IsBlock first ones laid.blocks).not_empty))
  | inr later ↦ later
]

same_members : (ones others : List Span) → IsLaidOut ones → IsLaidOut others → AreAmong ones others → AreAmong others ones → ones ≡ others
unfolding AreAmong
same_members [] [] laid laid' there here = refl
same_members [] (other ∷ others) laid laid' there here = let (k, within, is) = here other (0, omega arith, refl) in absurd (omega arith)
same_members (one ∷ ones) [] laid laid' there here = let (k, within, is) = there one (0, omega arith, refl) in absurd (omega arith)
same_members (one ∷ ones) (other ∷ others) laid laid' there here =
    let first : one ≡ other = same_first one other ones others laid laid' (there one (0, omega arith, refl)) (here other (0, omega arith, refl)) in
    let laid_other : IsLaidOut (one ∷ others) = rw (← first) at laid' in
    let there_one : AreAmong (one ∷ ones) (one ∷ others) = rw (← first) at there in
    let here_one : AreAmong (one ∷ others) (one ∷ ones) = rw (← first) at here in
    let rest : ones ≡ others = same_members ones others (laid_out_rest one ones laid) (laid_out_rest one others laid_other) (among_rest one ones others laid there_one) (among_rest one others ones laid_other here_one) in
    cc

-- two maps that use the same spans list them in the same order
pub laid_out_unique : (ones others : List Span) → IsLaidOut ones → IsLaidOut others → IsPermutation ones others → ones ≡ others
unfolding AreAmong
laid_out_unique ones others laid laid' same = same_members ones others laid laid' (λ span there. Contains-permutation ones others span same there) (λ span here. Contains-permutation others ones span (IsPermutation-sym ones others same) here)
