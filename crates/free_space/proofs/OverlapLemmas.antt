-- The order by place, and so the first two neighbors that meet, are determined by the list of spans.
use Rattle.std.proofs.Common.{suc, ◌≡◌, ◌+◌, ◌<◌, ◌≤◌, Bool, true, false, cond, List, [], ◌∷◌, get_or, refl, sym, subst, ◌∙◌, inl, inr, arith, All, Some, slice_get, filter}
use Rattle.std.specs.List.Sorted.{IsNonDecreasingBy, ties}
use Rattle.std.specs.Ordering.{is_lt, nat_cmp}
use Rattle.std.proofs.lemmas.Bool.{cases_order, eq-eqb, le-ltb}
use Rattle.std.proofs.lemmas.List.Elements.{All-filter, All-head}
use Rattle.std.proofs.lemmas.List.Sorted.{IsNonDecreasingBy-from_sort}
use Rattle.std.proofs.lemmas.Option.{get_or_from_slice_get}
use Rattle.mk_value.specs.declared.span.Span.{Span}
use Rattle.free_space.specs.Extents.{Meets}
use Rattle.free_space.specs.Overlaps.{AreFirstNeighborsToMeet, AreFirstToMeet, IsByPlace, place_of}

-- whether two spans have one place, as a stable sort by place asks
abbrev have_one_place : Span → Span → Bool
have_one_place = ties (λ one other. is_lt (nat_cmp (place_of one) (place_of other)))

one_place_true : (one other : Span) → one.place ≡ other.place → have_one_place one other ≡ true
one_place_true one other same = rw (le-ltb one.place other.place (omega arith), le-ltb other.place one.place (omega arith), eq-eqb one.place other.place same, eq-eqb other.place one.place (sym same)) refl

above_first : (first : Span) (rest : List Span) → IsNonDecreasingBy place_of (first ∷ rest) → All (λ span. first.place ≤ span.place) (first ∷ rest)
above_first first rest rising = λ k d within. rising 0 k d (omega arith) within

rising_rest : (first : Span) (rest : List Span) → IsNonDecreasingBy place_of (first ∷ rest) → IsNonDecreasingBy place_of rest
rising_rest first rest rising = λ i j d upto within. rising (suc i) (suc j) d (omega arith) (omega arith)

-- of two lists that keep the spans of each place in one order, the first begins no lower
begins_no_higher : (one other : Span) (ones others : List Span) → IsNonDecreasingBy place_of (other ∷ others) → filter (have_one_place one) (one ∷ ones) ≡ filter (have_one_place one) (other ∷ others) → other.place ≤ one.place
begins_no_higher one other ones others rising same =
    let Above : Span → Type 0 = λ span. other.place ≤ span.place in
    let kept : All Above (filter (have_one_place one) (other ∷ others)) = All-filter (have_one_place one) Above (other ∷ others) (above_first other others rising) in
    let whole : All Above (filter (have_one_place one) (one ∷ ones)) = rw (same) kept in
    let found : All Above (one ∷ filter (have_one_place one) ones) = rw (one_place_true one one refl) at whole in
    All-head Above one (filter (have_one_place one) ones) found

-- the spans of each place stand in one order in both lists
abbrev SameTies : List Span → List Span → Type 0
SameTies ones others = (span : Span) → filter (have_one_place span) ones ≡ filter (have_one_place span) others

rest_of : (span : Span) (first : Span) (ones others : List Span) (test : Bool) → cond test (first ∷ ones) ones ≡ cond test (first ∷ others) others → ones ≡ others
rest_of span first ones others true same = cc
rest_of span first ones others false same = same

same_ties_rest : (first : Span) (ones others : List Span) → SameTies (first ∷ ones) (first ∷ others) → SameTies ones others
same_ties_rest first ones others same = λ span. rest_of span first (filter (have_one_place span) ones) (filter (have_one_place span) others) (have_one_place span first) (same span)

none_left : (first : Span) (rest : List Span) → filter (have_one_place first) (first ∷ rest) ≡ [] → ⊥
none_left first rest none = let found : first ∷ filter (have_one_place first) rest ≡ [] = rw (one_place_true first first refl) at none in cc

same_order : (ones others : List Span) → IsNonDecreasingBy place_of ones → IsNonDecreasingBy place_of others → SameTies ones others → ones ≡ others
same_order [] [] rising above same = refl
same_order [] (other ∷ others) rising above same = absurd (none_left other others (sym (same other)))
same_order (one ∷ ones) [] rising above same = absurd (none_left one ones (same one))
same_order (one ∷ ones) (other ∷ others) rising above same =
    let no_higher : other.place ≤ one.place = begins_no_higher one other ones others above (same one) in
    let no_lower : one.place ≤ other.place = begins_no_higher other one others ones rising (sym (same other)) in
    let level : one.place ≡ other.place = omega arith in
    let heads : one ∷ filter (have_one_place one) ones ≡ other ∷ filter (have_one_place one) others = rw (one_place_true one one refl, one_place_true one other level) at (same one) in
    let first : one ≡ other = cc in
    let tied : SameTies (one ∷ ones) (one ∷ others) = rw (← first) at same in
    let rest : ones ≡ others = same_order ones others (rising_rest one ones rising) (rising_rest other others above) (same_ties_rest one ones others tied) in
    cc

-- a list of spans has one order by place
pub by_place_unique : (spans one other : List Span) → IsByPlace spans one → IsByPlace spans other → one ≡ other
by_place_unique spans one other first second = same_order one other (IsNonDecreasingBy-from_sort place_of one first.sorted) (IsNonDecreasingBy-from_sort place_of other second.sorted) (λ span. first.stable span ∙ sym (second.stable span))

not_before : (ordered : List Span) (one other one' other' : Span) (first : AreFirstNeighborsToMeet ordered one other) (second : AreFirstNeighborsToMeet ordered one' other') → first.at < second.at → ⊥
not_before ordered one other one' other' first second lower =
    let apart : ¬ Meets (get_or ordered first.at one) (get_or ordered (first.at + 1) one) = second.none_before first.at one (omega arith) in
    let same : ¬ Meets one other = rw (get_or_from_slice_get ordered first.at one one first.first, get_or_from_slice_get ordered (first.at + 1) other one first.second) at apart in
    same first.meet

neighbors_unique : (ordered : List Span) (one other one' other' : Span) → AreFirstNeighborsToMeet ordered one other → AreFirstNeighborsToMeet ordered one' other' → (one ≡ one') × (other ≡ other')
neighbors_unique ordered one other one' other' first second = elim (cases_order first.at second.at) [
  | inl same ↦
      let here : slice_get ordered first.at ≡ Some one' = rw same second.first in
      let next : slice_get ordered (first.at + 1) ≡ Some other' = rw same second.second in
      let ones : one ≡ one' = cc (here, first.first) in
      let others : other ≡ other' = cc (next, first.second) in
      (ones, others)
  | inr (inl lower) ↦ absurd (not_before ordered one other one' other' first second lower)
  | inr (inr higher) ↦ absurd (not_before ordered one' other' one other second first higher)
]

-- a list of spans has one pair at most that is the first to meet
pub first_to_meet_unique : (spans : List Span) (one other one' other' : Span) → AreFirstToMeet spans one other → AreFirstToMeet spans one' other' → (one ≡ one') × (other ≡ other')
first_to_meet_unique spans one other one' other' first second =
    let same : second.ordered ≡ first.ordered = by_place_unique spans second.ordered first.ordered second.by_place first.by_place in
    neighbors_unique first.ordered one other one' other' first.neighbors (subst (λ (ordered : List Span). AreFirstNeighborsToMeet ordered one' other') same second.neighbors)
