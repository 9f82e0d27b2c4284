use Rattle.std.proofs.Common.{length, All, rules}
use Rattle.std.specs.List.Sorted.{IsNonDecreasingBy}
use Rattle.std.proofs.lemmas.List.Sorted.{All-permutation, IsNonDecreasingBy-from_sort, IsPermutation-sym, answers_always}
use Rattle.free_space.specs.Extents.{IsBlock}
use Rattle.free_space.specs.FreeSpace.{IsLaidOut}
use Rattle.free_space.specs.Overlaps.{AreFirstToMeet, AreNeighborsApart, IsByPlace, place_of}
use Rattle.free_space.proofs.CursorLemmas.{cursors_at_floor}
use Rattle.free_space.proofs.OrderLemmas.{apart_from_order, apart_permutation}
use Rattle.free_space.proofs.UsedLemmas.{laid_out_from_neighbors, not_apart_from_meeting}
use Rattle.free_space.proofs.free_map.FreeMap.from_used.Goals as goal
use Rattle.free_space.proofs.free_map.FreeMap.from_used.Goals.{After-deref, After-drop-used-in-Some, In_default}

by_place : (c : After-deref) → IsByPlace c.args.spans.now c.sort_by_key.new.self.items
by_place c = record {
  permutation = rw (← c.in_ok-used.ensures.items) c.in_ok-sort_by_key.ensures.permutation;
  sorted = c.in_ok-sort_by_key.ensures.sorted place_of (answers_always _ _ _ (λ f a r g h. search rules));
  stable = rw (← c.in_ok-used.ensures.items) (c.in_ok-sort_by_key.ensures.stable place_of (answers_always _ _ _ (λ f a r g h. search rules)));
}

all_blocks : (c : After-deref) → All IsBlock c.sort_by_key.new.self.items
all_blocks c = All-permutation IsBlock c.args.spans.now c.sort_by_key.new.self.items (by_place c).permutation c.requires.are_blocks

rising : (c : After-deref) → IsNonDecreasingBy place_of c.sort_by_key.new.self.items
rising c = IsNonDecreasingBy-from_sort place_of c.sort_by_key.new.self.items (by_place c).sorted

pub first_to_meet-requires-clause-blocks : goal.first_to_meet-requires-clause-blocks
first_to_meet-requires-clause-blocks c = rw c.deref.ensures.value (all_blocks c)

pub first_to_meet-requires-clause-by_place : goal.first_to_meet-requires-clause-by_place
first_to_meet-requires-clause-by_place c = rw c.deref.ensures.value (rising c)

meeting : (c : After-drop-used-in-Some) → AreFirstToMeet c.args.spans.now c.in-Some.one c.in-Some.other
meeting c = record { ordered = c.sort_by_key.new.self.items; by_place = by_place (goal.at.returns-in-Some-clause-overlap c).After-deref; neighbors = rw c.deref.ensures.value at c.in-Some.ensures.found }

pub returns-in-Some-clause-meeting : goal.returns-in-Some-clause-meeting
returns-in-Some-clause-meeting c = not_apart_from_meeting c.args.spans.now c.in-Some.one c.in-Some.other (meeting c)

pub returns-in-Some-clause-overlap : goal.returns-in-Some-clause-overlap
returns-in-Some-clause-overlap c = meeting c

laid_out : (c : In_default) → IsLaidOut c.sort_by_key.new.self.items
laid_out c =
    let spans = c.sort_by_key.new.self.items in
    let apart : AreNeighborsApart spans (length spans) = rw c.deref.ensures.value at c.in_default.ensures.none in
    laid_out_from_neighbors spans (all_blocks (goal.at.returns-clause-laid_out c).After-deref) (rising (goal.at.returns-clause-laid_out c).After-deref) apart

pub invariant_of-result : goal.invariant_of-result
invariant_of-result c = (c.requires.floor_aligned, laid_out c, cursors_at_floor _ _ _ c.requires.floor_aligned c.in_ok-cursors.ensures)

pub returns-clause-used : goal.returns-clause-used
returns-clause-used c = by_place (goal.at.returns-clause-used c).After-deref

pub returns-clause-laid_out : goal.returns-clause-laid_out
returns-clause-laid_out c = laid_out c

pub returns-clause-apart : goal.returns-clause-apart
returns-clause-apart c = apart_permutation c.sort_by_key.new.self.items c.args.spans.now (IsPermutation-sym c.args.spans.now c.sort_by_key.new.self.items (by_place (goal.at.returns-clause-apart c).After-deref).permutation) (apart_from_order c.sort_by_key.new.self.items (laid_out c).in_order)
