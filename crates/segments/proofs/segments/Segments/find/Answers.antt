use Rattle.std.proofs.Common.{arith, refl}
use Rattle.segments.proofs.Counts.{length-counts_from}
use Rattle.segments.proofs.Places.{search_from, search_below, search_reached, search_ascending, start_found, place_found}
use Rattle.segments.proofs.segments.Segments.find.Goals as goal

pub first_end_above-segment-requires-clause-from_in : goal.first_end_above-segment-requires-clause-from_in
first_end_above-segment-requires-clause-from_in g c =
    rw c.deref.ensures.value (search_from _ _ c.args.at c.self.invariant (rw (← c.self.view_is) at c.requires))

pub first_end_above-segment-requires-clause-below : goal.first_end_above-segment-requires-clause-below
first_end_above-segment-requires-clause-below g c =
    rw c.deref.ensures.value (search_below g.row.MOST _ c.args.at c.self.invariant (rw (← c.self.view_is) at c.requires))

pub first_end_above-segment-requires-clause-reached : goal.first_end_above-segment-requires-clause-reached
first_end_above-segment-requires-clause-reached g c =
    rw c.deref.ensures.value (search_reached g.row.MOST _ c.args.at c.self.invariant (rw (← c.self.view_is) at c.requires))

pub first_end_above-segment-requires-clause-ascending : goal.first_end_above-segment-requires-clause-ascending
first_end_above-segment-requires-clause-ascending g c = rw c.deref.ensures.value (search_ascending g.row.MOST _ c.self.invariant)

pub start-requires : goal.start-requires
start-requires g c =
    let found = rw c.deref.ensures.value at c.first_end_above-segment.ensures.in_range in
    rw (← c.self.view_is) (omega (arith, length-counts_from 0 c.self.inside.ends.items))

pub overflow_sub-result : goal.overflow_sub-result
overflow_sub-result g c =
    rw (c.start.ensures.start, ← c.self.view_is)
    (start_found g.row.MOST c.self.inside.ends.items c.args.at _ c.self.invariant (rw c.deref.ensures.value at c.first_end_above-segment.ensures.in_range) (rw c.deref.ensures.value at c.first_end_above-segment.ensures.first))

pub returns : goal.returns
returns g c =
    rw (c.start.ensures.start, ← c.self.view_is)
    (place_found g.row.MOST c.self.inside.ends.items c.args.at _ c.self.invariant (rw c.deref.ensures.value at c.first_end_above-segment.ensures.in_range) (rw c.deref.ensures.value at c.first_end_above-segment.ensures.above) (rw c.deref.ensures.value at c.first_end_above-segment.ensures.first) refl)
