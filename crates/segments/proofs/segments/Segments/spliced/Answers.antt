use Rattle.std.proofs.Common.{ℕ, ◌+◌, ◌-◌, ◌^◌, ◌<◌, ◌≤◌, arith}
use Rattle.segments.specs.Segments.{start_of, counts_from}
use Rattle.segments.proofs.Counts.{length-counts_from}
use Rattle.segments.proofs.Places.{moved_ends}
use Rattle.segments.proofs.Splices.{spliced_made, fresh_few}
use Rattle.segments.proofs.segments.Segments.spliced.Goals as goal

pub first_ends-requires : goal.first_ends-requires
first_ends-requires g c =
    let within = rw (← c.self.view_is) at c.requires.in_range in
    omega (arith, c.deref.ensures.len, length-counts_from 0 c.self.inside.ends.items, c.requires.order)

pub push_ends-requires : goal.push_ends-requires
push_ends-requires g c =
    omega (arith, c.start.ensures.start, c.requires.few, fresh_few c.args.self.now c.args.fresh.now c.args.first c.args.after)

pub push_moved-requires-clause-in_range : goal.push_moved-requires-clause-in_range
push_moved-requires-clause-in_range g c =
    let within = rw (← c.self.view_is) at c.requires.in_range in
    omega (arith, c.deref-2.ensures.len, length-counts_from 0 c.self.inside.ends.items)

pub push_moved-requires-clause-above : goal.push_moved-requires-clause-above
push_moved-requires-clause-above g c =
    let P : ℕ → Type 0 = λ e. start_of (counts_from 0 c.self.inside.ends.items) c.args.after ≤ e in
    rw (c.deref-2.ensures.value, c.start-2.ensures.start, ← c.self.view_is)
    (moved_ends P g.row.MOST c.self.inside.ends.items c.args.after c.self.invariant (λ e low high. low))

pub push_moved-requires-clause-fits : goal.push_moved-requires-clause-fits
push_moved-requires-clause-fits g c =
    let few = rw (← c.self.view_is) at c.requires.few in
    let start = rw (← c.self.view_is) at c.start.ensures.start in
    let P : ℕ → Type 0 = λ e. e - c.start-2.result + c.in_ok-stop.stop < 2 ^ 64 in
    rw c.deref-2.ensures.value
    (moved_ends P g.row.MOST c.self.inside.ends.items c.args.after c.self.invariant
    (λ e low high. omega (arith, c.self.invariant.few, c.in_ok-stop.ensures.last, fresh_few (counts_from 0 c.self.inside.ends.items) c.args.fresh.now c.args.first c.args.after)))

pub invariant_of-result : goal.invariant_of-result
invariant_of-result g c =
    (spliced_made g.row.MOST c.self.inside.ends.items c.args.fresh.now c.push_moved.new.out.items c.args.first c.args.after c.start.result c.start-2.result c.in_ok-stop.stop
    c.self.invariant c.requires.each (rw (← c.self.view_is) at c.requires.few) (rw (← c.self.view_is) at c.start.ensures.start) (rw (← c.self.view_is) at c.start-2.ensures.start) c.in_ok-stop.ensures.last
    (rw (c.in_ok-stop.ensures.items, c.in_ok-ends.ensures, c.deref.ensures.value, c.deref-2.ensures.value) at c.in_ok-push_moved.ensures)).0

pub returns : goal.returns
returns g c =
    rw (← c.self.view_is)
    (spliced_made g.row.MOST c.self.inside.ends.items c.args.fresh.now c.push_moved.new.out.items c.args.first c.args.after c.start.result c.start-2.result c.in_ok-stop.stop
    c.self.invariant c.requires.each (rw (← c.self.view_is) at c.requires.few) (rw (← c.self.view_is) at c.start.ensures.start) (rw (← c.self.view_is) at c.start-2.ensures.start) c.in_ok-stop.ensures.last
    (rw (c.in_ok-stop.ensures.items, c.in_ok-ends.ensures, c.deref.ensures.value, c.deref-2.ensures.value) at c.in_ok-push_moved.ensures)).1
