use Rattle.std.proofs.Common.{◌+◌, ◌<◌, ◌≤◌, length, refl, arith}
use Rattle.segments.specs.declared.splice.Replaced.{Replaced}
use Rattle.segments.proofs.Counts.{sum-take-mono, length-counts_from}
use Rattle.segments.proofs.Places.{start_within}
use Rattle.segments.proofs.Splices.{size_few, covers_behind, none_behind, stays_behind, takes_behind}
use Rattle.segments.proofs.segments.Segments.with_behind.Goals as goal

pub returns-then-replaced-len-clause-behind : goal.returns-then-replaced-len-clause-behind
returns-then-replaced-len-clause-behind g c =
    let none : length c.args.self.now ≤ c.args.replaced.after = rw (← c.self.view_is) (omega (arith, length-counts_from 0 c.self.inside.ends.items)) in
    none_behind g.row.MOST c.args.self.now c.args.splice.now c.args.replaced none

pub overflow_add-after : goal.overflow_add-after
overflow_add-after g c =
    let within = rw (← c.self.view_is) at c.requires.covers.in_range in
    omega (arith, length-counts_from 0 c.self.inside.ends.items)

pub start-stop-requires : goal.start-stop-requires
start-stop-requires g c =
    let within = rw (← c.self.view_is) at c.requires.covers.in_range in
    rw (← c.self.view_is) (omega (arith, length-counts_from 0 c.self.inside.ends.items))

pub overflow_sub-stop : goal.overflow_sub-stop
overflow_sub-stop g c =
    omega (arith, c.start-stop.ensures.start, c.requires.covers.stop, sum-take-mono c.args.self.now c.args.replaced.after (c.args.replaced.after + 1) (omega arith))

pub size_after-requires-clause-fits : goal.size_after-requires-clause-fits
size_after-requires-clause-fits g c =
    omega (arith, size_few c.args.self.now c.args.splice.now c.args.replaced c.requires.applies c.requires.covers)

pub fits_behind-requires-clause-some : goal.fits_behind-requires-clause-some
fits_behind-requires-clause-some g c = c.self.invariant.some

pub fits_behind-requires-clause-size_few : goal.fits_behind-requires-clause-size_few
fits_behind-requires-clause-size_few g c =
    omega (arith, c.size_after.ensures, size_few c.args.self.now c.args.splice.now c.args.replaced c.requires.applies c.requires.covers)

pub fits_behind-requires-clause-more_few : goal.fits_behind-requires-clause-more_few
fits_behind-requires-clause-more_few g c =
    let within = rw (← c.self.view_is) at c.requires.covers.in_range in
    let l : c.args.replaced.after + 1 ≤ length c.args.self.now = rw (← c.self.view_is) (omega (arith, length-counts_from 0 c.self.inside.ends.items)) in
    omega (arith, c.start-stop.ensures.start, c.start-stop.ensures.few, start_within c.args.self.now (c.args.replaced.after + 1) l)

pub returns-then-not-fits_behind-clause-behind : goal.returns-then-not-fits_behind-clause-behind
returns-then-not-fits_behind-clause-behind g c =
    let within = rw (← c.self.view_is) at c.requires.covers.in_range in
    let l : c.args.replaced.after < length c.args.self.now = rw (← c.self.view_is) (omega (arith, length-counts_from 0 c.self.inside.ends.items)) in
    stays_behind g.row.MOST c.start-stop.result c.args.self.now c.args.splice.now c.args.replaced c.requires.covers l c.start-stop.ensures.start
    (rw (c.if-not-fits_behind.true, c.size_after.ensures) at c.fits_behind.ensures.no)

pub returns-clause-covers : goal.returns-clause-covers
returns-clause-covers g c =
    let within = rw (← c.self.view_is) at c.requires.covers.in_range in
    let l : c.args.replaced.after < length c.args.self.now = rw (← c.self.view_is) (omega (arith, length-counts_from 0 c.self.inside.ends.items)) in
    let wider : Replaced = record { first = c.args.replaced.first; after = c.args.replaced.after + 1; start = c.args.replaced.start; stop = c.start-stop.result } in
    covers_behind c.args.self.now c.args.splice.now c.args.replaced wider c.requires.covers l refl refl refl c.start-stop.ensures.start

pub returns-clause-behind : goal.returns-clause-behind
returns-clause-behind g c =
    let within = rw (← c.self.view_is) at c.requires.covers.in_range in
    let l : c.args.replaced.after < length c.args.self.now = rw (← c.self.view_is) (omega (arith, length-counts_from 0 c.self.inside.ends.items)) in
    let wider : Replaced = record { first = c.args.replaced.first; after = c.args.replaced.after + 1; start = c.args.replaced.start; stop = c.start-stop.result } in
    takes_behind g.row.MOST c.args.self.now c.args.splice.now c.args.replaced wider c.requires.covers l refl refl c.start-stop.ensures.start
    (rw (c.if-not-fits_behind.false, c.size_after.ensures) at c.fits_behind.ensures.yes)
