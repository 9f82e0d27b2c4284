use Rattle.std.proofs.Common.{◌-◌, refl, arith}
use Rattle.segments.specs.declared.splice.Replaced.{Replaced}
use Rattle.segments.proofs.Counts.{sum-take-mono}
use Rattle.segments.proofs.Splices.{size_few, covers_before, none_before, stays_before, takes_before}
use Rattle.segments.proofs.segments.Segments.with_before.Goals as goal

pub returns-then-replaced-eq0-clause-before : goal.returns-then-replaced-eq0-clause-before
returns-then-replaced-eq0-clause-before g c = none_before g.row.MOST c.args.self.now c.args.splice.now c.args.replaced c.if-replaced-eq0.true

pub overflow_sub-replaced : goal.overflow_sub-replaced
overflow_sub-replaced g c =
    omega (arith, c.start-start.ensures.start, c.requires.covers.start, sum-take-mono c.args.self.now (c.args.replaced.first - 1) c.args.replaced.first (omega arith))

pub size_after-requires-clause-fits : goal.size_after-requires-clause-fits
size_after-requires-clause-fits g c =
    omega (arith, size_few c.args.self.now c.args.splice.now c.args.replaced c.requires.applies c.requires.covers)

pub overflow_add-replaced : goal.overflow_add-replaced
overflow_add-replaced g c =
    omega (arith, c.size_after.ensures, size_few c.args.self.now c.args.splice.now c.args.replaced c.requires.applies c.requires.covers, c.requires.applies.few, c.requires.applies.order, c.requires.covers.before)

pub returns-then-replaced-start-clause-before : goal.returns-then-replaced-start-clause-before
returns-then-replaced-start-clause-before g c =
    stays_before g.row.MOST c.start-start.result c.args.self.now c.args.splice.now c.args.replaced c.requires.covers (omega arith) c.start-start.ensures.start
    (omega (arith, c.size_after.ensures, c.if-replaced-start.true))

pub returns-clause-covers : goal.returns-clause-covers
returns-clause-covers g c =
    let wider : Replaced = record { first = c.args.replaced.first - 1; after = c.args.replaced.after; start = c.start-start.result; stop = c.args.replaced.stop } in
    covers_before c.args.self.now c.args.splice.now c.args.replaced wider c.requires.covers (omega arith) refl c.start-start.ensures.start refl refl

pub returns-clause-before : goal.returns-clause-before
returns-clause-before g c =
    let wider : Replaced = record { first = c.args.replaced.first - 1; after = c.args.replaced.after; start = c.start-start.result; stop = c.args.replaced.stop } in
    takes_before g.row.MOST c.args.self.now c.args.splice.now c.args.replaced wider c.requires.covers (omega arith) refl
    (omega (arith, c.start-start.ensures.start, c.requires.covers.start, sum-take-mono c.args.self.now (c.args.replaced.first - 1) c.args.replaced.first (omega arith)))
    refl refl (omega (arith, c.size_after.ensures, c.if-replaced-start.false))
