use Rattle.std.proofs.Common.{sym, subst, arith}
use Rattle.std.proofs.lemmas.Bool.{false≢true}
use Rattle.recovery.specs.Contents.{FitsContent}
use Rattle.recovery.proofs.PlainTexts.{each_long, long_at, long_row}
use Rattle.recovery.proofs.contents.long_values_fit.Goals as goal

pub value-requires : goal.value-requires
value-requires c = long_row c.args.column.now.values c.args.rows.now c.loop-row.row-index c.requires c.loop-row-test.true

pub returns-then-not-fits-clause-unfit : goal.returns-then-not-fits-clause-unfit
returns-then-not-fits-clause-unfit c = λ fit.
    let here = long_at (FitsContent c.args.content) c.args.column.now.values c.args.rows.now c.loop-row.row-index c.requires c.loop-row-test.true fit in
    false≢true (c.if-not-fits.ensures.1 (subst (FitsContent c.args.content) (sym c.value.ensures) here))

pub returns-clause-fit : goal.returns-clause-fit
returns-clause-fit c = each_long (FitsContent c.args.content) c.args.column.now.values c.args.rows.now c.requires
    (λ k within. c.loop-row.invariant k (let e = c.loop-row-test.false in omega (arith, within, e)))
