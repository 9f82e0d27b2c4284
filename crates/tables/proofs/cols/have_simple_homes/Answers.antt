use Rattle.std.proofs.Common.{sym, subst, arith}
use Rattle.std.proofs.lemmas.Bool.{OnTrue_at}
use Rattle.std.proofs.lemmas.List.{take_all}
use Rattle.std.proofs.lemmas.List.Elements.{All-more, All-same}
use Rattle.tables.specs.Columns.{home_of}
use Rattle.tables.specs.Pools.{IsSimpleHome}
use Rattle.tables.specs.Stored.{stored_of}
use Rattle.tables.specs.declared.cols.Col.{Col}
use Rattle.tables.proofs.cols.have_simple_homes.Goals as goal

pub loop-col-preserved : goal.loop-col-preserved
loop-col-preserved c =
    let P = λ (x : Col). IsSimpleHome (home_of (stored_of x)) in
    All-more P c.args.cols.now c.loop-col.col-index c.col-item.result c.loop-col-test.true c.loop-col.invariant
    (subst P c.col-item.is (OnTrue_at c.if-not-has_simple_home.false c.has_simple_home.ensures))

pub returns : goal.returns
returns c =
    let P = λ (x : Col). IsSimpleHome (home_of (stored_of x)) in
    All-same P c.args.cols.now _ (sym (take_all c.loop-col.col-index c.args.cols.now (omega arith))) c.loop-col.invariant
