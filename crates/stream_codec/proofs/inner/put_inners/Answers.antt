use Rattle.std.proofs.Common.{sym, subst}
use Rattle.stream_codec.specs.Inners.{IsInner}
use Rattle.stream_codec.specs.declared.inner.Inner.{Inner}
use Rattle.stream_codec.proofs.PutRows.{table_more}
use Rattle.stream_codec.proofs.inner.put_inners.Goals as goal

pub loop-inner-preserved : goal.loop-inner-preserved
loop-inner-preserved c =
    let at = c.loop-inner.inner-index in
    let fits = subst (λ (i : Inner). IsInner c.args.table.now.schema i) (sym c.inner-item.is) (c.requires.inners at c.inner-item.result c.loop-inner-test.true) in
    table_more c.args.table.now c.loop-inner.table _ c.args.at at c.args.inners.now c.inner-item.result c.in_ok-clone.field-0 c.requires.within c.requires.wide c.loop-inner-test.true c.inner-item.is fits
    c.in_ok-clone.ensures.cases c.loop-inner.invariant c.in_ok-set_inner.ensures.ok
