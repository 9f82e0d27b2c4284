use Rattle.std.proofs.Common.{◌≡◌, Some, ap, sym, ◌∙◌, arith}
use Rattle.mk_value.specs.Heading.{find}
use Rattle.mk_value.specs.Values.{datum_of}
use Rattle.keyed_views.proofs.Comings.{take_with}
use Rattle.keyed_views.proofs.kept.key_with.Goals as goal

pub loop-col-preserved : goal.loop-col-preserved
loop-col-preserved g c =
    let schema = g.T.TableRead.schema c.args.table.now in
    let rows = g.T.TableRead.rows c.args.table.now in
    let prop = c.args.prop.now in
    let named : find schema prop ≡ Some c.unwrap-changed.result =
    ap (λ s. find s prop) (sym c.schema.ensures.value) ∙ ap (find c.schema.result.now) (sym c.as_str.ensures.value) ∙ sym c.find.ensures ∙ c.unwrap-changed.ensures in
    let few = c.requires.few in
    let t = c.loop-col-test.true in
    c.in_ok-push.ensures.ok
    ∙ take_with schema rows c.args.place prop (datum_of c.args.value.now) c.unwrap-changed.result c.loop-col.col named c.size-size.ensures.whole c.requires.there (omega arith)
    c.loop-col.key (datum_of c.in_ok-value_with.field-0) c.in_ok-value_with.ensures c.loop-col.invariant
