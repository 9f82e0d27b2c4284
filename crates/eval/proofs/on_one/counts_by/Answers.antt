use Rattle.derived.specs.Grouping.{counts}
use Rattle.derived.specs.Layers.{table_of}
use Rattle.derived.specs.Refusals.{counts_due}
use Rattle.eval.proofs.Answered.{answered_due, told_size}
use Rattle.eval.proofs.on_one.counts_by.Goals as goal

pub returns : goal.returns
returns g c =
    let t = table_of c.args.base in
    let keys = c.args.keys.now in
    let count = c.args.count.now in
    answered_due table_of t (counts keys count t) (counts_due keys count t) c.counts.result c.at_size.result c.counts.ensures.due c.counts.ensures.ok
    (told_size t c.size-size.result c.counts.result c.at_size.result c.size-size.ensures.value c.at_size.ensures)
