use Rattle.derived.proofs.Wholes.{columns_whole}
use Rattle.derived.proofs.derived.over_columns.Goals as goal

pub invariant_of-result : goal.invariant_of-result
invariant_of-result g c =
    let both = columns_whole c.args.base c.in_ok-base.base.value c.args.columns c.args.schema _ c.in_ok-base.ensures.ok c.len-width.ensures.whole c.size-size.ensures.whole c.requires in
    record { whole = both.0; inside = both.1 }
