use Rattle.derived.proofs.Wholes.{gathered_whole}
use Rattle.derived.proofs.derived.over_rows.Goals as goal

pub invariant_of-result : goal.invariant_of-result
invariant_of-result g c =
    let both = gathered_whole c.args.base c.in_ok-base.base.value c.args.positions _ c.in_ok-base.ensures.ok c.schema.ensures.whole c.size-size.ensures.whole c.requires.few c.requires.in_range in
    record { whole = both.0; inside = both.1 }
