use Rattle.derived.proofs.Wholes.{beside_whole}
use Rattle.derived.proofs.derived.beside.Goals as goal

pub invariant_of-result : goal.invariant_of-result
invariant_of-result g c =
    let both = beside_whole c.args.first c.in_ok-first.first.value c.args.second c.in_ok-second.second.value c.args.columns c.args.schema _ c.in_ok-first.ensures.ok c.in_ok-second.ensures.ok c.len-width.ensures.whole
    c.size.ensures.whole c.size-2.ensures.whole (record { as_many = c.requires.as_many; in_range = c.requires.in_range; schemas = c.requires.schemas }) in
    record { whole = both.0; inside = both.1 }
