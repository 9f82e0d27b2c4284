use Rattle.std.proofs.Common.{◌≡◌, [], rules, arith}
use Rattle.tables.proofs.Chunks.{few_front}
use Rattle.tables.proofs.spine.Spine.without_last.Goals as goal

pub put-requires-clause-few : goal.put-requires-clause-few
put-requires-clause-few c =
    let none : c.new.result.items ≡ [] = search rules in
    few_front c.args.self c.new.result.items c.chunks-count.result none c.chunks-count.ensures (omega (arith, c.len-few.ensures.few, c.len-few.ensures.len))
