use Rattle.std.proofs.Common.{◌+◌, ◌++◌, take, drop, ap, ◌∙◌, arith}
use Rattle.segments.specs.Joined.{joined}
use Rattle.tables.proofs.Chunks.{taken_more}
use Rattle.tables.proofs.spine.Spine.push_part.Goals as goal

pub loop-done-preserved : goal.loop-done-preserved
loop-done-preserved c =
    let n = c.in_ok-added.added in
    record {
      in_range = omega (arith, c.in_ok-added.ensures.in_range);
      tables =
          c.in_ok-added.ensures.tables
          ∙ ap (λ ts. ts ++ take n (drop (c.args.from + c.loop-done.done) (joined c.args.self.now))) c.loop-done.invariant.tables
          ∙ taken_more c.args.list.now (joined c.args.self.now) c.args.from c.loop-done.done n;
    }
