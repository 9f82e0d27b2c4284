use Rattle.std.proofs.Common.{ℕ, ◌∙◌, ap, List, ◌++◌, ◌+◌, ◌-◌, take, drop, arith}
use Rattle.host_io.specs.Outside.{Moment}
use Rattle.host_io.proofs.Faults.{CountsFaults-joins}
use Rattle.block_io.proofs.Looking.{looks_joins, read_more}
use Rattle.block_io.proofs.reading.read_block.Goals as goal

pub loop-left-preserved : goal.loop-left-preserved
loop-left-preserved g c =
    let within = c.loop-left.invariant.within in
    let least = c.min-count.ensures in
    let done = c.args.span.len - c.loop-left.left in
    record {
      within = omega (arith, within);
      len = let before = c.loop-left.invariant.len in let more = c.in_ok-read_piece.ensures.len in omega (arith, within, least, before, more);
      counts = CountsFaults-joins ⊥ _ ⊥ c.loop-left.invariant.counts c.in_ok-read_piece.ensures.counts (λ failed. absurd failed);
      same = λ tells. looks_joins (c.loop-left.invariant.same tells) (c.in_ok-read_piece.ensures.same tells);
      bytes = λ tells.
          let file = (g.D.Disk.outside c.args.disk.now).now.disk.seen in
          let same = ap (λ (m : Moment). m.disk.seen) (c.loop-left.invariant.same tells).still.now in
          c.in_ok-read_piece.ensures.bytes tells
          ∙ ap (λ (l : List ℕ). l ++ take c.min-count.result (drop (c.args.span.place + done) (g.D.Disk.outside c.loop-left.disk).now.disk.seen)) (c.loop-left.invariant.bytes tells)
          ∙ ap (λ (l : List ℕ). take done (drop c.args.span.place file) ++ take c.min-count.result (drop (c.args.span.place + done) l)) same
          ∙ read_more file c.args.span.place done c.min-count.result
          ∙ ap (λ (n : ℕ). take n (drop c.args.span.place file)) (omega (arith, within, least));
    }
