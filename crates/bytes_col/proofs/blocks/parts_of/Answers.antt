use Rattle.std.proofs.Common.{length, ap, arith}
use Rattle.std.proofs.lemmas.List.{length-drop}
use Rattle.bytes_col.specs.Parts.{added}
use Rattle.bytes_col.proofs.BlockLaws.{blocks_more, no_values, none_left, refusal_of, one_size}
use Rattle.bytes_col.proofs.blocks.parts_of.Goals as goal
use Rattle.bytes_col.proofs.blocks.parts_of.Goals.{then-next-short-via-then-next-short, then-next-short-via-else-next-short+then-next-memos}

pub returns-in_default-clause-err : goal.returns-in_default-clause-err
returns-in_default-clause-err c =
    no_values (added c.loop-at.parts) c.args.sizes.now.values c.args.short.now c.args.memos.now c.loop-at.at c.loop-at.next.byte c.loop-at.next.memo c.loop-at.invariant.so_far
    (omega (arith, c.loop-at-test.true, c.len-at-end.ensures.len)) (λ n got. absurd (c.in_default.ensures.none n got))

pub returns-in-Err-clause-err : goal.returns-in-Err-clause-err
returns-in-Err-clause-err c =
    refusal_of c.in-Err.error c.args.sizes.now.values c.args.short.now c.args.memos.now (λ mismatch.
    no_values (added c.loop-at.parts) c.args.sizes.now.values c.args.short.now c.args.memos.now c.loop-at.at c.loop-at.next.byte c.loop-at.next.memo c.loop-at.invariant.so_far
    (omega (arith, c.loop-at-test.true, c.len-at-end.ensures.len))
    (λ n got. one_size c.args.sizes.now.values c.args.short.now c.args.memos.now c.loop-at.at c.in-Some.size n c.loop-at.next.byte c.loop-at.next.memo c.in-Some.ensures.some got (c.in-Err.ensures.err mismatch)))

pub loop-at-preserved : goal.loop-at-preserved
loop-at-preserved c = record {
  so_far = blocks_more (added c.loop-at.parts) (added c.add_next.new.parts) c.args.sizes.now.values c.args.short.now c.args.memos.now c.loop-at.at c.in-Some.size c.loop-at.next c.in-Ok.more
      c.loop-at.invariant.so_far c.in-Some.ensures.some c.in-Ok.ensures.ok;
  byte = c.in-Ok.ensures.ok.byte;
  memo = c.in-Ok.ensures.ok.memo;
}

pub returns-then-next-short-clause-err : goal.returns-then-next-short-clause-err
returns-then-next-short-clause-err c = λ us k.
    let left = none_left (added c.loop-at.parts) c.args.sizes.now.values c.args.short.now c.args.memos.now c.loop-at.at c.loop-at.next.byte c.loop-at.next.memo c.loop-at.invariant.so_far
    (omega (arith, c.loop-at-test.false, c.len-at-end.ensures.len)) us k in
    elim c.then-next-short.branch [
      | then-next-short-via-then-next-short w ↦ omega (arith, w.if-next-short.true, ap length left.0, length-drop c.loop-at.next.byte c.args.short.now)
      | then-next-short-via-else-next-short+then-next-memos w ↦ omega (arith, w.if-next-memos.true, ap length left.1, length-drop c.loop-at.next.memo c.args.memos.now)
    ]
