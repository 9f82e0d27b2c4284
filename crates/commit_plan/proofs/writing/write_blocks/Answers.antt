use Rattle.std.proofs.Common.{◌+◌, ◌<◌, ◌^◌, get_or, map, subst, Ok}
use Rattle.std.specs.Prelude.{IsErr}
use Rattle.std.specs.List.{filter}
use Rattle.std.proofs.lemmas.Result.{err_from_is_err_and}
use Rattle.mk_value.specs.declared.span.Span.{Span}
use Rattle.free_space.specs.Extents.{extent_len}
use Rattle.host_io.specs.declared.traits.Failed.{Failed}
use Rattle.host_io.proofs.Faults.{CountsDisk-joins}
use Rattle.commit_writes.specs.Writing.{PutsBlocks}
use Rattle.recovery.specs.Commits.{blocks_at}
use Rattle.commit_plan.specs.Following.{is_some}
use Rattle.commit_plan.specs.Payloads.{payload_bytes}
use Rattle.commit_plan.proofs.WrittenBlocks.{all_written, next_begins, next_writable, one, payload_here, puts_some_failed, puts_some_more}
use Rattle.commit_plan.proofs.writing.write_blocks.Goals as goal

done : IsErr {T = Unit {0}} {E = Failed} (Ok tt) → ⊥
done err = cc

nowhere : Span
nowhere = record { place = 0; len = 0 }

pub write_some-requires-clause-ends : goal.write_some-requires-clause-ends
unfolding nowhere
write_some-requires-clause-ends g c = λ some.
    let span = get_or c.args.spans.now c.payloads.at nowhere in
    let bytes = payload_bytes c.index-payloads-at.result in
    let at = payload_here c.args.spans.now c.args.payloads.now c.payloads.at c.min-at-end.result c.index-payloads-at.result nowhere c.payloads-test.true c.min-at-end.ensures c.index-payloads-at.is in
    let can = next_writable (blocks_at c.args.spans.now (map payload_bytes c.args.payloads.now)) c.payloads.at (one span bytes) at.within at.here c.requires.writable some in
    subst (λ n. span.place + extent_len n < 2 ^ 64) can.0.len can.0.end_fits

pub write_some-requires-clause-within : goal.write_some-requires-clause-within
unfolding nowhere
write_some-requires-clause-within g c = λ tells some.
    let span = get_or c.args.spans.now c.payloads.at nowhere in
    let bytes = payload_bytes c.index-payloads-at.result in
    let at = payload_here c.args.spans.now c.args.payloads.now c.payloads.at c.min-at-end.result c.index-payloads-at.result nowhere c.payloads-test.true c.min-at-end.ensures c.index-payloads-at.is in
    next_begins {E = Failed} (blocks_at c.args.spans.now (map payload_bytes c.args.payloads.now)) c.payloads.at (one span bytes) at.within at.here (c.requires.begins tells) (c.payloads.invariant.puts tells) some

pub returns-in_err-write_some-clause-writes : goal.returns-in_err-write_some-clause-writes
unfolding nowhere
returns-in_err-write_some-clause-writes g c = λ tells.
    let p = err_from_is_err_and c.from_residual.result c.from_residual.ensures.1 in
    let span = get_or c.args.spans.now c.payloads.at nowhere in
    let bytes = payload_bytes c.index-payloads-at.result in
    let at = payload_here c.args.spans.now c.args.payloads.now c.payloads.at c.min-at-end.result c.index-payloads-at.result nowhere c.payloads-test.true c.min-at-end.ensures c.index-payloads-at.is in
    rw p.1 (puts_some_failed (blocks_at c.args.spans.now (map payload_bytes c.args.payloads.now)) c.payloads.at span bytes at.within at.here c.requires.writable (c.requires.begins tells) (c.payloads.invariant.puts tells) (c.in_err-write_some.ensures.writes tells))

pub payloads-preserved : goal.payloads-preserved
unfolding nowhere
payloads-preserved g c = record {
  counts = CountsDisk-joins (Ok tt) c.payloads.invariant.counts c.in_ok-write_some.ensures.counts (λ err. absurd (done err));
  puts = λ tells.
      let span = get_or c.args.spans.now c.payloads.at nowhere in
      let bytes = payload_bytes c.index-payloads-at.result in
      let at = payload_here c.args.spans.now c.args.payloads.now c.payloads.at c.min-at-end.result c.index-payloads-at.result nowhere c.payloads-test.true c.min-at-end.ensures c.index-payloads-at.is in
      puts_some_more (blocks_at c.args.spans.now (map payload_bytes c.args.payloads.now)) c.payloads.at span bytes at.within at.here c.requires.writable (c.requires.begins tells) (c.payloads.invariant.puts tells) (c.in_ok-write_some.ensures.writes tells);
}

pub returns-clause-writes : goal.returns-clause-writes
returns-clause-writes g c = λ tells.
    subst (λ bs. PutsBlocks {T = Unit {0}} {E = Failed} (filter is_some bs) (g.D.Disk.outside c.args.disk.now) (g.D.Disk.outside c.payloads.disk) (Ok tt))
    (all_written c.args.spans.now c.args.payloads.now c.payloads.at c.min-at-end.result c.payloads-test.false c.min-at-end.ensures) (c.payloads.invariant.puts tells)
