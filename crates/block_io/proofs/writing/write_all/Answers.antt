use Rattle.std.proofs.Common.{Ok, refl, arith}
use Rattle.std.proofs.lemmas.Result.{err_from_is_err_and}
use Rattle.host_io.specs.declared.traits.Failed.{Failed}
use Rattle.host_io.proofs.Faults.{CountsDisk-begins, CountsDisk-joins}
use Rattle.block_io.proofs.Pieces.{has_put_all, has_put_failed, has_put_more, has_put_none, not_err}
use Rattle.block_io.proofs.Rounding.{length-rounded}
use Rattle.block_io.proofs.writing.write_all.Goals as goal

pub pieces-init : goal.pieces-init
pieces-init g c = record {
  place = refl;
  counts = CountsDisk-begins (g.D.Disk.outside c.args.disk.now) (Ok tt) (not_err (Unit {0}) Failed tt);
  puts = λ tells. has_put_none c.args.at (g.S.Source.rest c.args.source) (g.D.Disk.outside c.args.disk.now);
}

pub write_next-requires-clause-ends : goal.write_next-requires-clause-ends
write_next-requires-clause-ends g c =
    let place = c.pieces.invariant.place in
    let ends = c.requires.ends in
    omega (arith, length-rounded (g.S.Source.rest c.args.source), place, ends)

pub returns-in_err-place-clause-writes : goal.returns-in_err-place-clause-writes
returns-in_err-place-clause-writes g c = λ tells.
    let p = err_from_is_err_and c.from_residual.result c.from_residual.ensures.1 in
    rw p.1 (has_put_failed (c.requires.within tells) (c.pieces.invariant.puts tells) (c.in_err-place.ensures.writes tells))

pub overflow_add-place : goal.overflow_add-place
overflow_add-place g c =
    let place = c.pieces.invariant.place in
    let ends = c.requires.ends in
    let cut = c.in_ok-place.ensures.shorter.cut in
    omega (arith, length-rounded (g.S.Source.rest c.args.source), place, ends, cut)

pub pieces-preserved : goal.pieces-preserved
pieces-preserved g c = record {
  place = let place = c.pieces.invariant.place in let cut = c.in_ok-place.ensures.shorter.cut in omega (arith, place, cut);
  counts = CountsDisk-joins (Ok tt) c.pieces.invariant.counts c.in_ok-place.ensures.counts (λ err. absurd (not_err (Unit {0}) Failed tt err));
  puts = λ tells. has_put_more (c.requires.within tells) c.in_ok-place.ensures.shorter.cut (c.pieces.invariant.puts tells) (c.in_ok-place.ensures.writes tells);
}

pub returns-clause-writes : goal.returns-clause-writes
returns-clause-writes g c = λ tells. has_put_all (let left = c.left.ensures in let none = c.pieces-test.false in omega (arith, left, none)) (c.pieces.invariant.puts tells)
