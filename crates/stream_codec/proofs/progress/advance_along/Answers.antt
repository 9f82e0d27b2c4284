use Rattle.std.proofs.Common.{◌≡◌, ℕ, ◌+◌, ◌-◌, take, drop, ap, arith}
use Rattle.std.proofs.lemmas.Result.{err_from_is_err_and}
use Rattle.stream_codec.proofs.Along.{reaches_more, reaches_none, refused_along}
use Rattle.stream_codec.proofs.progress.advance_along.Goals as goal

pub loop-len-init : goal.loop-len-init
loop-len-init c = record { within = omega arith; reached = reaches_none c.args.progress.now c.requires.whole }

pub returns-in_err-advance-clause-refused : goal.returns-in_err-advance-clause-refused
returns-in_err-advance-clause-refused c =
    let p = err_from_is_err_and c.from_residual.result c.from_residual.ensures.1 in
    let at = c.loop-len.at in
    rw (p.1, p.2) (refused_along c.args.progress.now c.loop-len.progress c.args.piece.now _ at c.in-Some.len _ (let within = c.loop-len.invariant.within in let long = c.if-piece-at.false in omega (arith, within, long)) (ap (λ (k : ℕ). take k (drop c.loop-len.at c.args.piece.now)) (let e : c.loop-len.at + c.in-Some.len - c.loop-len.at ≡ c.in-Some.len = omega arith in e)) c.loop-len.invariant.reached c.in_err-advance.ensures.refused)

pub loop-len-preserved : goal.loop-len-preserved
loop-len-preserved c = record {
  within = let within = c.loop-len.invariant.within in let long = c.if-piece-at.false in omega (arith, within, long);
  reached = reaches_more c.args.progress.now c.loop-len.progress c.advance.new.progress c.args.piece.now _ c.loop-len.at c.in-Some.len (ap (λ (k : ℕ). take k (drop c.loop-len.at c.args.piece.now)) (let e : c.loop-len.at + c.in-Some.len - c.loop-len.at ≡ c.in-Some.len = omega arith in e)) c.loop-len.invariant.reached c.in_ok-advance.ensures.taken;
}
