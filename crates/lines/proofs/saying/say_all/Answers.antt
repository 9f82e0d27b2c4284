use Rattle.std.proofs.Common.{arith}
use Rattle.std.proofs.lemmas.Result.{err_from_is_err_and}
use Rattle.lines.proofs.Uttering.{SaidFront-none, CountsNone-none, SaidFront-more, CountsNone-more, SaysAll-whole, SaysAll-cut, CountsSay-whole, CountsSay-cut}
use Rattle.lines.proofs.saying.say_all.Goals as goal

pub saying-init : goal.saying-init
saying-init g c = record { front = λ tells. SaidFront-none _ _; none = CountsNone-none _ }

pub saying-preserved : goal.saying-preserved
saying-preserved g c = record {
  front = λ tells. SaidFront-more c.args.bytes.now c.saying.said c.in_ok-said.field-0 _ _ _ (c.saying.invariant.front tells) c.in_ok-said.ensures.within (c.in_ok-said.ensures.says tells);
  none = CountsNone-more _ _ _ _ c.saying.invariant.none c.in_ok-said.ensures.counts;
}

pub returns-in_err-said-clause-counts : goal.returns-in_err-said-clause-counts
returns-in_err-said-clause-counts g c =
    let p = err_from_is_err_and c.from_residual.result c.from_residual.ensures.1 in
    rw p.1 (CountsSay-cut _ _ _ _ c.saying.invariant.none c.in_err-said.ensures.counts)

pub returns-in_err-said-clause-says : goal.returns-in_err-said-clause-says
returns-in_err-said-clause-says g c =
    let p = err_from_is_err_and c.from_residual.result c.from_residual.ensures.1 in
    rw p.1 (λ tells. SaysAll-cut c.args.bytes.now c.saying.said _ _ _ _ (c.saying.invariant.front tells) (omega arith) (c.in_err-said.ensures.says tells))

pub returns-clause-counts : goal.returns-clause-counts
returns-clause-counts g c = CountsSay-whole _ _ _ c.saying.invariant.none

pub returns-clause-says : goal.returns-clause-says
returns-clause-says g c = λ tells. SaysAll-whole c.args.bytes.now c.saying.said _ _ _ (c.saying.invariant.front tells) (omega arith)
