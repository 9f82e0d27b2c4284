use Rattle.std.proofs.Common.{◌≡◌, ◌∷◌, [], ◌++◌, ap, sym, ◌∙◌, subst, refl}
use Rattle.mk_value.proofs.Appending.{appends_marked, fell_short, short_front, short_mark, short_marked, short_next, writes_along, writes_then, writes_third}
use Rattle.mk_value.specs.Literals.{spelled}
use Rattle.mk_value.specs.Tokens.{word}
use Rattle.tokens.specs.Paths.{step_tokens}
use Rattle.expr_text.proofs.tails.append_steps.Goals as goal

pub returns-in_err-append_step : goal.returns-in_err-append_step
returns-in_err-append_step c =
    fell_short _ _ _ _ c.from_residual.ensures.0 (short_next (λ s. spelled (step_tokens s)) c.args.steps.now _ c.step-item.result _ _ _ c.loop-step-test.true c.step-item.is c.loop-step.invariant c.in_err-append_step.ensures)
