use Rattle.std.proofs.Common.{take}
use Rattle.mk_value.specs.Appending.{Appends}
use Rattle.expr_text.specs.Texts.{steps_text}
use Rattle.expr_text.proofs.tails.append_steps.Given as goal

abbrev pub invariant-loop-step : goal.invariant-loop-step
invariant-loop-step l = Appends l.fn.out (steps_text (take l.step-index l.steps)) l.out
