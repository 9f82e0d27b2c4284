use Rattle.std.proofs.Common.{subst, sym, true≢false, ◌∙◌}
use Rattle.command_line.proofs.Spelled.{HasSignOrZero, decimal_is_plain, read_where_spelled, spelled_by_plain}
use Rattle.command_line.proofs.number.number_of.Goals as goal

pub returns-then-has_sign_or_zero-clause-none : goal.returns-then-has_sign_or_zero-clause-none
returns-then-has_sign_or_zero-clause-none c = λ n small spelled.
    decimal_is_plain n small (subst HasSignOrZero spelled (c.has_sign_or_zero.ensures.0 c.if-has_sign_or_zero.true))

pub returns-clause-some : goal.returns-clause-some
returns-clause-some c = rw c.ok.ensures.value (spelled_by_plain c.args.text.now c.parse.result c.parse.ensures.value.0
    (λ has. true≢false (sym (c.has_sign_or_zero.ensures.1 has) ∙ c.if-has_sign_or_zero.false)))

pub returns-clause-none : goal.returns-clause-none
returns-clause-none c = rw c.ok.ensures.value (read_where_spelled c.args.text.now c.parse.result c.parse.ensures.value.0)
