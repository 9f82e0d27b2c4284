use Rattle.std.proofs.Common.{refl, ap, ◌∙◌, true≢false, sym}
use Rattle.expr_text.specs.Walk.{a_key, is_held}
use Rattle.expr_text.proofs.Held.{held_sign}
use Rattle.expr_text.proofs.Running.{first_becomes, minus_key, no_key, none_first, plain_key, some_first}
use Rattle.expr_text.proofs.reader.Reader.minus.Goals as goal

pub returns-in_default-clause-key : goal.returns-in_default-clause-key
returns-in_default-clause-key c = no_key _ _ (none_first _ c.in_default.ensures.value)

pub returns-then-not-is_sign-clause-key : goal.returns-then-not-is_sign-clause-key
returns-then-not-is_sign-clause-key c = plain_key _ _ _ (some_first _ _ c.in-Some.ensures.value) (λ is. true≢false (sym (c.is_sign.ensures.1 is) ∙ c.if-not-is_sign.true))

pub returns-clause-key : goal.returns-clause-key
returns-clause-key c =
    let is = c.is_sign.ensures.0 c.if-not-is_sign.false in
    first_becomes _ _ _ a_key _ (some_first _ _ c.in-Some.ensures.value) (ap is_held is ∙ held_sign _) (minus_key _ is)
