use Rattle.std.proofs.Common.{refl, ap, ◌∙◌, inr, true≢false, sym}
use Rattle.tokens.specs.Meanings.{byte_of}
use Rattle.expr_text.specs.Walk.{a_sign, is_held, moved}
use Rattle.expr_text.proofs.Held.{held_sign}
use Rattle.expr_text.proofs.Running.{a_sign_met, end_fails, first_becomes, first_fails, no_sign, none_first, some_first}
use Rattle.expr_text.proofs.reader.Reader.sign.Goals as goal

pub returns-in_default-clause-fails : goal.returns-in_default-clause-fails
returns-in_default-clause-fails c = end_fails _ _ (a_sign (byte_of c.args.sign)) (none_first _ c.in_default.ensures.value) (λ others. refl)

pub returns-then-not-is_sign-clause-fails : goal.returns-then-not-is_sign-clause-fails
returns-then-not-is_sign-clause-fails c =
    first_fails _ _ _ (a_sign (byte_of c.args.sign)) (some_first _ _ c.in-Some.ensures.value) (inr (no_sign _ _ (λ is. true≢false (sym (c.is_sign.ensures.1 is) ∙ c.if-not-is_sign.true))))

pub returns-clause-meets : goal.returns-clause-meets
returns-clause-meets c =
    let is = c.is_sign.ensures.0 c.if-not-is_sign.false in
    first_becomes _ _ _ (a_sign (byte_of c.args.sign)) _ (some_first _ _ c.in-Some.ensures.value) (ap is_held is ∙ held_sign _) (a_sign_met _ _ is)
