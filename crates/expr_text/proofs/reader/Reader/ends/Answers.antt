use Rattle.std.proofs.Common.{refl, ap, ◌∙◌, inr, true≢false, sym}
use Rattle.mk_value.specs.Tokens.{sign}
use Rattle.expr_text.specs.Walk.{is_held, more}
use Rattle.expr_text.proofs.Held.{held_sign}
use Rattle.expr_text.proofs.Running.{end_fails, first_becomes, first_fails, item_unmet, list_ends, list_goes_on, no_list, none_first, some_first}
use Rattle.expr_text.proofs.reader.Reader.ends.Goals as goal

pub returns-in_default-clause-fails : goal.returns-in_default-clause-fails
returns-in_default-clause-fails c = end_fails _ _ (more c.args.item) (none_first _ c.in_default.ensures.value) (item_unmet c.args.item)

pub returns-clause-fails : goal.returns-clause-fails
returns-clause-fails c =
    first_fails _ _ _ (more c.args.item) (some_first _ _ c.in-Some.ensures.value) (inr (no_list c.args.item _
    (λ is. true≢false (sym (c.is_sign.ensures.1 (is ∙ ap sign (sym c.end.ensures))) ∙ c.if-is_sign.false))
    (λ is. true≢false (sym (c.is_sign-2.ensures.1 is) ∙ c.if-is_sign-2.false))))

pub returns-then-is_sign-clause-met : goal.returns-then-is_sign-clause-met
returns-then-is_sign-clause-met c =
    let is = c.is_sign.ensures.0 c.if-is_sign.true ∙ ap sign c.end.ensures in
    λ _. first_becomes _ _ _ (more c.args.item) _ (some_first _ _ c.in-Some.ensures.value) (ap is_held is ∙ held_sign _) (list_ends c.args.item _ is)

pub returns-then-is_sign-2-clause-further : goal.returns-then-is_sign-2-clause-further
returns-then-is_sign-2-clause-further c =
    let is = c.is_sign-2.ensures.0 c.if-is_sign-2.true in
    λ _. first_becomes _ _ _ (more c.args.item) _ (some_first _ _ c.in-Some.ensures.value) (ap is_held is ∙ held_sign _) (list_goes_on c.args.item _ is)
