use Rattle.std.proofs.Common.{◌≡◌, ◌∷◌, [], ◌++◌, ap, sym, ◌∙◌, subst, refl}
use Rattle.mk_value.proofs.Appending.{appends_marked, fell_short, short_front, short_mark, short_marked, short_next, writes_along, writes_then, writes_third}
use Rattle.mk_value.specs.Literals.{spelled}
use Rattle.mk_value.specs.Tokens.{word}
use Rattle.mk_value.specs.Appending.{FellShort}
use Rattle.expr_text.specs.Spelling.{closing, criterion_tokens}
use Rattle.expr_text.proofs.Printed.{list_end}
use Rattle.expr_text.proofs.tails.end_criteria.Goals as goal

pub returns-in_err-append_criteria : goal.returns-in_err-append_criteria
returns-in_err-append_criteria c =
    fell_short _ _ _ _ c.from_residual.ensures.0
    (subst (λ t. FellShort c.args.out.now t c.append_criteria.new.out) (list_end criterion_tokens _ c.args.list.now (closing ∷ []) c.as_slice.ensures) (short_front _ _ _ (spelled (closing ∷ [])) c.in_err-append_criteria.ensures))

pub returns : goal.returns
returns c = writes_along _ _ _ _ _ (list_end criterion_tokens _ c.args.list.now (closing ∷ []) c.as_slice.ensures) (writes_then _ _ _ _ _ _ c.in_ok-append_criteria.ensures c.append_str.ensures)
