use Rattle.std.proofs.Common.{◌≡◌, ◌∷◌, [], ◌++◌, ap, sym, ◌∙◌, subst, refl}
use Rattle.mk_value.proofs.Appending.{appends_marked, fell_short, short_front, short_mark, short_marked, short_next, writes_along, writes_then, writes_third}
use Rattle.mk_value.specs.Literals.{spelled}
use Rattle.mk_value.specs.Tokens.{word}
use Rattle.mk_value.specs.Appending.{FellShort}
use Rattle.expr_text.specs.Spelling.{closing, colon}
use Rattle.expr_text.proofs.Printed.{named_end}
use Rattle.expr_text.proofs.tails.end_named.Goals as goal

pub returns-in_err-append_names : goal.returns-in_err-append_names
returns-in_err-append_names c =
    fell_short _ _ _ _ c.from_residual.ensures.0
    (subst (λ t. FellShort c.args.out.now t c.append_names.new.out) (named_end _ c.args.list.now c.args.name.now c.as_slice.ensures) (short_front _ _ _ (spelled (colon ∷ word c.args.name.now ∷ closing ∷ [])) c.in_err-append_names.ensures))

pub returns : goal.returns
returns c = writes_along _ _ _ _ _ (named_end _ c.args.list.now c.args.name.now c.as_slice.ensures) (writes_then _ _ _ _ _ _ c.in_ok-append_names.ensures c.end_new.ensures)
