use Rattle.std.proofs.Common.{◌∷◌, [], pos, ap, sym, refl}
use Rattle.mk_value.proofs.Appending.{fell_short, short_second, writes_along, writes_third}
use Rattle.mk_value.specs.Literals.{spelled}
use Rattle.expr_text.specs.Meanings.{query_of}
use Rattle.expr_text.specs.Texts.{end_tokens}
use Rattle.expr_text.proofs.printing.append_end.Goals as goal

pub returns-in-Calc : goal.returns-in-Calc
returns-in-Calc c = writes_along _ _ _ _ _ (sym (ap (λ x. spelled (end_tokens (query_of x))) c.in-Calc.is)) c.end_viewed_as.ensures
