use Rattle.std.proofs.Common.{◌≡◌, ◌∷◌, [], ◌++◌, ap, sym, ◌∙◌, subst, refl}
use Rattle.mk_value.proofs.Appending.{appends_marked, fell_short, short_front, short_mark, short_marked, short_next, short_second, writes_along, writes_then, writes_third}
use Rattle.mk_value.specs.Literals.{spelled}
use Rattle.mk_value.specs.Tokens.{word}
use Rattle.expr_text.specs.Meanings.{query_of}
use Rattle.expr_text.specs.Spelling.{tokens_of}
use Rattle.expr_text.specs.Texts.{end_tokens}
use Rattle.expr_text.proofs.Printed.{query_pieces}
use Rattle.expr_text.proofs.printing.+append_expr.Goals as goal

pub append_expr-returns : goal.append_expr-returns
append_expr-returns t c =
    writes_third _ _ _ _ _ _ _ _ _ (query_pieces (query_of c.args.expr.now)) c.in_ok-append_head.ensures c.in_ok-append_second.ensures c.append_end.ensures

pub append_one-returns : goal.append_one-returns
append_one-returns t c =
    writes_third _ _ _ _ _ _ _ _ _ (ap (λ n. n ++ (40 ∷ spelled (tokens_of (query_of c.args.base.now)))) c.word.ensures) c.in_ok-append_str.ensures c.in_ok-append_str-2.ensures c.append_expr.ensures

pub append_expr-returns-in_err-append_second : goal.append_expr-returns-in_err-append_second
append_expr-returns-in_err-append_second t c =
    fell_short _ _ _ _ c.from_residual-in_err-append_second.ensures.0
    (short_second _ _ _ _ _ (spelled (end_tokens (query_of c.args.expr.now))) _ (query_pieces (query_of c.args.expr.now)) c.in_ok-append_head.ensures c.in_err-append_second.ensures)
