use Rattle.std.proofs.Common.{◌≡◌, ◌∷◌, [], ◌++◌, ap, sym, ◌∙◌, subst, refl}
use Rattle.mk_value.proofs.Appending.{appends_marked, fell_short, short_front, short_mark, short_marked, short_next, writes_along, writes_then, writes_third}
use Rattle.mk_value.specs.Literals.{spelled}
use Rattle.mk_value.specs.Tokens.{word}
use Rattle.expr_text.proofs.tails.append_names.Goals as goal

pub returns-in_err-append_str : goal.returns-in_err-append_str
returns-in_err-append_str c =
    fell_short _ _ _ _ c.from_residual.ensures.0
    (short_mark (44 ∷ []) (λ x. spelled (word x ∷ [])) c.args.list.now _ c.member-item.result _ _ _ c.loop-member-test.true c.member-item.is c.loop-member.invariant c.in_err-append_str.ensures)

pub returns-in_err-append_name : goal.returns-in_err-append_name
returns-in_err-append_name c =
    fell_short _ _ _ _ c.from_residual-in_err-append_name.ensures.0
    (short_marked (44 ∷ []) (λ x. spelled (word x ∷ [])) c.args.list.now _ c.member-item.result _ _ _ _ c.loop-member-test.true c.member-item.is c.loop-member.invariant c.in_ok-append_str.ensures c.in_err-append_name.ensures)
