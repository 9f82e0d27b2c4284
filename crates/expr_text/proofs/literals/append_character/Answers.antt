use Rattle.std.proofs.Common.{arith, sym}
use Rattle.mk_value.proofs.Appending.{writes_along, writes_pushed}
use Rattle.mk_value.proofs.Escapes.{escaped_character}
use Rattle.expr_text.proofs.literals.append_character.Goals as goal

pub returns-in_default : goal.returns-in_default
returns-in_default c =
    let e = c.in_default in
    writes_along _ _ _ _ _ (sym (escaped_character c.args.character (omega arith) (omega arith) (omega arith)))
    (writes_pushed _ _ _ _ c.push.ensures.ok c.push.ensures.err c.push.ensures.roomy c.push.ensures.spare)
