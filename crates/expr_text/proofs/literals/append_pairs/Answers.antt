use Rattle.std.proofs.Common.{get_or}
use Rattle.mk_value.specs.Tokens.{hex_pair}
use Rattle.mk_value.proofs.Appending.{short_next, fell_short}
use Rattle.mk_value.proofs.Walks.{same_default}
use Rattle.expr_text.proofs.literals.append_pairs.Goals as goal

pub returns-in_err-append_pair : goal.returns-in_err-append_pair
returns-in_err-append_pair c =
    let byte = get_or c.args.bytes.now c.loop-byte.byte-index 0 in
    fell_short _ _ _ _ c.from_residual.ensures.0
    (short_next hex_pair _ _ byte _ _ _ c.loop-byte-test.true (same_default c.args.bytes.now c.loop-byte.byte-index 0 byte c.loop-byte-test.true)
    c.loop-byte.invariant c.in_err-append_pair.ensures)
