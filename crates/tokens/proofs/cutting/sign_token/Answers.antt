-- The first byte is a sign, or none begins there.
use Rattle.tokens.proofs.Findings.{no_first, single_nothing_empty, sign_found_first, sign_nothing_first}
use Rattle.tokens.proofs.cutting.sign_token.Goals as goal

pub returns-in_err-first : goal.returns-in_err-first
returns-in_err-first c =
    rw c.from_residual.ensures (single_nothing_empty c.args.bytes.now c.requires (no_first c.args.bytes.now c.in_err-first.ensures.value))

pub returns-in_err-sign : goal.returns-in_err-sign
returns-in_err-sign c =
    rw c.from_residual-in_err-sign.ensures (sign_nothing_first c.args.bytes.now c.in_ok-first.field-0.now c.requires c.in_ok-first.ensures.value c.in_err-sign.ensures.none)

pub returns : goal.returns
returns c = sign_found_first c.args.bytes.now c.in_ok-first.field-0.now c.in_ok-sign.sign c.requires c.in_ok-first.ensures.value c.in_ok-sign.ensures.some
