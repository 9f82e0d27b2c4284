-- The run behind the `-` makes the one spelling of a number with it, or of none.
use Rattle.std.proofs.Common.{◌+◌, ◌≤◌, ap, sym, subst, arith, ◌∙◌, length}
use Rattle.std.specs.Fmt.{signed_decimal}
use Rattle.std.specs.List.{prefix_len}
use Rattle.std.specs.Str.{IsUtf8}
use Rattle.std.proofs.lemmas.Fmt.{IsAscii-signed}
use Rattle.std.proofs.lemmas.List.{take_rest}
use Rattle.std.proofs.lemmas.Str.{IsUtf8-from_ascii}
use Rattle.mk_value.specs.Names.{is_name_byte}
use Rattle.tokens.proofs.Findings.{negative_number, negative_nothing, negative_opens}
use Rattle.tokens.proofs.run.negative_token.Goals as goal
use mir.Facts.{to_z-of_z}

pub returns-in_default : goal.returns-in_default
returns-in_default c =
    let run = c.run_len-len.ensures.run ∙ ap (prefix_len is_name_byte) (take_rest c.args.bytes.now 1) in
    negative_nothing c.args.bytes.now c.run_len-len.result run c.requires
    (λ z fits e. c.in_default.ensures.cases.0 (subst IsUtf8 (sym e) (IsUtf8-from_ascii (signed_decimal z) (IsAscii-signed z fits.sfits))))

pub returns-in_err-number : goal.returns-in_err-number
returns-in_err-number c =
    let run = c.run_len-len.ensures.run ∙ ap (prefix_len is_name_byte) (take_rest c.args.bytes.now 1) in
    rw c.from_residual.ensures (negative_nothing c.args.bytes.now c.run_len-len.result run c.requires
    (λ z fits e. c.in_err-number.ensures.none z fits (c.in-Ok.ensures.cases.0 ∙ e)))

pub returns : goal.returns
returns c =
    let run = c.run_len-len.ensures.run ∙ ap (prefix_len is_name_byte) (take_rest c.args.bytes.now 1) in
    let some = c.in_ok-number.ensures.some in
    let opens = ap length (negative_opens c.args.bytes.now c.requires) in
    let within : 1 + c.run_len-len.result ≤ length c.args.bytes.now = omega (arith, opens, c.run_len-len.ensures.within, ap length (take_rest c.args.bytes.now 1)) in
    rw (to_z-of_z some.0) (within, negative_number c.args.bytes.now c.run_len-len.result run c.requires c.in_ok-number.number some.0 (sym c.in-Ok.ensures.cases.0 ∙ some.1))
