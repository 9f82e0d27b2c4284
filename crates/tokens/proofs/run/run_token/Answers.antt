-- The run is a name, or else the one spelling of a number; both are ASCII.
use Rattle.std.proofs.Common.{sym, subst, ◌∙◌}
use Rattle.std.proofs.lemmas.Bool.{true≢false}
use Rattle.std.proofs.lemmas.Fmt.{IsAscii-signed}
use Rattle.std.proofs.lemmas.Str.{IsUtf8-from_ascii}
use Rattle.std.specs.Fmt.{signed_decimal}
use Rattle.std.specs.Str.{IsUtf8}
use Rattle.mk_value.proofs.Names.{IsUtf8-name}
use Rattle.mk_value.specs.Names.{IsName}
use Rattle.tokens.proofs.Findings.{run_word, run_number, run_nothing}
use Rattle.tokens.proofs.run.run_token.Goals as goal
use mir.Facts.{to_z-of_z}

pub returns-in_default : goal.returns-in_default
returns-in_default c =
    let bad = c.in_default.ensures.cases.0 in
    run_nothing c.args.bytes.now c.run_len-len.result c.run_len-len.ensures.run c.requires (λ named. bad (IsUtf8-name _ named))
    (λ z fits e. bad (subst IsUtf8 (sym e) (IsUtf8-from_ascii (signed_decimal z) (IsAscii-signed z fits.sfits))))

pub returns-then-is_name : goal.returns-then-is_name
returns-then-is_name c =
    let named = c.is_name.ensures.0 c.if-is_name.true in
    (c.run_len-len.ensures.within, run_word c.args.bytes.now c.run_len-len.result c.run_len-len.ensures.run c.requires _ named c.in-Ok.ensures.cases.0)

pub returns-in_err-number : goal.returns-in_err-number
returns-in_err-number c =
    let same = c.in-Ok.ensures.cases.0 in
    rw c.from_residual.ensures (run_nothing c.args.bytes.now c.run_len-len.result c.run_len-len.ensures.run c.requires
    (λ named. true≢false (sym (c.is_name.ensures.1 (subst IsName (sym same) named)) ∙ c.if-is_name.false))
    (λ z fits e. c.in_err-number.ensures.none z fits (same ∙ e)))

pub returns : goal.returns
returns c =
    let some = c.in_ok-number.ensures.some in
    rw (to_z-of_z some.0) (c.run_len-len.ensures.within, run_number c.args.bytes.now c.run_len-len.result c.run_len-len.ensures.run c.requires c.in_ok-number.number some.0 (sym c.in-Ok.ensures.cases.0 ∙ some.1))
