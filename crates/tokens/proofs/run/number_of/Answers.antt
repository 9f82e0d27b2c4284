-- What spells a number is read as that number, which is written so again.
use Rattle.std.proofs.Common.{◌≡◌, ap, sym, ◌∙◌}
use Rattle.std.proofs.lemmas.Bool.{true≢false}
use Rattle.std.proofs.lemmas.Fmt.{parse-signed_decimal}
use Rattle.std.specs.Fmt.{signed_decimal}
use Rattle.std.specs.Int.{w64}
use Rattle.tokens.proofs.Findings.{pointwise_same}
use Rattle.tokens.proofs.run.number_of.Goals as goal
use mir.Facts.{to_z-of_z}
use mir.Val.{to_z, of_z}

pub returns-in_default-clause-none : goal.returns-in_default-clause-none
returns-in_default-clause-none c = λ z fits e.
    c.in_default.not-Ok z (parse-signed_decimal w64 z c.args.text.now c.parse.result fits fits.sfits e c.parse.ensures.value.0)

pub returns-else-eq-clause-none : goal.returns-else-eq-clause-none
returns-else-eq-clause-none c = λ z fits e.
    let read = parse-signed_decimal w64 z c.args.text.now c.parse.result fits fits.sfits e c.parse.ensures.value.0 in
    let same : c.in-Ok.number ≡ z = cc in
    let passed : to_z w64 (of_z w64 c.in-Ok.number) ≡ z = ap (λ x. to_z w64 (of_z w64 x)) same ∙ to_z-of_z fits in
    true≢false (sym (pointwise_same c.format.result.now c.args.text.now (c.format.ensures.text ∙ ap signed_decimal passed ∙ sym e)) ∙ sym c.eq.ensures ∙ c.if-eq.false)
