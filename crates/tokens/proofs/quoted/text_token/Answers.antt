-- What stands behind the quote spells a text up to another, or nothing does.
use Rattle.std.proofs.Common.{◌≡◌, ◌+◌, ◌≤◌, length, drop, ap, subst, sym, ◌∙◌, Some}
use Rattle.std.proofs.lemmas.List.{take_rest}
use Rattle.std.specs.Str.{IsUtf8}
use Rattle.mk_value.specs.Tokens.{escaped, text}
use Rattle.tokens.specs.Cutting.{Begins}
use Rattle.tokens.specs.Finding.{FindsQuoted, IsTextByte}
use Rattle.tokens.specs.Meanings.{characters_of}
use Rattle.tokens.proofs.Decoded.{IsUtf8-escaped, IsUtf8-from_escaped, characters-escaped}
use Rattle.tokens.proofs.Findings.{text_found, text_nothing, text_not_utf8}
use Rattle.tokens.proofs.quoted.text_token.Goals as goal

pub returns-in_err-end : goal.returns-in_err-end
returns-in_err-end c =
    let none = rw take_rest at c.in_err-end.ensures in
    rw c.from_residual.ensures (text_nothing c.args.bytes.now c.requires none)

pub returns-in-Ok : goal.returns-in-Ok
returns-in-Ok c =
    let found = subst (λ x. FindsQuoted escaped IsTextByte x (Some c.in_ok-end.end)) (take_rest c.args.bytes.now 1) c.in_ok-end.ensures in
    let written = c.in-Ok.ensures.cases in
    let same : characters_of c.in-Ok.written.now ≡ found.0 = ap characters_of (written.0 ∙ found.5) ∙ characters-escaped found.0 in
    let utf8 = IsUtf8-from_escaped found.0 (subst IsUtf8 found.5 written.1) in
    subst (λ content. (c.in_ok-end.end + 1 ≤ length c.args.bytes.now) × Begins c.args.bytes.now (text content) (drop (c.in_ok-end.end + 1) c.args.bytes.now)) (sym same)
    (text_found c.args.bytes.now c.requires found.0 c.in_ok-end.end found.1 utf8 found.2 found.3)

pub returns-in-Err : goal.returns-in-Err
returns-in-Err c =
    let found = subst (λ x. FindsQuoted escaped IsTextByte x (Some c.in_ok-end.end)) (take_rest c.args.bytes.now 1) c.in_ok-end.ensures in
    text_not_utf8 c.args.bytes.now c.requires found.0 (drop c.in_ok-end.end (drop 1 c.args.bytes.now)) found.2 found.3
    (λ utf8. c.in-Err.ensures.cases.0 (subst IsUtf8 (sym found.5) (IsUtf8-escaped found.0 utf8)))
