-- What stands behind the quote spells bytes up to another, or nothing does.
use Rattle.std.proofs.Common.{◌≡◌, ◌-◌, ◌+◌, ◌≤◌, length, take, drop, ap, subst, sym, ◌∙◌, arith, Some}
use Rattle.std.proofs.lemmas.List.{take_rest}
use Rattle.std.specs.List.{flat_map}
use Rattle.std.specs.Str.{IsUtf8}
use Rattle.mk_value.specs.Tokens.{bytes, hex_pair}
use Rattle.tokens.specs.Cutting.{Begins}
use Rattle.tokens.specs.Finding.{FindsQuoted, IsByte}
use Rattle.tokens.specs.Meanings.{pairs_of}
use Rattle.tokens.proofs.Decoded.{IsUtf8-pairs, pairs-hex}
use Rattle.tokens.proofs.Findings.{bytes_found, bytes_nothing}
use Rattle.tokens.proofs.quoted.bytes_token.Goals as goal

pub returns-in_err-end : goal.returns-in_err-end
returns-in_err-end c =
    let none = rw take_rest at c.in_err-end.ensures in
    rw c.from_residual.ensures (bytes_nothing c.args.bytes.now c.requires none)

pub returns-in-Ok : goal.returns-in-Ok
returns-in-Ok c =
    let found = subst (λ x. FindsQuoted hex_pair IsByte x (Some c.in_ok-end.end)) (take_rest c.args.bytes.now 2) c.in_ok-end.ensures in
    let front : take (c.in_ok-end.end + 1 - 2) (drop 2 c.args.bytes.now) ≡ flat_map hex_pair found.0 =
    ap (λ n. take n (drop 2 c.args.bytes.now)) (let f : c.in_ok-end.end + 1 - 2 ≡ c.in_ok-end.end - 1 = omega arith in f) ∙ found.5 in
    let same : pairs_of c.in-Ok.written.now ≡ found.0 = ap pairs_of (c.in-Ok.ensures.cases.0 ∙ front) ∙ pairs-hex found.0 found.2 in
    subst (λ content. (c.in_ok-end.end + 2 ≤ length c.args.bytes.now) × Begins c.args.bytes.now (bytes content) (drop (c.in_ok-end.end + 2) c.args.bytes.now)) (sym same)
    (bytes_found c.args.bytes.now c.requires found.0 c.in_ok-end.end found.1 found.2 found.3)

pub returns-in-Err : goal.returns-in-Err
returns-in-Err c =
    let found = subst (λ x. FindsQuoted hex_pair IsByte x (Some c.in_ok-end.end)) (take_rest c.args.bytes.now 2) c.in_ok-end.ensures in
    let front : take (c.in_ok-end.end + 1 - 2) (drop 2 c.args.bytes.now) ≡ flat_map hex_pair found.0 =
    ap (λ n. take n (drop 2 c.args.bytes.now)) (let f : c.in_ok-end.end + 1 - 2 ≡ c.in_ok-end.end - 1 = omega arith in f) ∙ found.5 in
    absurd (c.in-Err.ensures.cases.0 (subst IsUtf8 (sym front) (IsUtf8-pairs found.0 found.2)))
