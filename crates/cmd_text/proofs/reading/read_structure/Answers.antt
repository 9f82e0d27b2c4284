use Rattle.std.proofs.Common.{◌≡◌, ◌⊎◌, true, [], length, subst, ap, arith}
use Rattle.tokens.specs.Cutting.{begins_with}
use Rattle.cmd_text.specs.Lines.{is_space}
use Rattle.cmd_text.proofs.Spaces.{without_leading-no_longer}
use Rattle.cmd_text.proofs.Structures.{behind_no_longer, refuses_text}
use Rattle.cmd_text.proofs.reading.read_structure.Goals as goal

pub overflow_sub-result : goal.overflow_sub-result
overflow_sub-result c = omega (arith, without_leading-no_longer c.args.line.now, ap length c.requires.rest)

pub overflow_sub-line : goal.overflow_sub-line
overflow_sub-line c =
    omega (arith, c.without_leading_spaces-text.ensures.short, behind_no_longer c.args.line.now c.args.behind.now c.requires.behind)

pub returns-in-Err-clause-refused : goal.returns-in-Err-clause-refused
returns-in-Err-clause-refused c =
    let alone : (c.args.behind.now ≡ []) ⊎ (begins_with is_space c.args.behind.now ≡ true) =
    subst (λ b. (b ≡ []) ⊎ (begins_with is_space b ≡ true)) c.as_bytes.ensures.value (c.ends_word.ensures.0 c.if-not-ends_word.false) in
    refuses_text _ _ _ _ _ _ c.requires.behind alone c.without_leading_spaces-text.ensures.value c.without_trailing_spaces.ensures.value c.in-Err.ensures.refused c.of_structure.ensures
