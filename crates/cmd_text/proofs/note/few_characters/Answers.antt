use Rattle.std.proofs.Common.{sym, ◌∙◌, true≢false, arith}
use Rattle.cmd_text.proofs.Characters.{more_behind}
use Rattle.cmd_text.proofs.note.few_characters.Goals as goal
use Rattle.cmd_text.proofs.note.few_characters.Goals.{else-not-escapes-via-then-not-escapes+else-byte-eq92, else-not-escapes-via-else-not-escapes}

pub returns-then-len-eq-MAX_NOTE-clause-none : goal.returns-then-len-eq-MAX_NOTE-clause-none
returns-then-len-eq-MAX_NOTE-clause-none c = λ none.
    let more = more_behind _ _ _ _ c.loop-byte-test.true (λ plain. elim c.else-not-escapes.branch [
      | else-not-escapes-via-then-not-escapes+else-byte-eq92 w ↦ w.if-byte-eq92.false
      | else-not-escapes-via-else-not-escapes w ↦ absurd (true≢false (sym w.if-not-escapes.false ∙ plain))
    ]) c.loop-byte.invariant.read in
    omega (arith, more, c.len.ensures, c.if-len-eq-MAX_NOTE.true)
