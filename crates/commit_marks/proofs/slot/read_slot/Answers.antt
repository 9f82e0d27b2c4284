use Rattle.std.proofs.Common.{◌≡◌, Bool, false, IsTrue, sym, subst, ◌∷◌}
use Rattle.commit_marks.specs.declared.mark.Mark.{Mark}
use Rattle.commit_marks.specs.Marks.{IsMark, body_bytes, open_byte}
use Rattle.commit_marks.proofs.Bodies.{parsed_is}
use Rattle.commit_marks.proofs.slot.read_slot.Goals as goal
use Rattle.commit_marks.proofs.slot.read_slot.Goals.{else-is_mark-via-then-is_mark+else-spells, else-is_mark-via-else-is_mark}

-- no test fails and passes
not_both : {b : Bool} → b ≡ false → IsTrue b → ⊥
not_both fails passes = cc

-- a slot with the bytes of a mark passes both tests
pub returns-else-is_mark : goal.returns-else-is_mark
returns-else-is_mark c = (
  c.if-slot.false,
  λ m good is.
      let same : c.parse-mark.result ≡ m = parsed_is c.args.slot.now c.parse-mark.result m good is c.parse-mark.ensures in
      elim c.else-is_mark.branch [
        | else-is_mark-via-then-is_mark+else-spells w ↦ not_both w.if-spells.false (w.spells.ensures.1 (subst (λ (k : Mark). c.args.slot.now ≡ open_byte ∷ body_bytes k) (sym same) is))
        | else-is_mark-via-else-is_mark w ↦ not_both w.if-is_mark.false (c.is_mark.ensures.1 (subst IsMark (sym same) good))
      ],
)
