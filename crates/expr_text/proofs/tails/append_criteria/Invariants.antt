use Rattle.std.proofs.Common.{take}
use Rattle.mk_value.specs.Appending.{Appends}
use Rattle.expr_text.specs.Spelling.{criterion_tokens}
use Rattle.expr_text.specs.Texts.{listed_text}
use Rattle.expr_text.proofs.tails.append_criteria.Given as goal

abbrev pub invariant-loop-member : goal.invariant-loop-member
invariant-loop-member l = Appends l.fn.out (listed_text criterion_tokens (take l.member-index l.list)) l.out
