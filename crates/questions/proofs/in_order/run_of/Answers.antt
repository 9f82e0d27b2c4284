use Rattle.std.proofs.Common.{◌≡◌, [], true, get_or, sym, ◌∙◌, subst, arith, inl, inr}
use Rattle.std.proofs.lemmas.Bool.{cases_lt}
use Rattle.relations.specs.Criteria.{is_in_range}
use Rattle.questions.proofs.in_order.run_of.Goals as goal

pub loop-end-init : goal.loop-end-init
loop-end-init g c = λ k p q. absurd (omega arith)

pub returns-then-not-is_in_range-clause-inside : goal.returns-then-not-is_in_range-clause-inside
returns-then-not-is_in_range-clause-inside g c = λ k p q. c.loop-end.invariant k p (let near = c.loop-end.auto.end in omega arith)

pub loop-end-preserved : goal.loop-end-preserved
loop-end-preserved g c = λ k p q. elim (cases_lt k c.loop-end.end) [
  | inl before ↦ c.loop-end.invariant k p before
  | inr last ↦
      let same : c.loop-end.end ≡ k = omega arith in
      subst (λ n. is_in_range (g.T.TableRead.schema c.args.table.now) c.args.criteria.now (get_or (g.T.TableRead.rows c.args.table.now) n []) ≡ true) same (sym c.is_in_range.ensures ∙ c.if-not-is_in_range.false)
]

pub returns-clause-inside : goal.returns-clause-inside
returns-clause-inside g c = λ k p q. c.loop-end.invariant k p (let near = c.loop-end.auto.end in let far = c.loop-end-test.false in let size = c.size.ensures.value in let first = c.size-end-end.ensures.value in omega arith)
