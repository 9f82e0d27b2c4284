use Rattle.std.proofs.Common.{ℕ, map, ap, subst, sym, ◌∙◌}
use Rattle.expr_text.specs.Meanings.{query_of}
use Rattle.session.specs.Naming.{table_under}
use Rattle.session.specs.Refusals.{AnswersDue}
use Rattle.session.proofs.WatchDues.{due_kept, full_told, over_answered}
use Rattle.session.proofs.session.Session.put_watch.Goals as goal

pub returns-in_default-clause-due : goal.returns-in_default-clause-due
returns-in_default-clause-due g c =
    over_answered (map g.V.Viewer.meaning c.args.viewers.now) c.args.self.now c.args.name.now (query_of c.args.expr.now) c.refusal_over_computed.result
    (ap (table_under c.args.self.now) (sym c.operand-source.ensures) ∙ c.in_default.ensures) c.refusal_over_computed.ensures

pub returns-then-is_full-clause-due : goal.returns-then-is_full-clause-due
returns-then-is_full-clause-due g c =
    full_told (map g.V.Viewer.meaning c.args.viewers.now) c.args.self.now c.args.name.now (query_of c.args.expr.now) c.in-Some._table.now c.refusal_of_full.result
    (ap (table_under c.args.self.now) (sym c.operand-source.ensures) ∙ c.in-Some.ensures) (sym c.is_full.ensures ∙ c.if-is_full.true) c.refusal_of_full.ensures

pub returns-clause-due : goal.returns-clause-due
returns-clause-due g c =
    subst (λ due. AnswersDue {T = ℕ} due c.put_kept.result)
    (due_kept (map g.V.Viewer.meaning c.args.viewers.now) c.args.self.now c.args.name.now (query_of c.args.expr.now) c.in-Some._table.now
    (ap (table_under c.args.self.now) (sym c.operand-source.ensures) ∙ c.in-Some.ensures) (sym c.is_full.ensures ∙ c.if-is_full.false)) c.put_kept.ensures.due
