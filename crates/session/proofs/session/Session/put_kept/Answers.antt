use Rattle.std.proofs.Common.{◌≡◌, ℕ, Some, ap, inl, sym, subst, ◌∙◌}
use Rattle.expr_text.specs.Meanings.{query_of}
use Rattle.watches.specs.Keeping.{followed}
use Rattle.keyed_views.specs.Keeping.{mapped}
use Rattle.watches.specs.Watches.{source_of}
use Rattle.view_store.specs.Views.{table_of}
use Rattle.questions.specs.Operations.{operand, operation}
use Rattle.watches.specs.Refusals.{put_due}
use Rattle.live.specs.Putting.{AnswersPut}
use Rattle.session.specs.Naming.{is_taken, table_under, told_of_put, kept_due}
use Rattle.session.specs.Commands.{put_over, watch_size}
use Rattle.session.specs.Refusals.{AnswersDue}
use Rattle.session.specs.World.{World}
use Rattle.std.proofs.Common.{Err, false, IfOk, OnOk}
use Rattle.session.proofs.Putting.{operation_refused, put_answered, put_is, size_is, taken_due, unknown_due}
use Rattle.session.proofs.session.Session.put_kept.Goals as goal

pub returns-in_default-clause-due : goal.returns-in_default-clause-due
returns-in_default-clause-due c =
    inl (unknown_due c.args.self.now c.args.name.now (query_of c.args.expr.now) (ap (table_under c.args.self.now) (sym c.operand-source.ensures) ∙ c.in_default.ensures))

pub returns-then-is_taken-clause-due : goal.returns-then-is_taken-clause-due
returns-then-is_taken-clause-due c =
    inl (taken_due c.args.self.now c.args.name.now (query_of c.args.expr.now) c.in-Some.table.now (ap (table_under c.args.self.now) (sym c.operand-source.ensures) ∙ c.in-Some.ensures)
    (sym c.is_taken.ensures ∙ c.if-is_taken.true))

pub returns-in-Err-clause-due : goal.returns-in-Err-clause-due
returns-in-Err-clause-due c =
    let w = c.args.self.now in
    let q = query_of c.args.expr.now in
    subst (λ r. AnswersDue {T = ℕ} (kept_due w c.args.name.now q) (Err r)) (sym c.of_watch.ensures)
    (operation_refused w c.args.name.now q c.in-Some.table.now c.in-Err.error (ap (table_under w) (sym c.operand-source.ensures) ∙ c.in-Some.ensures) (sym c.is_taken.ensures ∙ c.if-is_taken.false)
    (rw c.schema.ensures.value at c.in-Err.ensures))

pub returns-clause-due : goal.returns-clause-due
returns-clause-due c =
    let q = query_of c.args.expr.now in
    let t = c.in-Some.table.now in
    let found = ap (table_under c.args.self.now) (sym c.operand-source.ensures) ∙ c.in-Some.ensures in
    let inside : World = record { store = c.self.inside.store; snapshots = c.self.inside.snapshots; cursors = c.self.inside.cursors; watches = followed c.self.inside.watches; computed = c.self.inside.computed; mappings = mapped c.self.inside.mappings } in
    let there = subst (λ (w : World). table_under w (operand q) ≡ Some t) (sym c.self.view_is) found in
    let put = ap (λ v. table_of v (source_of inside.watches c.operand-source.result.now).view) c.views.ensures ∙ ap (λ n. table_under inside n) c.operand-source.ensures ∙ there in
    subst (λ r. AnswersDue (kept_due c.args.self.now c.args.name.now q) r) (sym c.of_put.ensures)
    (subst (λ (w : World). AnswersDue (kept_due w c.args.name.now q) (told_of_put c.put.result)) c.self.view_is
    (put_answered inside c.args.name.now q t c.in-Ok.op c.put.result there
    (subst (λ (w : World). is_taken w c.args.name.now ≡ false) (sym c.self.view_is) (sym c.is_taken.ensures ∙ c.if-is_taken.false))
    (c.in-Ok.ensures ∙ ap (λ s. operation s q) c.schema.ensures.value)
    (subst (λ n. AnswersPut (put_due t.schema inside.watches (source_of inside.watches n) c.in-Ok.op) c.put.result) c.operand-source.ensures (c.put.ensures.due t put))))

pub returns-clause-size : goal.returns-clause-size
returns-clause-size c =
    let q = query_of c.args.expr.now in
    let t = c.in-Some.table.now in
    let found = ap (table_under c.args.self.now) (sym c.operand-source.ensures) ∙ c.in-Some.ensures in
    let inside : World = record { store = c.self.inside.store; snapshots = c.self.inside.snapshots; cursors = c.self.inside.cursors; watches = followed c.self.inside.watches; computed = c.self.inside.computed; mappings = mapped c.self.inside.mappings } in
    let there = subst (λ (w : World). table_under w (operand q) ≡ Some t) (sym c.self.view_is) found in
    let put = ap (λ v. table_of v (source_of inside.watches c.operand-source.result.now).view) c.views.ensures ∙ ap (λ n. table_under inside n) c.operand-source.ensures ∙ there in
    subst (λ r. IfOk r (λ size. size ≡ watch_size c.args.self.now q)) (sym c.of_put.ensures)
    (subst (λ (w : World). IfOk (told_of_put c.put.result) (λ size. size ≡ watch_size w q)) c.self.view_is
    (size_is inside q t c.in-Ok.op c.put.result there (c.in-Ok.ensures ∙ ap (λ s. operation s q) c.schema.ensures.value)
    (rw c.operand-source.ensures at (c.put.ensures.size t put))))

pub returns-clause-ok : goal.returns-clause-ok
returns-clause-ok c =
    let q = query_of c.args.expr.now in
    let t = c.in-Some.table.now in
    let found = ap (table_under c.args.self.now) (sym c.operand-source.ensures) ∙ c.in-Some.ensures in
    let inside : World = record { store = c.self.inside.store; snapshots = c.self.inside.snapshots; cursors = c.self.inside.cursors; watches = followed c.self.inside.watches; computed = c.self.inside.computed; mappings = mapped c.self.inside.mappings } in
    let there = subst (λ (w : World). table_under w (operand q) ≡ Some t) (sym c.self.view_is) found in
    let put = ap (λ v. table_of v (source_of inside.watches c.operand-source.result.now).view) c.views.ensures ∙ ap (λ n. table_under inside n) c.operand-source.ensures ∙ there in
    let new : World = record inside { watches = followed c.put.new.self } in
    subst (λ r. OnOk r (new ≡ put_over c.args.self.now c.args.name.now q)) (sym c.of_put.ensures)
    (subst (λ (w : World). OnOk (told_of_put c.put.result) (new ≡ put_over w c.args.name.now q)) c.self.view_is
    (put_is inside c.args.name.now q t c.in-Ok.op c.put.result (followed c.put.new.self) there (c.in-Ok.ensures ∙ ap (λ s. operation s q) c.schema.ensures.value)
    (rw c.operand-source.ensures at (c.put.ensures.ok t put))))
