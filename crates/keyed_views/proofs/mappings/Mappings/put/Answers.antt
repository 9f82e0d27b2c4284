use Rattle.std.proofs.Common.{◌≡◌, ◌<◌, length, None, ap, subst, sym, ◌∙◌, arith}
use Rattle.std.proofs.lemmas.List.{length-map}
use Rattle.std.proofs.lemmas.Result.{err_from_is_err_and}
use Rattle.keyed_views.specs.declared.kept.Kept.{Kept}
use Rattle.keyed_views.specs.Keeping.{AreKept, AreWhole, mapped, mapped_of}
use Rattle.keyed_views.specs.Mapped.{is_mapped}
use Rattle.view_store.specs.Views.{table_of}
use Rattle.keyed_views.proofs.Holding.{kept_push, whole_push}
use Rattle.keyed_views.specs.Refusals.{schema_due}
use Rattle.keyed_views.proofs.Comings.{count_none}
use Rattle.keyed_views.proofs.Refused.{rows_answer}
use Rattle.keyed_views.proofs.mappings.Mappings.put.Goals as goal

pub invariant_of-self-2 : goal.invariant_of-self-2
invariant_of-self-2 c =
    let kept : Kept = record { view = c.in_ok-view.view; keys = c.args.keys; mapping = c.in_ok-mapping.mapping } in
    let below = c.if-len-ge-MAX_MAPPINGS.false in
    let long = c.len.ensures in
    let few : length c.self.inside.list.items < 64 = omega arith in
    subst AreWhole (sym c.in_ok-push.ensures.ok)
    (whole_push c.self.inside.list.items c.args.self.now kept c.self.invariant few c.self.view_is
    (ap (is_mapped (mapped c.args.self.now)) c.in_ok-view.ensures ∙ sym c.is_mapped.ensures ∙ c.if-is_mapped.false))

pub returns-clause-kept : goal.returns-clause-kept
returns-clause-kept c = λ views there h.
    let kept : Kept = record { view = c.in_ok-view.view; keys = c.args.keys; mapping = c.in_ok-mapping.mapping } in
    subst (AreKept views) (sym c.in_ok-push.ensures.ok)
    (kept_push views c.self.inside.list.items kept (subst (AreKept views) (sym c.self.view_is) h)
    (record {
      table = c.args.table.now;
      there = ap (table_of views) c.in_ok-view.ensures ∙ there;
      over = record { plain = count_none c.args.keys c.args.table.now.schema (ap (schema_due c.args.keys) (sym c.schema.ensures.value) ∙ sym c.in_ok-check_schema.ensures); kept = c.in_ok-mapping.ensures.kept };
    }))

pub returns-in_err-mapping-clause-due : goal.returns-in_err-mapping-clause-due
returns-in_err-mapping-clause-due c =
    let told = err_from_is_err_and c.from_residual-in_err-mapping.result c.from_residual-in_err-mapping.ensures.1 in
    let below = c.if-len-ge-MAX_MAPPINGS.false in
    let long = c.len.ensures in
    let same = ap length c.self.view_is in
    let count = length-map c.args.self.now mapped_of in
    let few : length (mapped c.args.self.now) < 64 = omega (arith, below, long, same, count) in
    let fits : schema_due c.args.keys c.args.table.now.schema ≡ None = ap (schema_due c.args.keys) (sym c.schema.ensures.value) ∙ sym c.in_ok-check_schema.ensures in
    rw (told.1, told.2)
    (rows_answer _ _ c.args.by c.args.keys c.args.table.now.schema c.args.table.now.rows (mapped c.args.self.now) c.args.view.now c.in_err-mapping.field-0.0 fits few c.in_err-mapping.ensures.due)
