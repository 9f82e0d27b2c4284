use Rattle.std.proofs.Common.{ap, sym, ◌∙◌}
use Rattle.mk_value.specs.Data.{Datum}
use Rattle.mk_value.specs.LiteralValues.{literal_of}
use Rattle.mk_value.specs.Values.{datum_of}
use Rattle.view_store.specs.Edits.{Edit}
use Rattle.view_store.specs.Views.{edited_views}
use Rattle.view_store.proofs.Editing.{OnOk-then}
use Rattle.session.specs.World.{with_line}
use Rattle.session.proofs.Made.{one_event}
use Rattle.session.proofs.Dues.{set-none, row_within}
use Rattle.session.proofs.session.Session.set.Goals as goal

pub change-requires-clause-due : goal.change-requires-clause-due
change-requires-clause-due c =
    set-none c.args.self.now.store.views c.args.path.now c.args.row c.in_ok-size.size c.args.prop.now (datum_of c.in_ok-value.value) (literal_of c.args.literal.now) (sym c.in_ok-size.ensures.due) c.in_ok-size.ensures.size
    (row_within c.in_ok-size.size c.args.row (sym c.in_ok-check_row.ensures)) (sym c.in_ok-check_value_of.ensures) c.in_ok-value.ensures.whole

pub returns-clause-ok : goal.returns-clause-ok
returns-clause-ok c =
    let w = c.args.self.now in
    let path = c.args.path.now in
    let set = λ (d : Datum). edited_views w.store.views path (Edit.set c.args.row c.args.prop.now d) in
    OnOk-then c.change.result c.change.ensures.ok (λ e.
    e ∙ ap (λ n. with_line w (set (datum_of c.in_ok-value.value)) path.name n) (one_event path.steps)
    ∙ ap (λ d. with_line w (set d) path.name 1) c.in_ok-value.ensures.value)
