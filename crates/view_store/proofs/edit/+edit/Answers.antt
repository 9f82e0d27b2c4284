use Rattle.std.proofs.Common.{◌≡◌, Some, ap, sym, ◌∙◌}
use Rattle.mk_value.specs.Heading.{find}
use Rattle.mk_value.specs.Tables.{domain_at}
use Rattle.view_store.specs.Changes.{edit_of}
use Rattle.view_store.specs.Refusals.{due_in}
use Rattle.tables.specs.Tables.{StoredTable, inner_table}
use Rattle.view_store.proofs.Editing.{fits_again}
use Rattle.view_store.proofs.edit.+edit.Goals as goal

pub set_inner-requires-clause-view : goal.set_inner-requires-clause-view
set_inner-requires-clause-view t c =
    let table = c.args.table.now in
    let step = c.in-Some.step.now in
    let rest = c.in-Some.rest.now in
    let k = c.unwrap-col.result in
    let change = edit_of c.args.change in
    let free = sym (ap (λ ss. due_in table ss change) c.in-Some.ensures.cases.0) ∙ c.requires in
    let found : find table.schema step.prop ≡ Some k =
    ap (λ s. find s step.prop) (sym c.schema.ensures.value) ∙ ap (λ n. find c.schema.result.now n) (sym c.as_str.ensures.value) ∙ sym c.find.ensures ∙ c.unwrap-col.ensures in
    let here : c.in_ok-nested-in-Some.nested ≡ inner_table table step.row k = c.in_ok-nested-in-Some.ensures ∙ c.inner.ensures.value ∙ ap (λ t. inner_table t step.row k) c.table-in-Some.ensures in
    let same : c.in_ok-new.new ≡ table = c.in_ok-new.ensures ∙ c.table.ensures in
    ap (λ (t : StoredTable). domain_at t.schema k) same
    ∙ fits_again table step rest change step.row k c.in_ok-inner-in-Some.inner c.in_ok-nested-in-Some.nested free found here c.in_ok-inner-in-Some.ensures.ok
