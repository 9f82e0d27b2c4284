use Rattle.std.proofs.Common.{◌≡◌, [], Some, ap, sym, ◌∙◌}
use Rattle.mk_value.specs.Heading.{find}
use Rattle.mk_value.specs.Values.{datum_of}
use Rattle.view_store.specs.Changes.{edit_of}
use Rattle.view_store.specs.Refusals.{due_in}
use Rattle.view_store.proofs.Editing.{may_set}
use Rattle.view_store.proofs.edit.edit_here.Goals as goal

pub set_cell-requires-clause-fits : goal.set_cell-requires-clause-fits
set_cell-requires-clause-fits c =
    let t = c.args.table.now in
    let free = sym (ap (λ ch. due_in t [] (edit_of ch)) c.in-Set.is) ∙ c.requires in
    let prop = c.in-Set.prop.now in
    let found : find t.schema prop ≡ Some c.unwrap-col.result =
    ap (λ s. find s prop) (sym c.schema.ensures.value) ∙ ap (λ n. find c.schema.result.now n) (sym c.as_str.ensures.value) ∙ sym c.find.ensures ∙ c.unwrap-col.ensures in
    (may_set t c.in-Set.row c.unwrap-col.result prop (datum_of c.in-Set.value.now) found free).fits
