use Rattle.std.proofs.Common.{◌++◌, length, ap, sym, ◌∙◌}
use Rattle.derived.specs.Layers.{Layered}
use Rattle.relations.specs.Columns.{values_at}
use Rattle.derived.proofs.Besides.{zipped_long}
use Rattle.derived.proofs.derived.DerivedTableRead.+size.Goals as goal

pub returns-in-Beside-clause-value : goal.returns-in-Beside-clause-value
returns-in-Beside-clause-value g t c =
    let view = rw c.in-Beside.is at c.self.view_is in
    let kept = rw c.in-Beside.is at c.self.invariant in
    c.size-in-Beside.ensures.value ∙ ap (λ (d : Layered). length d.rows) c.deref-in-Beside.ensures
    ∙ sym (zipped_long (λ one two. one ++ values_at c.in-Beside.field-2 two) c.in-Beside.first.value.rows c.in-Beside.field-1.value.rows kept.inside.as_many)
    ∙ ap (λ (d : Layered). length d.rows) view
