use Rattle.std.proofs.Common.{ap, sym, subst, ◌∙◌}
use Rattle.std.specs.Prelude.{Option}
use Rattle.std.specs.Option.{ForSome}
use Rattle.mk_value.specs.Names.{same_bytes}
use Rattle.kept_counts.specs.declared.kept.Kept.{Kept}
use Rattle.kept_counts.specs.Keeping.{Counted, HasNoted}
use Rattle.kept_counts.proofs.Marking.{notes_here}
use Rattle.kept_counts.proofs.entry.Entry.note.Goals as goal

pub noted-kept-requires-clause-now : goal.noted-kept-requires-clause-now
noted-kept-requires-clause-now c = λ x some.
    let here = ap (λ (e : Counted). same_bytes e.view c.args.view.now) (sym c.self.view_is) ∙ sym c.eq.ensures ∙ c.if-eq.true in
    c.requires.kept here x (ap (λ (e : Counted). e.kept) (sym c.self.view_is) ∙ sym c.take.ensures.value ∙ some)

pub returns-then-eq : goal.returns-then-eq
returns-then-eq c =
    let view = c.args.view.now in
    let schema = c.args.rows.now.schema in
    let rows = c.args.rows.now.rows in
    let old = c.args.self.now in
    let here = ap (λ (e : Counted). same_bytes e.view view) (sym c.self.view_is) ∙ sym c.eq.ensures ∙ c.if-eq.true in
    let marked = subst (λ (o : Option Kept). ForSome o (HasNoted schema rows c.args.edit)) (sym c.replace.ensures.after) c.noted-kept.ensures in
    notes_here view schema rows c.args.edit old _ here (ap (λ (e : Counted). e.view) c.self.view_is) marked
