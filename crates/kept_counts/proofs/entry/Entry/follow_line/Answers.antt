use Rattle.std.proofs.Common.{ap, sym, subst, ◌∙◌}
use Rattle.std.specs.Prelude.{Option}
use Rattle.std.specs.Option.{ForSome}
use Rattle.mk_value.specs.Names.{same_bytes}
use Rattle.kept_counts.specs.declared.kept.Kept.{Kept}
use Rattle.kept_counts.specs.Keeping.{Counted, IsWaiting}
use Rattle.kept_counts.proofs.Marking.{follows_here}
use Rattle.kept_counts.proofs.entry.Entry.follow_line.Goals as goal

pub followed_line-kept-requires : goal.followed_line-kept-requires
followed_line-kept-requires c = λ x some.
    let here = ap (λ (e : Counted). same_bytes e.view c.args.view.now) (sym c.self.view_is) ∙ sym c.eq.ensures ∙ c.if-eq.true in
    c.requires.kept here x (ap (λ (e : Counted). e.kept) (sym c.self.view_is) ∙ sym c.take.ensures.value ∙ some)

pub returns-then-eq : goal.returns-then-eq
returns-then-eq c =
    let view = c.args.view.now in
    let schema = c.args.line.now.before.now.schema in
    let after = c.args.line.now.after.now.rows in
    let old = c.args.self.now in
    let here = ap (λ (e : Counted). same_bytes e.view view) (sym c.self.view_is) ∙ sym c.eq.ensures ∙ c.if-eq.true in
    let over = subst (λ (o : Option Kept). ForSome o (IsWaiting schema after)) (sym c.replace.ensures.after) c.followed_line-kept.ensures in
    follows_here view schema after old _ here (ap (λ (e : Counted). e.view) c.self.view_is) over
