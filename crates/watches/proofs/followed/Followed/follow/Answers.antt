use Rattle.std.proofs.Common.{ap, subst, sym, ◌∙◌}
use Rattle.mk_value.specs.Names.{same_bytes}
use Rattle.row_edits.specs.Events.{count_of}
use Rattle.watches.specs.Lines.{HaveFollowed}
use Rattle.watches.specs.Keeping.{Kept}
use Rattle.watches.proofs.Grouped.{follows_line}
use Rattle.watches.proofs.followed.Followed.follow.Goals as goal

pub returns-then-eq : goal.returns-then-eq
returns-then-eq c =
    let e = c.follow_edit.ensures in
    let rows = c.args.rows.now in
    follows_line c.args.view.now (count_of c.args.edit) rows.schema rows.rows c.args.self.now _
    (ap (λ (k : Kept). same_bytes k.view c.args.view.now) (sym c.self.view_is) ∙ sym c.eq.ensures ∙ c.if-eq.true)
    (ap (λ (k : Kept). k.view) c.self.view_is) (ap (λ (k : Kept). k.names) c.self.view_is)
    (subst (λ (k : Kept). HaveFollowed (count_of c.args.edit) k.watching.watches c.follow_edit.new.watches.watches) c.self.view_is e.followed)
    (record { now = e.now; noted = e.noted })
