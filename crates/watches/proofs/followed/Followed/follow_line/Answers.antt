use Rattle.std.proofs.Common.{List, ap, subst, sym, ◌∙◌}
use Rattle.mk_value.specs.Heading.{Attribute}
use Rattle.mk_value.specs.Names.{same_bytes}
use Rattle.live.specs.Chains.{AreNow}
use Rattle.row_edits.specs.Events.{count_all}
use Rattle.watches.specs.Lines.{HaveFollowed}
use Rattle.watches.specs.Keeping.{Kept}
use Rattle.watches.proofs.Grouped.{follows_line}
use Rattle.watches.proofs.followed.Followed.follow_line.Goals as goal

pub returns-then-eq : goal.returns-then-eq
returns-then-eq c =
    let e = c.follow_line.ensures in
    let line = c.args.line.now in
    follows_line c.args.view.now (count_all line.edits.now) line.before.now.schema line.after.now.rows c.args.self.now _
    (ap (λ (k : Kept). same_bytes k.view c.args.view.now) (sym c.self.view_is) ∙ sym c.eq.ensures ∙ c.if-eq.true)
    (ap (λ (k : Kept). k.view) c.self.view_is) (ap (λ (k : Kept). k.names) c.self.view_is)
    (subst (λ (k : Kept). HaveFollowed (count_all line.edits.now) k.watching.watches c.follow_line.new.watches.watches) c.self.view_is e.followed)
    (record { now = subst (λ (s : List Attribute). AreNow s line.after.now.rows c.follow_line.new.watches.watches) line.same_schema e.now; noted = e.noted })
