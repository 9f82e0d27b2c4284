use Rattle.std.proofs.Common.{length, ap, subst, sym, ◌∙◌}
use Rattle.live.proofs.Turning.{written}
use Rattle.row_edits.specs.Events.{count_of}
use Rattle.watches.specs.Groups.{AreEach, AreWhole, Follows}
use Rattle.watches.specs.Keeping.{AreKept, followed}
use Rattle.watches.proofs.Whole.{line_followed, line_kept, line_whole}
use Rattle.watches.proofs.following.Following.follow.Goals as goal

pub invariant_of-self : goal.invariant_of-self
invariant_of-self c =
    let view = c.args.view.now in
    let n = count_of c.args.edit in
    let schema = c.args.rows.now.schema in
    let after = c.args.rows.now.rows in
    let old = c.args.self.now in
    let new = c.follow_all.new.list in
    let items = c.self.inside.list.items in
    let same = c.deref_mut.ensures.value ∙ c.self.view_is in
    let each : AreEach (Follows view n schema after) old new = subst (λ ks. AreEach (Follows view n schema after) ks new) same c.follow_all.ensures in
    let back = written c.self.inside.list.len new items (sym c.self.inside.list.ok.0) (each.long ∙ ap length (sym c.self.view_is) ∙ sym c.self.inside.list.ok.0) in
    subst AreWhole (sym back) (line_whole view n old new (line_followed view n schema after after old new each) (subst AreWhole c.self.view_is c.self.invariant))

pub returns-clause-followed : goal.returns-clause-followed
returns-clause-followed c =
    let view = c.args.view.now in
    let n = count_of c.args.edit in
    let schema = c.args.rows.now.schema in
    let after = c.args.rows.now.rows in
    let old = c.args.self.now in
    let new = c.follow_all.new.list in
    let items = c.self.inside.list.items in
    let same = c.deref_mut.ensures.value ∙ c.self.view_is in
    let each : AreEach (Follows view n schema after) old new = subst (λ ks. AreEach (Follows view n schema after) ks new) same c.follow_all.ensures in
    let back = written c.self.inside.list.len new items (sym c.self.inside.list.ok.0) (each.long ∙ ap length (sym c.self.view_is) ∙ sym c.self.inside.list.ok.0) in
    ap followed back ∙ line_followed view n schema after after old new each

pub returns-clause-kept : goal.returns-clause-kept
returns-clause-kept c before views others h change =
    let view = c.args.view.now in
    let n = count_of c.args.edit in
    let schema = c.args.rows.now.schema in
    let after = c.args.rows.now.rows in
    let old = c.args.self.now in
    let new = c.follow_all.new.list in
    let items = c.self.inside.list.items in
    let same = c.deref_mut.ensures.value ∙ c.self.view_is in
    let each : AreEach (Follows view n schema after) old new = subst (λ ks. AreEach (Follows view n schema after) ks new) same c.follow_all.ensures in
    let back = written c.self.inside.list.len new items (sym c.self.inside.list.ok.0) (each.long ∙ ap length (sym c.self.view_is) ∙ sym c.self.inside.list.ok.0) in
    subst (AreKept others) (sym back) (line_kept view n schema before after old new each views others h change)
