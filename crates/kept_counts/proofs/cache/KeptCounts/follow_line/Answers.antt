use Rattle.std.proofs.Common.{subst, sym, ◌∙◌, length, ap}
use Rattle.live.proofs.Turning.{written}
use Rattle.kept_counts.specs.Following.{AreEach, Follows}
use Rattle.kept_counts.specs.Keeping.{AreCounted, AreCountedOver, Counted}
use Rattle.kept_counts.proofs.Holding.{follows_kept, follows_over}
use Rattle.kept_counts.proofs.cache.KeptCounts.follow_line.Goals as goal

pub follow_line_all-requires : goal.follow_line_all-requires
follow_line_all-requires c = record {
  kept = subst (AreCountedOver c.args.view.now c.args.line.now.before.now.schema c.args.line.now.before.now.rows) (sym (c.deref_mut.ensures.value ∙ c.self.view_is)) c.requires.kept;
}

pub returns-clause-over : goal.returns-clause-over
returns-clause-over c =
    let view = c.args.view.now in
    let schema = c.args.line.now.before.now.schema in
    let rows = c.args.line.now.after.now.rows in
    let old = c.args.self.now in
    let new = c.follow_line_all.new.list in
    let items = c.self.inside.list.items in
    let same = c.deref_mut.ensures.value ∙ c.self.view_is in
    let R : Counted → Counted → Type 0 = Follows view schema rows in
    let each : AreEach R old new = subst (λ ks. AreEach R ks new) same c.follow_line_all.ensures in
    let back = written c.self.inside.list.len new items (sym c.self.inside.list.ok.0) (each.long ∙ ap length (sym c.self.view_is) ∙ sym c.self.inside.list.ok.0) in
    subst (AreCountedOver view schema rows) (sym back) (follows_over view schema rows old new each)

pub returns-clause-kept : goal.returns-clause-kept
returns-clause-kept c was is h change =
    let view = c.args.view.now in
    let schema = c.args.line.now.before.now.schema in
    let rows = c.args.line.now.after.now.rows in
    let old = c.args.self.now in
    let new = c.follow_line_all.new.list in
    let items = c.self.inside.list.items in
    let same = c.deref_mut.ensures.value ∙ c.self.view_is in
    let R : Counted → Counted → Type 0 = Follows view schema rows in
    let each : AreEach R old new = subst (λ ks. AreEach R ks new) same c.follow_line_all.ensures in
    let back = written c.self.inside.list.len new items (sym c.self.inside.list.ok.0) (each.long ∙ ap length (sym c.self.view_is) ∙ sym c.self.inside.list.ok.0) in
    subst (AreCounted is) (sym back) (follows_kept view schema rows old new each c.args.line.now.before.now.rows was is h change)
