use Rattle.std.proofs.Common.{◌≡◌, subst, sym, ◌∙◌, length, ap, List}
use Rattle.live.proofs.Turning.{written}
use Rattle.kept_counts.specs.Following.{AreEach, FollowsOn}
use Rattle.kept_counts.specs.Keeping.{AllHaveNoted, AreCounted, AreCountedOver, Counted, is_kept}
use Rattle.kept_counts.proofs.Holding.{follows_each, follows_kept, follows_over, follows_stays}
use Rattle.kept_counts.proofs.cache.KeptCounts.follow.Goals as goal

pub follow_all-requires : goal.follow_all-requires
follow_all-requires c = record {
  noted = (
    c.requires.noted.0,
    subst (AllHaveNoted c.args.view.now c.args.rows.now.schema c.requires.noted.0 c.args.edit) (sym (c.deref_mut.ensures.value ∙ c.self.view_is)) c.requires.noted.1,
    c.requires.noted.2,
  );
}

pub returns-clause-over : goal.returns-clause-over
returns-clause-over c =
    let view = c.args.view.now in
    let schema = c.args.rows.now.schema in
    let rows = c.args.rows.now.rows in
    let old = c.args.self.now in
    let new = c.follow_all.new.list in
    let items = c.self.inside.list.items in
    let same = c.deref_mut.ensures.value ∙ c.self.view_is in
    let R : Counted → Counted → Type 0 = FollowsOn view schema rows in
    let each : AreEach R old new = subst (λ ks. AreEach R ks new) same c.follow_all.ensures in
    let back = written c.self.inside.list.len new items (sym c.self.inside.list.ok.0) (each.long ∙ ap length (sym c.self.view_is) ∙ sym c.self.inside.list.ok.0) in
    subst (AreCountedOver view schema rows) (sym back) (follows_over view schema rows old new (follows_each view schema rows old new each))

pub returns-clause-kept : goal.returns-clause-kept
returns-clause-kept c before was is h change =
    let view = c.args.view.now in
    let schema = c.args.rows.now.schema in
    let rows = c.args.rows.now.rows in
    let old = c.args.self.now in
    let new = c.follow_all.new.list in
    let items = c.self.inside.list.items in
    let same = c.deref_mut.ensures.value ∙ c.self.view_is in
    let R : Counted → Counted → Type 0 = FollowsOn view schema rows in
    let each : AreEach R old new = subst (λ ks. AreEach R ks new) same c.follow_all.ensures in
    let back = written c.self.inside.list.len new items (sym c.self.inside.list.ok.0) (each.long ∙ ap length (sym c.self.view_is) ∙ sym c.self.inside.list.ok.0) in
    subst (AreCounted is) (sym back) (follows_kept view schema rows old new (follows_each view schema rows old new each) before was is h change)

pub returns-clause-stays : goal.returns-clause-stays
returns-clause-stays c name what =
    let view = c.args.view.now in
    let schema = c.args.rows.now.schema in
    let rows = c.args.rows.now.rows in
    let old = c.args.self.now in
    let new = c.follow_all.new.list in
    let items = c.self.inside.list.items in
    let same = c.deref_mut.ensures.value ∙ c.self.view_is in
    let R : Counted → Counted → Type 0 = FollowsOn view schema rows in
    let each : AreEach R old new = subst (λ ks. AreEach R ks new) same c.follow_all.ensures in
    let back = written c.self.inside.list.len new items (sym c.self.inside.list.ok.0) (each.long ∙ ap length (sym c.self.view_is) ∙ sym c.self.inside.list.ok.0) in
    ap (λ (all : List Counted). is_kept all name what) back ∙ follows_stays view schema rows old new each name what
