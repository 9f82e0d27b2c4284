use Rattle.std.proofs.Common.{subst, sym, ◌∙◌, length, ap}
use Rattle.live.proofs.Turning.{written}
use Rattle.kept_counts.specs.Following.{AreEach, Forgets}
use Rattle.kept_counts.specs.Keeping.{AreCounted, NoneIsKept}
use Rattle.kept_counts.proofs.Holding.{forgets_gone, forgets_kept}
use Rattle.kept_counts.proofs.cache.KeptCounts.forget.Goals as goal

pub returns-clause-gone : goal.returns-clause-gone
returns-clause-gone c =
    let view = c.args.view.now in
    let old = c.args.self.now in
    let new = c.forget_all.new.list in
    let items = c.self.inside.list.items in
    let same = c.deref_mut.ensures.value ∙ c.self.view_is in
    let each : AreEach (Forgets view) old new = subst (λ ks. AreEach (Forgets view) ks new) same c.forget_all.ensures in
    let back = written c.self.inside.list.len new items (sym c.self.inside.list.ok.0) (each.long ∙ ap length (sym c.self.view_is) ∙ sym c.self.inside.list.ok.0) in
    subst (NoneIsKept view) (sym back) (forgets_gone view old new each)

pub returns-clause-kept : goal.returns-clause-kept
returns-clause-kept c before after h others =
    let view = c.args.view.now in
    let old = c.args.self.now in
    let new = c.forget_all.new.list in
    let items = c.self.inside.list.items in
    let same = c.deref_mut.ensures.value ∙ c.self.view_is in
    let each : AreEach (Forgets view) old new = subst (λ ks. AreEach (Forgets view) ks new) same c.forget_all.ensures in
    let back = written c.self.inside.list.len new items (sym c.self.inside.list.ok.0) (each.long ∙ ap length (sym c.self.view_is) ∙ sym c.self.inside.list.ok.0) in
    subst (AreCounted after) (sym back) (forgets_kept view old new each before after h others)
