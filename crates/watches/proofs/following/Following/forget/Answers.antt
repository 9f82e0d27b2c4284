use Rattle.std.proofs.Common.{length, ap, subst, sym, ◌∙◌}
use Rattle.live.proofs.Turning.{written}
use Rattle.watches.specs.Groups.{AreEach, AreWhole, Forgets}
use Rattle.watches.specs.Keeping.{AreKept, Kept, followed}
use Rattle.watches.proofs.Whole.{forgets_kept, forgets_look, look_same, same_whole}
use Rattle.watches.proofs.following.Following.forget.Goals as goal

pub invariant_of-self : goal.invariant_of-self
invariant_of-self c =
    let old = c.args.self.now in
    let new = c.forget_all.new.list in
    let items = c.self.inside.list.items in
    let same = c.deref_mut.ensures.value ∙ c.self.view_is in
    let R : Kept → Kept → Type 0 = Forgets c.args.view.now in
    let each : AreEach R old new = subst (λ ks. AreEach R ks new) same c.forget_all.ensures in
    let back = written c.self.inside.list.len new items (sym c.self.inside.list.ok.0) (each.long ∙ ap length (sym c.self.view_is) ∙ sym c.self.inside.list.ok.0) in
    subst AreWhole (sym back) (same_whole old new (forgets_look c.args.view.now old new each) (subst AreWhole c.self.view_is c.self.invariant))

pub returns-clause-same : goal.returns-clause-same
returns-clause-same c =
    let old = c.args.self.now in
    let new = c.forget_all.new.list in
    let items = c.self.inside.list.items in
    let same = c.deref_mut.ensures.value ∙ c.self.view_is in
    let R : Kept → Kept → Type 0 = Forgets c.args.view.now in
    let each : AreEach R old new = subst (λ ks. AreEach R ks new) same c.forget_all.ensures in
    let back = written c.self.inside.list.len new items (sym c.self.inside.list.ok.0) (each.long ∙ ap length (sym c.self.view_is) ∙ sym c.self.inside.list.ok.0) in
    ap followed back ∙ look_same old new (forgets_look c.args.view.now old new each)

pub returns-clause-kept : goal.returns-clause-kept
returns-clause-kept c views h =
    let old = c.args.self.now in
    let new = c.forget_all.new.list in
    let items = c.self.inside.list.items in
    let same = c.deref_mut.ensures.value ∙ c.self.view_is in
    let R : Kept → Kept → Type 0 = Forgets c.args.view.now in
    let each : AreEach R old new = subst (λ ks. AreEach R ks new) same c.forget_all.ensures in
    let back = written c.self.inside.list.len new items (sym c.self.inside.list.ok.0) (each.long ∙ ap length (sym c.self.view_is) ∙ sym c.self.inside.list.ok.0) in
    subst (AreKept views) (sym back) (forgets_kept c.args.view.now old new each views h)
