use Rattle.std.proofs.Common.{length, ap, subst, sym, ◌∙◌}
use Rattle.live.proofs.Turning.{written}
use Rattle.watches.specs.Groups.{AreEach, AreWhole, Stays}
use Rattle.watches.specs.Keeping.{AreKept, followed}
use Rattle.watches.proofs.Whole.{stays_followed, stays_kept, stays_whole}
use Rattle.watches.proofs.following.Following.reserve.Goals as goal

pub invariant_of-self : goal.invariant_of-self
invariant_of-self c =
    let old = c.args.self.now in
    let new = c.reserve_all.new.list in
    let items = c.self.inside.list.items in
    let same = c.deref_mut.ensures.value ∙ c.self.view_is in
    let each : AreEach Stays old new = subst (λ ks. AreEach Stays ks new) same c.reserve_all.ensures.stay in
    let back = written c.self.inside.list.len new items (sym c.self.inside.list.ok.0) (each.long ∙ ap length (sym c.self.view_is) ∙ sym c.self.inside.list.ok.0) in
    subst AreWhole (sym back) (stays_whole old new each (subst AreWhole c.self.view_is c.self.invariant))

pub returns-clause-same : goal.returns-clause-same
returns-clause-same c =
    let old = c.args.self.now in
    let new = c.reserve_all.new.list in
    let items = c.self.inside.list.items in
    let same = c.deref_mut.ensures.value ∙ c.self.view_is in
    let each : AreEach Stays old new = subst (λ ks. AreEach Stays ks new) same c.reserve_all.ensures.stay in
    let back = written c.self.inside.list.len new items (sym c.self.inside.list.ok.0) (each.long ∙ ap length (sym c.self.view_is) ∙ sym c.self.inside.list.ok.0) in
    ap followed back ∙ stays_followed old new each

pub returns-clause-kept : goal.returns-clause-kept
returns-clause-kept c views h =
    let old = c.args.self.now in
    let new = c.reserve_all.new.list in
    let items = c.self.inside.list.items in
    let same = c.deref_mut.ensures.value ∙ c.self.view_is in
    let each : AreEach Stays old new = subst (λ ks. AreEach Stays ks new) same c.reserve_all.ensures.stay in
    let back = written c.self.inside.list.len new items (sym c.self.inside.list.ok.0) (each.long ∙ ap length (sym c.self.view_is) ∙ sym c.self.inside.list.ok.0) in
    subst (AreKept views) (sym back) (stays_kept old new views each h)
