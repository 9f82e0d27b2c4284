use Rattle.std.proofs.Common.{ap, subst, sym, ◌∙◌}
use Rattle.watches.specs.Groups.{AreWhole}
use Rattle.watches.specs.Keeping.{IsKept, Kept, followed, followed_of}
use Rattle.watches.specs.Refusals.{depth_under}
use Rattle.watches.specs.Watches.{is_among, source_in}
use Rattle.watches.proofs.Depths.{depth_named}
use Rattle.watches.proofs.Finding.{found_in}
use Rattle.watches.proofs.Shown.{absent_at, named_at}
use Rattle.watches.proofs.following.Following.depth.Goals as goal

pub depth-requires-clause-there : goal.depth-requires-clause-there
depth-requires-clause-there c =
    (named_at c.args.self.now c.self.inside.list.items c.deref.result.now c.args.name.now c.in-Some.at c.index.result.now c.self.view_is c.deref.ensures.value (sym c.find.ensures ∙ c.in-Some.is) c.index.ensures).has

pub depth-requires-clause-order : goal.depth-requires-clause-order
depth-requires-clause-order c =
    let name = c.args.name.now in
    let k = c.index.result.now in
    let named = named_at c.args.self.now c.self.inside.list.items c.deref.result.now name c.in-Some.at k c.self.view_is c.deref.ensures.value (sym c.find.ensures ∙ c.in-Some.is) c.index.ensures in
    let kept = found_in (λ (k : Kept). is_among (followed_of k).watches name) (IsKept c.requires.0) c.args.self.now k c.requires.1 named.first in
    kept.over.now.sources

pub returns-in-Some : goal.returns-in-Some
returns-in-Some c =
    depth_named c.args.self.now c.self.inside.list.items c.deref.result.now c.args.name.now c.in-Some.at c.index.result.now c.depth.result (subst AreWhole c.self.view_is c.self.invariant)
    c.self.view_is c.deref.ensures.value (sym c.find.ensures ∙ c.in-Some.is) c.index.ensures c.depth.ensures

pub returns-in-None : goal.returns-in-None
returns-in-None c =
    let name = c.args.name.now in
    let absent = absent_at c.args.self.now c.self.inside.list.items c.deref.result.now name c.self.view_is c.deref.ensures.value (sym c.find.ensures ∙ c.in-None.is) in
    sym (ap (λ o. depth_under (followed c.args.self.now) (source_in o name)) absent.0)
