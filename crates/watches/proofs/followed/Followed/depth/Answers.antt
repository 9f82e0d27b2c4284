use Rattle.std.proofs.Common.{◌≡◌, length, Some, ap, subst, sym, ◌∙◌, arith}
use Rattle.live.specs.Chains.{AreInOrder, depth}
use Rattle.watches.specs.Keeping.{Kept}
use Rattle.watches.proofs.Grouped.{IsNamed, name_place}
use Rattle.watches.proofs.Showing.{depth_is}
use Rattle.watches.proofs.followed.Followed.depth.Goals as goal

pub depth_of-requires-clause-order : goal.depth_of-requires-clause-order
depth_of-requires-clause-order c = subst (λ (k : Kept). AreInOrder k.watching.watches) (sym c.self.view_is) c.requires.order

pub depth_of-requires-clause-there : goal.depth_of-requires-clause-there
depth_of-requires-clause-there c x e =
    let named = subst IsNamed c.self.view_is c.self.invariant in
    let k = c.args.self.now in
    let same : c.place.result ≡ x = cc in
    let within = c.place.ensures.within in
    let paired = named.paired in
    let long = ap (λ (k : Kept). length k.watching.watches) c.self.view_is in
    omega (arith, same, within, paired, long)

pub returns : goal.returns
returns c =
    let k = c.args.self.now in
    let named = subst IsNamed c.self.view_is c.self.invariant in
    c.depth_of.ensures.value ∙ ap (λ (k : Kept). depth k.watching.watches (Some c.place.result)) c.self.view_is
    ∙ ap (λ place. depth k.watching.watches (Some place)) c.place.ensures.value
    ∙ sym (depth_is k.names k.watching.watches (Some (name_place k c.args.name.now)) named.paired)
