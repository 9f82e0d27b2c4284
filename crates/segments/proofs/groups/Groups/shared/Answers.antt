use Rattle.std.proofs.Common.{get_or, ap, ◌∙◌, arith}
use Rattle.segments.proofs.Counted.{segments_len}
use Rattle.segments.proofs.Grouped.{part_is}
use Rattle.segments.proofs.groups.Groups.shared.Goals as goal

pub find-place-requires : goal.find-place-requires
find-place-requires g c =
    (omega arith, omega (arith, segments_len c.self.inside.groups.items c.self.inside.ends c.self.invariant, rw (← c.self.view_is) at c.requires))

pub returns : goal.returns
returns g c =
    let part = c.index-2.result.now in
    rw (← c.self.view_is)
    (part_is c.self.inside.groups.items c.self.inside.ends c.args.k c.find-place.result c.index.result.now c.self.invariant c.find-place.ensures c.index.ensures
    part (c.index-2.ensures ∙ ap (λ xs. get_or xs c.find-place.result.offset part) (c.group.view_is ∙ c.get-group.ensures)))
