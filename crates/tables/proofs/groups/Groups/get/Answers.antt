use Rattle.std.proofs.Common.{arith}
use Rattle.segments.proofs.Counted.{segments_len}
use Rattle.segments.proofs.Grouped.{part_is}
use Rattle.tables.proofs.groups.Groups.get.Goals as goal

pub find-place-requires : goal.find-place-requires
find-place-requires c =
    (omega arith, omega (arith, segments_len c.self.inside.groups.items c.self.inside.ends c.self.invariant, rw (← c.self.view_is) at c.requires))

pub returns : goal.returns
returns c =
    rw (← c.self.view_is)
    (part_is c.self.inside.groups.items c.self.inside.ends c.args.k c.find-place.result c.index-group.result.now c.self.invariant c.find-place.ensures c.index-group.ensures
    c.get.result.now c.get.ensures)
