use Rattle.std.proofs.Common.{arith}
use Rattle.segments.proofs.Counted.{applies_to_segments}
use Rattle.int_col.proofs.Columns.{replaced_parts}
use Rattle.int_col.proofs.spine.Spine.replaced.Goals as goal

pub replaced-requires : goal.replaced-requires
replaced-requires c = (omega arith, applies_to_segments c.self.inside.segments c.self.inside.ends c.self.invariant.counted c.args.splice.now (rw (← c.self.view_is) at c.requires))

pub returns-clause-covers : goal.returns-clause-covers
returns-clause-covers c =
    rw (← c.self.view_is)
    (replaced_parts c.self.inside.segments c.self.inside.ends c.args.splice.now c.replaced.result c.self.invariant c.replaced.ensures.covers c.replaced.ensures.neighbors).0

pub returns-clause-before : goal.returns-clause-before
returns-clause-before c =
    rw (← c.self.view_is)
    (replaced_parts c.self.inside.segments c.self.inside.ends c.args.splice.now c.replaced.result c.self.invariant c.replaced.ensures.covers c.replaced.ensures.neighbors).1

pub returns-clause-behind : goal.returns-clause-behind
returns-clause-behind c =
    rw (← c.self.view_is)
    (replaced_parts c.self.inside.segments c.self.inside.ends c.args.splice.now c.replaced.result c.self.invariant c.replaced.ensures.covers c.replaced.ensures.neighbors).2
