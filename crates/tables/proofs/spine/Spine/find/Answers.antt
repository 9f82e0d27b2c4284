use Rattle.std.proofs.Common.{List, ℕ, subst, arith}
use Rattle.segments.specs.Segments.{IsPlace}
use Rattle.segments.proofs.Counted.{segments_len, segments_count}
use Rattle.tables.proofs.spine.Spine.find.Goals as goal

pub find-requires : goal.find-requires
find-requires c =
    omega (arith, segments_len c.self.inside.chunks c.self.inside.ends c.self.invariant.counted, rw (← c.self.view_is) at c.requires)

pub returns-clause-in_range : goal.returns-clause-in_range
returns-clause-in_range c =
    rw (← c.self.view_is)
    (omega (arith, c.find.ensures.segment, segments_count c.self.inside.chunks c.self.inside.ends c.self.invariant.counted))

pub returns-clause-place : goal.returns-clause-place
returns-clause-place c =
    let P : List ℕ → Type 0 = λ cs. IsPlace cs c.args.at c.find.result in
    rw (← c.self.view_is) (subst P c.self.invariant.counted c.find.ensures)
