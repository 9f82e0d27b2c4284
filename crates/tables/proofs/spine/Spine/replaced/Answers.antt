use Rattle.std.proofs.Common.{List, ℕ, subst, arith}
use Rattle.segments.specs.Splices.{Covers}
use Rattle.segments.proofs.Counted.{applies_to_segments}
use Rattle.tables.proofs.spine.Spine.replaced.Goals as goal

pub replaced-requires : goal.replaced-requires
replaced-requires c = (omega arith, applies_to_segments c.self.inside.chunks c.self.inside.ends c.self.invariant.counted c.args.splice.now (rw (← c.self.view_is) at c.requires))

pub returns : goal.returns
returns c =
    let P : List ℕ → Type 0 = λ cs. Covers cs c.args.splice.now c.replaced.result in
    rw (← c.self.view_is) (subst P c.self.invariant.counted c.replaced.ensures.covers)
