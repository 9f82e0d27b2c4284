use Rattle.std.proofs.Common.{◌≡◌, sum, ap, ◌∙◌, arith}
use Rattle.segments.specs.Joined.{counts_of}
use Rattle.segments.proofs.Joined.{length-joined}
use Rattle.int_col.proofs.Grown.{segments_few}
use Rattle.int_col.proofs.spine.Spine.of_segments.Goals as goal

pub from_counts-requires : goal.from_counts-requires
from_counts-requires c =
    let counted : sum c.deref-2.result.now ≡ sum (counts_of c.args.segments.items) =
    ap sum (c.deref-2.ensures.value ∙ rw c.deref.ensures.value at c.in_ok-counts.ensures.counts) in (
      omega arith,
      (omega arith, (rw c.deref-2.ensures.value c.in_ok-counts.ensures.few, omega (arith, c.requires.few, length-joined c.args.segments.items))),
    )

pub from_parts-requires : goal.from_parts-requires
from_parts-requires c = segments_few c.args.segments.items (record { cut = c.requires.cut; few = c.requires.few })
