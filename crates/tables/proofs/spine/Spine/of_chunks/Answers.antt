use Rattle.std.proofs.Common.{◌≡◌, ◌≤◌, sum, ap, ◌∙◌, arith}
use Rattle.std.proofs.lemmas.List.Elements.{All-same}
use Rattle.segments.specs.Joined.{counts_of}
use Rattle.segments.proofs.Joined.{length-joined}
use Rattle.tables.proofs.Chunks.{few_chunks}
use Rattle.tables.proofs.spine.Spine.of_chunks.Goals as goal

pub of_chunks-requires : goal.of_chunks-requires
of_chunks-requires c = omega (arith, few_chunks c.args.chunks.items c.requires.some, c.requires.few)

pub from_counts-requires : goal.from_counts-requires
from_counts-requires c =
    let counted : c.deref-2.result.now ≡ counts_of c.args.chunks.items = c.deref-2.ensures.value ∙ rw c.deref.ensures.value at c.in_ok-counts.ensures in (
      omega arith,
      (
        omega arith,
        (
          All-same (λ n. n ≤ 1024) c.deref-2.result.now (counts_of c.args.chunks.items) counted c.requires.each,
          omega (arith, ap sum counted, c.requires.few, length-joined c.args.chunks.items),
        ),
      ),
    )
