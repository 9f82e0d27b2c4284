use Rattle.std.proofs.Common.{ap, map, ◌∙◌}
use Rattle.live.specs.declared.op.WatchOp.TheVariants.{Sort}
use Rattle.grouping.proofs.KeyColumns.{keys_here}
use Rattle.relations.specs.Rows.{once}
use Rattle.live_counts.proofs.Operating.{key_of, keys_named, runs_are}
use Rattle.live_counts.proofs.Spans.{with_kept, with_starts}
use Rattle.live_counts.proofs.laws.counts_are_the_operator.Goals as goal

pub returns : goal.returns
returns c = λ keys count t counts whole here plain h is.
    let named = is ∙ ap Sort (keys_named t.schema (once keys) (keys_here t.schema keys here)) in
    let kept = with_kept t.schema (map key_of (once keys)) t.rows counts h named in
    let places = with_starts t.schema (map key_of (once keys)) t.rows counts h named in
    rw (kept, places) (runs_are t keys count whole here plain)
