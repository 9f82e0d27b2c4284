use Rattle.live_counts.proofs.Spans.{counted_run, keys_rise, with_kept, with_starts}
use Rattle.live_counts.proofs.laws.runs_count_rows.Goals as goal

pub returns : goal.returns
returns c = record {
  rise = λ schema keys rows counts i k h is p q.
      let kept = with_kept schema keys rows counts h is in
      let places = with_starts schema keys rows counts h is in
      rw (kept, places) (keys_rise schema keys rows i k p (rw places at q));
  count = λ schema keys rows counts i h is p.
      let kept = with_kept schema keys rows counts h is in
      let places = with_starts schema keys rows counts h is in
      rw (kept, places) (counted_run schema keys rows i (rw places at p));
}
