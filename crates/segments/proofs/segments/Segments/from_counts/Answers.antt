use Rattle.segments.proofs.Counts.{ends_made}
use Rattle.segments.proofs.segments.Segments.from_counts.Goals as goal

pub invariant_of-result : goal.invariant_of-result
invariant_of-result g c =
    (ends_made g.row.MOST c.args.counts.now c.push_ends.new.out.items c.requires.some c.requires.each c.requires.few
    (rw c.new-ends.ensures.items at c.in_ok-push_ends.ensures.items)).0

pub returns : goal.returns
returns g c =
    (ends_made g.row.MOST c.args.counts.now c.push_ends.new.out.items c.requires.some c.requires.each c.requires.few
    (rw c.new-ends.ensures.items at c.in_ok-push_ends.ensures.items)).1
