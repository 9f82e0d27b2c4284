use Rattle.tables.proofs.Cells.{IfOk-then}
use Rattle.commit_plan.proofs.Settled.{strings_given}
use Rattle.commit_plan.proofs.settling.settle_blobs.Goals as goal

pub returns-in-None : goal.returns-in-None
returns-in-None c = IfOk-then c.blobs_at.result c.blobs_at.ensures (λ d given. strings_given c.args.column.now d c.args.places.now c.blobs_at.new.places c.in-None.ensures.none given)
