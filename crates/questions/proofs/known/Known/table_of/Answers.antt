use Rattle.questions.proofs.Found.{stored_otherwise, stored_view}
use Rattle.questions.proofs.known.Known.table_of.Goals as goal

pub returns-in-Some : goal.returns-in-Some
returns-in-Some c = stored_view c.args.self.now.views c.args.self.now.snapshots c.args.name.now c.in-Some.table.now c.in-Some.ensures

pub returns-in-None : goal.returns-in-None
returns-in-None c =
    stored_otherwise c.args.self.now.views c.args.self.now.snapshots c.args.name.now c.snapshot_of.result (λ t. t.now) c.in-None.ensures c.snapshot_of.ensures
