use Rattle.host_io.proofs.Ranges.{PutsAndSyncs-synced}
use Rattle.aside_disk.proofs.committing.fill.Goals as goal

pub returns-clause-fills : goal.returns-clause-fills
returns-clause-fills g c = λ tells. PutsAndSyncs-synced c.sync.result (c.in_ok-write_body.ensures.writes tells) (c.sync.ensures.syncs tells)
