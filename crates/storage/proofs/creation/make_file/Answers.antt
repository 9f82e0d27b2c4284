use Rattle.host_io.proofs.Moments.{joins}
use Rattle.storage.proofs.Making.{sync_moments, write_moments}
use Rattle.storage.proofs.creation.make_file.Goals as goal

pub returns-in_err-write_at-clause-moments : goal.returns-in_err-write_at-clause-moments
returns-in_err-write_at-clause-moments g c = λ tells. write_moments (c.in_err-write_at.ensures.writes tells)

pub returns-clause-moments : goal.returns-clause-moments
returns-clause-moments g c = λ tells.
    let written = c.in_ok-write_at.ensures.writes tells in
    joins (write_moments written) (sync_moments c.sync.result (g.D.Disk.outside c.args.disk.now) written.ok.1.said (c.sync.ensures.syncs tells))
