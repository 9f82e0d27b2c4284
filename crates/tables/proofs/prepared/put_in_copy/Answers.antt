use Rattle.mk_value.specs.Kinds.{domain_of}
use Rattle.tables.proofs.Pushed.{ready_table}
use Rattle.tables.proofs.prepared.put_in_copy.Goals as goal

pub returns-in-Ok-new-clause-ok : goal.returns-in-Ok-new-clause-ok
returns-in-Ok-new-clause-ok c =
    ready_table (domain_of c.args.kind.now) c.args.rows c.args.inner.now c.args.tables c.in-Ok.longer c.in-Ok-new.copied c.in-Ok-new.ensures.ok c.requires.fits c.requires.whole c.in-Ok.ensures
