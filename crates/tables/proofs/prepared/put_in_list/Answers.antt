use Rattle.mk_value.specs.Kinds.{domain_of}
use Rattle.tables.proofs.Pushed.{ready_list}
use Rattle.tables.proofs.prepared.put_in_list.Goals as goal

pub returns-in-Ok-clause-ok : goal.returns-in-Ok-clause-ok
returns-in-Ok-clause-ok c =
    ready_list (domain_of c.args.kind.now) c.args.rows c.args.inner.now c.args.list c.in-Ok.longer c.requires.fits c.requires.whole c.in-Ok.ensures.ok
