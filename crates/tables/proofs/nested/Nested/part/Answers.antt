use Rattle.std.proofs.lemmas.Option.{slice_get-get_or}
use Rattle.tables.specs.Pools.{no_table}
use Rattle.tables.proofs.nested.Nested.part.Goals as goal

pub returns : goal.returns
returns c = slice_get-get_or c.args.pool.now c.args.number no_table c.requires
