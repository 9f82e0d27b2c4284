use Rattle.std.proofs.Common.{All, length, ap, subst, arith}
use Rattle.tables.specs.Shapes.{HasHomes}
use Rattle.tables.proofs.Placed.{all_homed}
use Rattle.tables.proofs.Pools.{length-parts_from}
use Rattle.tables.proofs.pool.Pool.len.Goals as goal

pub returns-clause-len : goal.returns-clause-len
returns-clause-len c =
    omega (arith, length-parts_from c.self.inside.table.schema c.self.inside.table.rows 0 c.self.inside.ends.items c.self.inside.blocks.items, ap length c.self.view_is)

pub returns-clause-homes : goal.returns-clause-homes
returns-clause-homes c =
    all_homed c.self.inside.table c.self.inside.ends.items c.self.inside.blocks.items c.args.self.now c.self.view_is c.self.invariant

pub returns-clause-shaped : goal.returns-clause-shaped
returns-clause-shaped c = subst (All HasHomes) c.self.view_is c.self.invariant.shaped
