use Rattle.std.proofs.Common.{subst}
use Rattle.mk_value.specs.Heading.{IsHeading}
use Rattle.tables.specs.Shapes.{HasHomes}
use Rattle.tables.specs.Tables.{IsTable}
use Rattle.tables.proofs.Gathering.{AreRowsOf-columns, HasHomes-columns}
use Rattle.tables.proofs.table.Table.width.Goals as goal

pub returns-clause-whole : goal.returns-clause-whole
returns-clause-whole c =
    subst IsTable c.self.view_is (record {
      schema = subst IsHeading c.get.ensures c.len.ensures.whole;
      rows = AreRowsOf-columns c.self.inside.rows c.self.inside.schema c.self.inside.cols c.self.invariant;
    })

pub returns-clause-homes : goal.returns-clause-homes
returns-clause-homes c = subst HasHomes c.self.view_is (HasHomes-columns c.self.inside.rows c.self.inside.schema c.self.inside.cols c.self.invariant)
