use Rattle.std.proofs.Common.{length, ap, sym, subst, ◌∙◌}
use Rattle.mk_value.specs.Heading.{IsHeading}
use Rattle.tables.specs.Shapes.{HasHomes}
use Rattle.tables.specs.Tables.{StoredTable, IsTable}
use Rattle.tables.proofs.Gathering.{length-rows_of_columns, AreRowsOf-columns, HasHomes-columns}
use Rattle.tables.proofs.table.Table.len.Goals as goal

pub returns-clause-value : goal.returns-clause-value
returns-clause-value c =
    sym (length-rows_of_columns c.self.inside.rows c.self.inside.schema c.self.inside.cols) ∙ ap (λ (t : StoredTable). length t.rows) c.self.view_is

pub returns-clause-whole : goal.returns-clause-whole
returns-clause-whole c =
    subst IsTable c.self.view_is (record {
      schema = subst IsHeading c.get.ensures c.len-properties.ensures.whole;
      rows = AreRowsOf-columns c.self.inside.rows c.self.inside.schema c.self.inside.cols c.self.invariant;
    })

pub returns-clause-homes : goal.returns-clause-homes
returns-clause-homes c = subst HasHomes c.self.view_is (HasHomes-columns c.self.inside.rows c.self.inside.schema c.self.inside.cols c.self.invariant)
