use Rattle.tables.proofs.Reading.{table_again, columns_again}
use Rattle.tables.proofs.table.Table.cols.Goals as goal

pub returns-clause-value : goal.returns-clause-value
returns-clause-value c = table_again c.self.inside.rows c.self.inside.schema c.self.inside.cols c.args.self.now c.self.view_is

pub returns-clause-whole : goal.returns-clause-whole
returns-clause-whole c = columns_again c.self.inside.rows c.self.inside.schema c.self.inside.cols c.args.self.now c.self.view_is c.self.invariant
