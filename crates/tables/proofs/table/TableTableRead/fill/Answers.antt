use Rattle.std.proofs.Common.{◌∙◌, ap, sym, map, take, drop, length}
use Rattle.mk_value.specs.Tables.{number_in}
use Rattle.tables.proofs.Reading.{column_numbers-column_of}
use Rattle.tables.proofs.table.TableTableRead.fill.Goals as goal

pub returns : goal.returns
returns c =
    c.fill.ensures
    ∙ ap (λ zs. take (length c.args.into.now) (drop c.args.from zs))
    (ap (λ values. map number_in values) c.column.ensures.values ∙ sym (column_numbers-column_of c.args.self.now.rows c.args.col))
