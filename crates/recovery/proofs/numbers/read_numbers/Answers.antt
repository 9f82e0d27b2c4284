use Rattle.std.proofs.Common.{ap}
use Rattle.std.specs.Prelude.{Err}
use Rattle.recovery.proofs.NumberColumns.{long_column, read_column, read_numbers, whole_column}
use Rattle.recovery.proofs.ReadErrors.{cause_is}
use Rattle.recovery.proofs.numbers.read_numbers.Goals as goal

pub returns-in_err-column-clause-unreadable : goal.returns-in_err-column-clause-unreadable
returns-in_err-column-clause-unreadable g c = λ tells unreadable e is readable.
    let found = read_numbers (g.D.Disk.outside c.args.disk.now).now.disk.seen c.args.width c.args.block c.args.rows e is readable in
    c.in_err-column.ensures.unreadable tells (ap Err (cause_is c.from_residual.result _ c.from_residual.ensures.1 unreadable)) found.0 found.1

pub returns-clause-column : goal.returns-clause-column
returns-clause-column g c = λ tells.
    read_column (g.D.Disk.outside c.args.disk.now).now.disk.seen c.args.width c.args.block c.args.rows c.in_ok-column.column (c.in_ok-column.ensures.values tells)

pub returns-clause-whole : goal.returns-clause-whole
returns-clause-whole g c = whole_column c.args.width c.args.block c.args.rows c.in_ok-column.column c.in_ok-column.ensures.held

pub returns-clause-made : goal.returns-clause-made
returns-clause-made g c = long_column c.args.width c.args.block c.args.rows c.in_ok-column.column c.in_ok-column.ensures.packed
