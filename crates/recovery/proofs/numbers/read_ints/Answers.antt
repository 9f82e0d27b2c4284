use Rattle.std.proofs.Common.{◌∙◌}
use Rattle.recovery.proofs.NumberBlocks.{no_numbers}
use Rattle.recovery.proofs.ReadErrors.{cause_is}
use Rattle.recovery.proofs.numbers.read_ints.Goals as goal

pub returns-in_err-column-clause-unreadable : goal.returns-in_err-column-clause-unreadable
returns-in_err-column-clause-unreadable g c = λ tells unreadable.
    no_numbers (g.D.Disk.outside c.args.disk.now).now.disk.seen c.as_slice.result.now c.args.width c.args.block c.args.rows c.in_err-column.field-0.0
    (c.as_slice.ensures ∙ c.in_ok-bytes.ensures.bytes tells) c.in_err-column.ensures.refused
    (cause_is c.from_residual-in_err-column.result _ c.from_residual-in_err-column.ensures.1 unreadable)
