use Rattle.std.proofs.Common.{◌∙◌, ap}
use Rattle.host_io.specs.Outside.{Moment}
use Rattle.host_io.specs.Ranges.{bytes_in}
use Rattle.commit_writes.specs.Blocks.{span_range}
use Rattle.recovery.specs.Blobs.{parts_of}
use Rattle.recovery.specs.Memos.{memo_bytes}
use Rattle.recovery.proofs.ReadErrors.{cause_is}
use Rattle.recovery.proofs.StringBlocks.{no_values}
use Rattle.recovery.proofs.strings.read_values.Goals as goal

pub returns-in_err-column-clause-unreadable : goal.returns-in_err-column-clause-unreadable
returns-in_err-column-clause-unreadable g c = λ tells unreadable.
    let still = (c.in_ok-sizes.ensures.same tells).still.now in
    no_values (g.D.Disk.outside c.args.disk.now).now.disk.seen (parts_of c.args.blocks c.args.memos.now) c.args.rows _ _ _ c.in_err-column.field-0.0
    (c.in_ok-sizes.ensures.values tells)
    (c.as_slice.ensures ∙ c.in_ok-short.ensures.bytes tells ∙ ap (λ (m : Moment). bytes_in m.disk.seen (span_range c.args.blocks.short)) still)
    (c.in_ok-held.ensures.bytes tells ∙ ap (λ (m : Moment). memo_bytes m.disk.seen c.args.memos.now) ((c.in_ok-short.ensures.same tells).still.now ∙ still))
    c.in_err-column.ensures.refused
    (cause_is c.from_residual-in_err-column.result _ c.from_residual-in_err-column.ensures.1 unreadable)
