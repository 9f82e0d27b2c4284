use Rattle.std.proofs.Common.{ap, sym, ◌∙◌}
use Rattle.std.specs.Prelude.{Err}
use Rattle.recovery.specs.Blobs.{parts_of}
use Rattle.recovery.proofs.ReadErrors.{cause_is}
use Rattle.recovery.proofs.StringColumns.{long_column, none_fit, other_rows, read_column, readable_values, whole_column}
use Rattle.recovery.proofs.strings.read_strings.Goals as goal

pub returns-in_err-found-clause-unreadable : goal.returns-in_err-found-clause-unreadable
returns-in_err-found-clause-unreadable g c = λ tells unreadable e is readable.
    let found = readable_values (g.D.Disk.outside c.args.disk.now).now.disk.seen c.args.content (parts_of c.args.blocks c.args.memos.now) c.args.rows e is readable in
    c.in_err-found.ensures.unreadable tells (ap Err (cause_is c.from_residual.result _ c.from_residual.ensures.1 unreadable)) found.values found.at

pub returns-then-not-are_rows_of-clause-unreadable : goal.returns-then-not-are_rows_of-clause-unreadable
returns-then-not-are_rows_of-clause-unreadable g c = λ tells unreadable.
    other_rows (g.D.Disk.outside c.args.disk.now).now.disk.seen c.args.content (parts_of c.args.blocks c.args.memos.now) c.args.rows c.in_ok-found.found.column.values (c.in_ok-found.ensures.values tells)
    (λ in_order. c.if-not-are_rows_of.ensures.other (in_order ∙ sym c.in_ok-memo_rows.ensures ∙ sym c.as_slice.ensures))

pub returns-then-not-all_fit-clause-unreadable : goal.returns-then-not-all_fit-clause-unreadable
returns-then-not-all_fit-clause-unreadable g c = λ tells unreadable.
    none_fit (g.D.Disk.outside c.args.disk.now).now.disk.seen c.args.content (parts_of c.args.blocks c.args.memos.now) c.args.rows c.in_ok-found.found.column.values (c.in_ok-found.ensures.values tells) c.if-not-all_fit.ensures.unfit

pub returns-clause-column : goal.returns-clause-column
returns-clause-column g c = λ tells.
    read_column (g.D.Disk.outside c.args.disk.now).now.disk.seen c.args.content (parts_of c.args.blocks c.args.memos.now) c.args.rows c.in_ok-found.found.column (c.in_ok-found.ensures.values tells)
    (c.if-not-are_rows_of.ensures.same ∙ c.as_slice.ensures ∙ c.in_ok-memo_rows.ensures) c.if-not-all_fit.ensures.fit

pub returns-clause-whole : goal.returns-clause-whole
returns-clause-whole g c =
    whole_column c.args.content (parts_of c.args.blocks c.args.memos.now) c.args.rows c.in_ok-found.found.column c.in_ok-found.ensures.home c.in_ok-found.ensures.counted c.if-not-all_fit.ensures.fit

pub returns-clause-made : goal.returns-clause-made
returns-clause-made g c =
    long_column c.args.content (parts_of c.args.blocks c.args.memos.now) c.args.rows c.in_ok-found.found.column c.in_ok-found.ensures.long
    (c.if-not-are_rows_of.ensures.same ∙ c.as_slice.ensures ∙ c.in_ok-memo_rows.ensures) c.if-not-all_fit.ensures.fit
