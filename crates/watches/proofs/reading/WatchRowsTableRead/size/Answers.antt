use Rattle.std.proofs.Common.{sym, ◌∙◌}
use Rattle.live.specs.Numbers.{place_of}
use Rattle.watches.proofs.Grouped.{any_watch}
use Rattle.watches.proofs.Read.{rows_fit, size_read}
use Rattle.watches.proofs.reading.WatchRowsTableRead.size.Goals as goal

pub returns-clause-value : goal.returns-clause-value
returns-clause-value c =
    let w = c.args.self.now in
    c.len.ensures any_watch ∙ sym (size_read w.rows.now.schema w.rows.now.rows w.watches.now.watches (place_of w.watches.now.watches w.number) w.kept w.there any_watch)

pub returns-clause-whole : goal.returns-clause-whole
returns-clause-whole c =
    let w = c.args.self.now in
    rows_fit w.rows.now.schema w.rows.now.rows w.watches.now.watches (place_of w.watches.now.watches w.number) w.kept w.there c.size-size.ensures.whole
