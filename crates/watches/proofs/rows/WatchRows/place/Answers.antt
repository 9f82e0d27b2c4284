use Rattle.std.proofs.Common.{◌<◌, [], get_or, length, ap, subst, sym, ◌∙◌}
use Rattle.live.specs.Numbers.{place_of}
use Rattle.watches.proofs.Read.{row_kept, row_read}
use Rattle.watches.proofs.rows.WatchRows.place.Goals as goal

pub at-requires-clause-row_in : goal.at-requires-clause-row_in
at-requires-clause-row_in c =
    let w = c.args.self.now in
    row_kept w.rows.now.schema w.rows.now.rows w.watches.now.watches (place_of w.watches.now.watches w.number) w.kept w.there c.args.row c.requires

pub returns-clause-within : goal.returns-clause-within
returns-clause-within c =
    let w = c.args.self.now in
    let read = row_read w.rows.now.schema w.rows.now.rows w.watches.now.watches (place_of w.watches.now.watches w.number) w.kept w.there c.args.row c.requires in
    subst (λ i. i < length w.rows.now.rows) (sym c.at.ensures) read.0

pub returns-clause-value : goal.returns-clause-value
returns-clause-value c =
    let w = c.args.self.now in
    let read = row_read w.rows.now.schema w.rows.now.rows w.watches.now.watches (place_of w.watches.now.watches w.number) w.kept w.there c.args.row c.requires in
    ap (λ i. get_or w.rows.now.rows i []) c.at.ensures ∙ read.1
