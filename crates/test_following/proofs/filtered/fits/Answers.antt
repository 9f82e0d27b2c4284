use Rattle.std.proofs.Common.{◌<◌, List, get_or, sym, subst, ◌∙◌}
use Rattle.mk_value.specs.Data.{AreRowsOf, Datum, IsRowOf}
use Rattle.mk_value.proofs.Cells.{row_read}
use Rattle.mk_value.proofs.Relations.{row_fits_length}
use Rattle.viewed.proofs.Arguments.{arguments}
use Rattle.test_following.proofs.filtered.fits.Goals as goal

pub ask-requires-clause-there : goal.ask-requires-clause-there
ask-requires-clause-there g c =
    let schema = c.args.new.now.schema in
    let row = c.in-Some-get.row.now in
    let found = c.in-Some-get.ensures.lookup in
    let whole = subst (λ (xs : List (List Datum)). AreRowsOf xs schema) (sym (c.as_slice.ensures ∙ c.rows.ensures.value)) c.size-size.ensures.whole in
    let fit : IsRowOf row schema = row_read c.as_slice.result.now schema c.in-Some.at row whole found.3.0 found.1 in
    λ k d p. subst (λ n. get_or c.args.filter.now.columns k d < n) (sym (row_fits_length row schema fit)) (c.requires.in_range k d p)

pub ask-requires-clause-kinds : goal.ask-requires-clause-kinds
ask-requires-clause-kinds g c =
    let schema = c.args.new.now.schema in
    let row = c.in-Some-get.row.now in
    let found = c.in-Some-get.ensures.lookup in
    let whole = subst (λ (xs : List (List Datum)). AreRowsOf xs schema) (sym (c.as_slice.ensures ∙ c.rows.ensures.value)) c.size-size.ensures.whole in
    let fit : IsRowOf row schema = row_read c.as_slice.result.now schema c.in-Some.at row whole found.3.0 found.1 in
    arguments schema (g.V.Viewer.meaning c.args.viewer.now).takes c.args.filter.now.columns row c.requires fit
