use Rattle.std.proofs.Common.{[], map, refl, ◌∙◌}
use Rattle.relations.specs.Columns.{column_of}
use Rattle.relations.proofs.Filtering.{rows_passing}
use Rattle.viewed.specs.Asking.{is_kept}
use Rattle.viewed.proofs.Dues.{args_here}
use Rattle.viewed.proofs.Made.{kept_rows}
use Rattle.live_counts.proofs.laws.filters_keep.Goals as goal

pub returns : goal.returns
returns c = λ viewer takes gives args t due.
    let columns = map (column_of t.schema) args in
    rows_passing (is_kept gives columns) [] t.rows ∙ kept_rows t gives args columns (args_here viewer takes args t.schema due) refl
