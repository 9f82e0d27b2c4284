use Rattle.std.proofs.Common.{◌++◌, ◌∷◌, [], cond, get_or, sym, ap, ◌∙◌}
use Rattle.std.specs.Prelude.{not}
use Rattle.bytes_col.specs.Strings.{is_short}
use Rattle.bytes_col.proofs.Fills.{rows_more}
use Rattle.bytes_col.proofs.column.BytesCol.memo_rows.Goals as goal

pub loop-row-preserved : goal.loop-row-preserved
loop-row-preserved c =
    let row = c.loop-row.row in
    c.in_ok-push_where.ensures
    ∙ ap (λ z. z ++ cond c.is_memo.result (row ∷ []) []) c.loop-row.invariant
    ∙ sym (rows_more (λ k. not (is_short (get_or c.args.self.now.values k []))) row c.is_memo.result c.is_memo.ensures)
