use Rattle.std.proofs.Common.{◌≡◌, ◌+◌, ℕ, ◌∷◌, [], subst, arith}
use Rattle.std.proofs.lemmas.Result.{err_from_is_err_and}
use Rattle.dir_codec.specs.Dir.{spelled_memo}
use Rattle.dir_codec.specs.Fields.{memo_row, memos_due}
use Rattle.dir_codec.specs.Reads.{Leads}
use Rattle.dir_codec.proofs.ColumnParts.{memo_leads, memo_row_flaw, memo_span_flaw}
use Rattle.dir_codec.proofs.columns.read_memo.Goals as goal

pub returns-in_err-row : goal.returns-in_err-row
returns-in_err-row c = λ number more.
    let p = err_from_is_err_and c.from_residual.result c.from_residual.ensures.1 in
    rw (p.1, p.2) (memo_row_flaw number c.args.end more c.args.rows c.args.least c.args.bytes.now c.args.at _ c.requires.within c.requires.some c.in_err-row.ensures)

pub returns-in_err-span : goal.returns-in_err-span
returns-in_err-span c = λ number more.
    let p = err_from_is_err_and c.from_residual-in_err-span.result c.from_residual-in_err-span.ensures.1 in
    rw (p.1, p.2) (memo_span_flaw number c.args.end more c.args.rows c.args.least c.args.bytes.now c.args.at c.in_ok-row.row _ c.requires.some c.in_ok-row.ensures c.in_err-span.ensures)

pub returns : goal.returns
returns c = λ number more.
    let row = c.in_ok-row.row in
    let span = c.in_ok-span.span in
    let to : c.args.at + 4 + 16 ≡ c.args.at + 20 = omega arith in (
      record { from = c.in_ok-row.ensures.1.2; below = (let high = c.in_ok-row.ensures.1.3 in let some = c.requires.some in omega (arith, high, some)); span = c.in_ok-span.ensures.1.2 },
      subst (λ (n : ℕ). Leads number c.args.end (memo_row more c.args.rows c.args.least ∷ []) c.args.bytes.now c.args.at (memos_due more c.args.rows (row + 1)) n (spelled_memo (record { row = row; span = span }))) to
          (memo_leads number c.args.end more c.args.rows c.args.least c.args.bytes.now c.args.at row span c.requires.some c.in_ok-row.ensures c.in_ok-span.ensures),
    )
