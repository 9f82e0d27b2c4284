use Rattle.std.proofs.lemmas.Result.{err_from_is_err_and}
use Rattle.dir_codec.specs.Dir.{IsStrings}
use Rattle.dir_codec.proofs.TextColumns.{count_flaw, memos_flaw, short_flaw, strings_read}
use Rattle.dir_codec.proofs.columns.read_strings.Goals as goal

pub returns-in_err-width : goal.returns-in_err-width
returns-in_err-width c = λ number.
    let p = err_from_is_err_and c.from_residual.result c.from_residual.ensures.1 in
    rw (p.1, p.2) (c.in_err-width.ensures number)

pub read_block-requires : goal.read_block-requires
read_block-requires c = (c.in_ok-width.ensures 0).1.within

pub returns-in_err-short : goal.returns-in_err-short
returns-in_err-short c = λ number.
    let p = err_from_is_err_and c.from_residual-in_err-short.result c.from_residual-in_err-short.ensures.1 in
    rw (p.1, p.2) (short_flaw number c.args.end c.args.rows c.args.bytes.now c.args.at c.in_ok-width.width c.in_ok-width.sizes _ (c.in_ok-width.ensures number).1 c.in_err-short.ensures)

pub returns-in_err-count : goal.returns-in_err-count
returns-in_err-count c = λ number.
    let p = err_from_is_err_and c.from_residual-in_err-count.result c.from_residual-in_err-count.ensures.1 in
    rw (p.1, p.2) (count_flaw number c.args.end c.args.rows c.args.bytes.now c.args.at c.in_ok-width.width c.in_ok-width.sizes c.in_ok-short.short _ (c.in_ok-width.ensures number).1 c.in_ok-short.ensures c.in_err-count.ensures)

pub returns-in_err-memos : goal.returns-in_err-memos
returns-in_err-memos c = λ number.
    let p = err_from_is_err_and c.from_residual-in_err-memos.result c.from_residual-in_err-memos.ensures.1 in
    rw (p.1, p.2) (memos_flaw number c.args.end c.args.rows c.args.bytes.now c.args.at c.in_ok-width.width c.in_ok-width.sizes c.in_ok-short.short c.in_ok-count.count _
    (c.in_ok-width.ensures number).1 c.in_ok-short.ensures c.in_ok-count.ensures (c.in_err-memos.ensures number))

pub returns : goal.returns
returns c = λ number.
    let memos = c.in_ok-memos.ensures number in
    let sizes = c.in_ok-width.ensures number in
    let is : IsStrings c.args.end c.args.rows c.in_ok-width.width c.in_ok-width.sizes c.in_ok-short.short c.in_ok-memos.memos
    = record { sizes_are = sizes.0; short_is = c.in_ok-short.ensures.1.2; memos_are = memos.0.0 } in (
      (is, is),
      strings_read number c.args.end c.args.rows c.args.bytes.now c.args.at c.in_ok-memos.next c.in_ok-width.width c.in_ok-width.sizes c.in_ok-short.short c.in_ok-count.count c.in_ok-memos.memos
          sizes.1 c.in_ok-short.ensures c.in_ok-count.ensures memos.0.1 memos.1,
    )
