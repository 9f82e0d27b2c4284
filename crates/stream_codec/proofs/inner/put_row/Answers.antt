use Rattle.std.proofs.Common.{List, ℕ, length, ◌∙◌, ap}
use Rattle.std.proofs.lemmas.Result.{on_ok_weaker}
use Rattle.tables.specs.Rows.{with_rows_inserted}
use Rattle.tables.specs.Tables.{table_without_homes}
use Rattle.stream_codec.specs.declared.inner.Inner.{Inner}
use Rattle.stream_codec.proofs.PutRows.{put_homeless, put_whole, put_wide, row_put, with_tables}
use Rattle.stream_codec.proofs.inner.put_row.Goals as goal

pub put_inners-requires-clause-wide : goal.put_inners-requires-clause-wide
put_inners-requires-clause-wide c =
    let old = c.args.table.now in
    let row = c.args.row.now in
    let put = row_put old c.insert_rows.new.self row c.requires.homeless c.requires.row (c.in_ok-insert_rows.ensures.ok ∙ ap (λ (k : ℕ). with_rows_inserted k row 1 old) c.len-at.ensures.value) in
    put_wide old c.insert_rows.new.self row c.len-at.result c.len-at.ensures.value c.requires.row put

pub put_inners-requires-clause-homeless : goal.put_inners-requires-clause-homeless
put_inners-requires-clause-homeless c =
    let old = c.args.table.now in
    let row = c.args.row.now in
    let put = row_put old c.insert_rows.new.self row c.requires.homeless c.requires.row (c.in_ok-insert_rows.ensures.ok ∙ ap (λ (k : ℕ). with_rows_inserted k row 1 old) c.len-at.ensures.value) in
    put_homeless old c.insert_rows.new.self row put

pub returns : goal.returns
returns c =
    let old = c.args.table.now in
    let mid = c.insert_rows.new.self in
    let row = c.args.row.now in
    let put = row_put old mid row c.requires.homeless c.requires.row (c.in_ok-insert_rows.ensures.ok ∙ ap (λ (k : ℕ). with_rows_inserted k row 1 old) c.len-at.ensures.value) in
    on_ok_weaker c.put_inners.result
    (λ filled. put_whole old mid _ row c.args.inners.items put
    (filled ∙ ap (λ (k : ℕ). table_without_homes mid.schema (with_tables mid.rows k c.deref.result.now)) c.len-at.ensures.value
    ∙ ap (λ (is : List Inner). table_without_homes mid.schema (with_tables mid.rows (length old.rows) is)) c.deref.ensures.value))
    c.put_inners.ensures
