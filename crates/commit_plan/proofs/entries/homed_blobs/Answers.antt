use Rattle.std.proofs.Common.{◌∙◌, ap}
use Rattle.bit_pack.specs.Width.{least_width}
use Rattle.bit_pack.proofs.Least.{least_is}
use Rattle.bytes_col.specs.Strings.{memo_rows, sizes_of}
use Rattle.dir_codec.specs.Dir.{Entry}
use Rattle.recovery.specs.Commits.{memos_at}
use Rattle.commit_plan.proofs.entries.homed_blobs.Goals as goal

pub returns : goal.returns
returns c =
    let values = c.args.column.now.values in
    ap (λ w. Entry.strings w c.args.home.now.sizes c.args.home.now.short c.in_ok-memos_of.field-0) (least_is c.width.result c.sizes.result.now.values c.width.ensures ∙ ap least_width c.sizes.ensures.sizes)
    ∙ ap (λ ms. Entry.strings (least_width (sizes_of values)) c.args.home.now.sizes c.args.home.now.short ms)
    (c.in_ok-memos_of.ensures ∙ ap (λ rs. memos_at rs c.as_slice-2.result.now) (c.as_slice.ensures ∙ c.in_ok-rows.ensures) ∙ ap (λ ss. memos_at (memo_rows values) ss) c.as_slice-2.ensures)
