use Rattle.std.proofs.Common.{◌∙◌}
use Rattle.commit_plan.proofs.Givens.{home_given, memos_within}
use Rattle.commit_plan.proofs.settling.blobs_at.Goals as goal

pub many-requires : goal.many-requires
many-requires c =
    memos_within c.args.column.now c.args.places.now c.one-sizes.new.self c.one-short.new.self c.one-sizes.result c.one-short.result c.in_ok-memo_rows.field-0 c.len-memos.result
    c.requires c.in_ok-memo_rows.ensures c.len-memos.ensures c.one-sizes.ensures c.one-short.ensures

pub returns : goal.returns
returns c =
    home_given c.args.column.now c.settle.new.self c.in_ok-settled.settled c.args.places.now c.one-sizes.new.self c.one-short.new.self c.many.new.self c.one-sizes.result c.one-short.result c.from-memos.result c.in_ok-memo_rows.field-0 c.len-memos.result
    c.requires c.in_ok-memo_rows.ensures c.len-memos.ensures c.one-sizes.ensures c.one-short.ensures
    (c.from-memos.ensures ∙ c.in_ok-from_slice.ensures.items ∙ c.many.ensures.given) c.many.ensures.rest c.in_ok-settled.ensures c.settle.ensures
