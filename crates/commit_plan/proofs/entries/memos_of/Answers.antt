use Rattle.std.proofs.Common.{◌++◌, [], ◌∷◌, get_or, ap, sym, ◌∙◌, arith}
use Rattle.std.proofs.lemmas.List.{take_all}
use Rattle.mk_value.specs.declared.span.Span.{Span}
use Rattle.dir_codec.specs.declared.dir.Memo.{Memo}
use Rattle.recovery.specs.Commits.{memos_at}
use Rattle.commit_plan.proofs.TableEntries.{memos_long, memos_more}
use Rattle.commit_plan.proofs.entries.memos_of.Goals as goal

pub memos-preserved : goal.memos-preserved
memos-preserved c =
    let none : Span = record { place = 0; len = 0 } in
    let least = c.min-at-end.ensures in
    let test = c.memos-test.true in
    c.in_ok-push.ensures.ok ∙ ap (λ ms. ms ++ (let m : Memo = record { row = get_or c.args.rows.now c.memos.at 0; span = get_or c.args.spans.now c.memos.at none } in m) ∷ []) c.memos.invariant ∙ sym (memos_more c.args.rows.now c.args.spans.now c.memos.at none (omega (arith, least, test)))

pub returns : goal.returns
returns c =
    let least = c.min-at-end.ensures in
    let test = c.memos-test.false in
    let long = memos_long c.args.rows.now c.args.spans.now in
    c.memos.invariant ∙ take_all c.memos.at (memos_at c.args.rows.now c.args.spans.now) (omega (arith, least, test, long))
