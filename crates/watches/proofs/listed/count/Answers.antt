use Rattle.std.proofs.Common.{length, ap, sym, ◌∙◌, arith}
use Rattle.std.specs.List.{sum_by}
use Rattle.std.proofs.lemmas.List.{take_all}
use Rattle.std.proofs.lemmas.List.Sums.{sum_by_more_le}
use Rattle.watches.specs.Keeping.{Kept, followed_of}
use Rattle.watches.proofs.Whole.{count_is}
use Rattle.watches.proofs.listed.count.Goals as goal

pub overflow_add-count : goal.overflow_add-count
overflow_add-count c =
    let t = c.loop-watches-test.true in
    let size = λ (k : Kept). length (followed_of k).watches in
    let i = c.loop-watches.watches-index in
    let x = c.watches-item.result in
    let below = sum_by_more_le size c.args.list.now i x (omega arith) in
    let all = count_is c.args.list.now in
    let most = c.requires in
    let this = c.len-count.ensures in
    let is = ap size c.watches-item.is in
    let so_far = c.loop-watches.invariant in
    omega arith

pub returns : goal.returns
returns c =
    let t = c.loop-watches-test.false in
    c.loop-watches.invariant ∙ ap (sum_by (λ (k : Kept). length (followed_of k).watches)) (take_all c.loop-watches.watches-index c.args.list.now (omega arith))
    ∙ sym (count_is c.args.list.now)
