use Rattle.std.proofs.Common.{◌-◌, get_or, arith, sym, subst}
use Rattle.live.specs.Chains.{AreInside}
use Rattle.live.specs.Edits.{AreFew}
use Rattle.live.proofs.Gone.{HaveLeft, below_is, front_few, front_inside, next_left, next_source, next_within}
use Rattle.live.proofs.Parts.{part_below, part_first, part_set}
use Rattle.live.proofs.edited.leave_all.Goals as goal

pub leave-requires-clause-inside : goal.leave-requires-clause-inside
leave-requires-clause-inside c =
    let h = c.loop-left.invariant in
    let w = h.within in
    let e = c.split_at_mut-below.ensures in
    let below = c.split_at_mut-below.result.0.now in
    let rest = c.split_at_mut-below.result.1.now in
    let is_below = part_below c.loop-left.watches below rest (c.loop-left.left - 1) e.value e.front_len in
    subst AreInside (sym (below_is c.args.at c.args.count c.args.watches.now c.loop-left.watches c.loop-left.left h c.loop-left-test.true below is_below)) (front_inside c.args.watches.now (c.loop-left.left - 1) (omega arith) c.requires.inside)

pub leave-requires-clause-few : goal.leave-requires-clause-few
leave-requires-clause-few c =
    let h = c.loop-left.invariant in
    let w = h.within in
    let e = c.split_at_mut-below.ensures in
    let below = c.split_at_mut-below.result.0.now in
    let rest = c.split_at_mut-below.result.1.now in
    let is_below = part_below c.loop-left.watches below rest (c.loop-left.left - 1) e.value e.front_len in
    subst AreFew (sym (below_is c.args.at c.args.count c.args.watches.now c.loop-left.watches c.loop-left.left h c.loop-left-test.true below is_below)) (front_few c.args.watches.now (c.loop-left.left - 1) (omega arith) c.requires.few)

pub leave-requires-clause-source : goal.leave-requires-clause-source
leave-requires-clause-source c s is =
    let h = c.loop-left.invariant in
    let e = c.split_at_mut-below.ensures in
    let below = c.split_at_mut-below.result.0.now in
    let rest = c.split_at_mut-below.result.1.now in
    let d = c.index-rest-0.result in
    let is_below = part_below c.loop-left.watches below rest (c.loop-left.left - 1) e.value e.front_len in
    let is_link = part_first c.loop-left.watches below rest (c.loop-left.left - 1) d e.value e.front_len in
    let n = e.front_len in
    let r = next_source c.args.at c.args.count c.args.watches.now c.loop-left.watches c.loop-left.left h c.loop-left-test.true below is_below c.requires.inside (get_or rest 0 d) d is_link s is in
    omega arith

pub leave-requires-clause-within : goal.leave-requires-clause-within
leave-requires-clause-within c =
    let h = c.loop-left.invariant in
    let e = c.split_at_mut-below.ensures in
    let below = c.split_at_mut-below.result.0.now in
    let rest = c.split_at_mut-below.result.1.now in
    let d = c.index-rest-0.result in
    let is_below = part_below c.loop-left.watches below rest (c.loop-left.left - 1) e.value e.front_len in
    let is_link = part_first c.loop-left.watches below rest (c.loop-left.left - 1) d e.value e.front_len in
    next_within c.args.at c.args.count c.args.watches.now c.loop-left.watches c.loop-left.left h c.loop-left-test.true below is_below c.requires.inside (get_or rest 0 d) d is_link

pub loop-left-preserved : goal.loop-left-preserved
loop-left-preserved c =
    let h = c.loop-left.invariant in
    let e = c.split_at_mut-below.ensures in
    let below = c.split_at_mut-below.result.0.now in
    let rest = c.split_at_mut-below.result.1.now in
    let d = c.index-rest-0.result in
    let new = c.leave.new.watch in
    let is_below = part_below c.loop-left.watches below rest (c.loop-left.left - 1) e.value e.front_len in
    let is_link = part_first c.loop-left.watches below rest (c.loop-left.left - 1) d e.value e.front_len in
    let all_is = part_set c.loop-left.watches below rest (c.loop-left.left - 1) new e.value e.front_len in
    subst (λ ws. HaveLeft c.args.at c.args.count c.args.watches.now ws (c.loop-left.left - 1)) (sym all_is)
    (next_left c.args.at c.args.count c.args.watches.now c.loop-left.watches c.loop-left.left h c.loop-left-test.true below is_below c.requires.inside (get_or rest 0 d) d is_link new c.leave.ensures.taken c.leave.ensures.kept c.leave.ensures.answer)
