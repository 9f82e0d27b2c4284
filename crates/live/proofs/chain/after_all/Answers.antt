use Rattle.std.proofs.Common.{◌≡◌, ◌≤◌, ◌+◌, length, get_or, take, arith, ap, sym, subst, ◌∙◌}
use Rattle.std.proofs.lemmas.List.{get_or_default, take_all}
use Rattle.std.specs.List.{sum_by}
use Rattle.live.specs.Chains.{AreDue, AreLinked, IsRaised, seen, turn_of}
use Rattle.live.specs.Costs.{after_cost}
use Rattle.live.specs.States.{WatchState}
use Rattle.live.specs.Watching.{own, positions}
use Rattle.live.proofs.Following.{AreFollowed, followed_more, followed_none, followed_told, next_asked, next_due, next_noted, next_room, next_source}
use Rattle.live.proofs.Onward.{AreOnward, cost_more, onward_cost, onward_linked, onward_now}
use Rattle.live.proofs.Parts.{part_below, part_first, part_set}
use Rattle.live.proofs.chain.after_all.Goals as goal

pub loop-i-init : goal.loop-i-init
loop-i-init g c = record {
  followed = λ due. followed_none (g.P.Probe.schema c.args.rows.now) (g.P.Probe.rows c.args.rows.now) c.args.root due.before c.args.watches.now;
  cost = omega arith;
}

pub follow-requires : goal.follow-requires
follow-requires g c =
    let schema = g.P.Probe.schema c.args.rows.now in
    let rows = g.P.Probe.rows c.args.rows.now in
    let few = c.size-size.ensures.few in
    let due = c.requires.due in
    let noted = c.requires.noted in
    let old = c.args.watches.now in
    let h = c.loop-i.invariant.followed due in
    let ls = c.loop-i.watches in
    let i = c.loop-i.i in
    let p = c.loop-i-test.true in
    let e = c.split_at_mut-below.ensures in
    let below = c.split_at_mut-below.result.0.now in
    let rest = c.split_at_mut-below.result.1.now in
    let d = c.index-rest-0.result in
    let is_below = part_below ls below rest i e.value e.front_len in
    let is_link = part_first ls below rest i d e.value e.front_len ∙ h.onward.rest i d (omega arith) p in
    let link = get_or rest 0 d in
    record {
      asked = next_asked schema rows c.args.root old few due noted ls i h p d below is_below link is_link;
      linked = subst (AreLinked rows) (sym is_below) (onward_linked schema rows old few due.now.sources ls i h.onward);
      source = λ s q. let r = next_source schema rows c.args.root old few due noted ls i h p d below is_below link is_link s q in let n = e.front_len in omega arith;
      room = next_room schema rows c.args.root old few due noted ls i h p d below is_below link is_link c.requires.room;
      due = next_due schema rows c.args.root old few due noted ls i h p d below is_below link is_link;
      noted = next_noted schema rows c.args.root old few due noted ls i h p d below is_below link is_link;
    }

pub loop-i-preserved : goal.loop-i-preserved
loop-i-preserved g c =
    let schema = g.P.Probe.schema c.args.rows.now in
    let rows = g.P.Probe.rows c.args.rows.now in
    let few = c.size-size.ensures.few in
    let noted = c.requires.noted in
    let old = c.args.watches.now in
    let ls = c.loop-i.watches in
    let i = c.loop-i.i in
    let p = c.loop-i-test.true in
    let e = c.split_at_mut-below.ensures in
    let below = c.split_at_mut-below.result.0.now in
    let rest = c.split_at_mut-below.result.1.now in
    let d = c.index-rest-0.result in
    let new = c.follow.new.watch in
    let f = c.follow.ensures in
    let root = c.args.root in
    let is_below = part_below ls below rest i e.value e.front_len in
    let all_is = part_set ls below rest i new e.value e.front_len in
    let mine = c.requires.due in
    let is_link : (due : AreDue schema old root rows) (x : WatchState) → get_or rest 0 d ≡ get_or old i x = λ due x. part_first ls below rest i d e.value e.front_len ∙ (c.loop-i.invariant.followed due).onward.rest i d (omega arith) p ∙ get_or_default old i d x p in
    let f_raised : (due : AreDue schema old root rows) (x : WatchState) → IsRaised (get_or old i x) new = λ due x. subst (λ (l : WatchState). IsRaised l new) (is_link due x) f.raised in
    let f_now : (due : AreDue schema old root rows) (x : WatchState) → new.kept ≡ positions schema (get_or old i x).op (seen rows (take i ls) (get_or old i x).source) =
    λ due x. f.now ∙ ap (λ (l : WatchState). positions schema l.op (seen rows below l.source)) (is_link due x) ∙ ap (λ bs. positions schema (get_or old i x).op (seen rows bs (get_or old i x).source)) is_below in
    let f_told : (due : AreDue schema old root rows) (x : WatchState) → new.turn ≡ own (get_or old i x).op (get_or old i x).kept new.kept (turn_of root (take i ls) (get_or old i x).source) =
    λ due x. f.told ∙ ap (λ (l : WatchState). own l.op l.kept new.kept (turn_of root below l.source)) (is_link due x)
    ∙ ap (λ bs. own (get_or old i x).op (get_or old i x).kept new.kept (turn_of root bs (get_or old i x).source)) is_below in
    record {
      followed = λ due.
          subst (λ all. AreFollowed schema rows root due.before old all (i + 1)) (sym all_is)
          (followed_more schema rows root old few due noted ls i (c.loop-i.invariant.followed due) p new (f_raised due) (f_now due) (f_told due));
      cost =
          subst (λ all. c.follow.new.steps ≤ c.args.steps.now + sum_by (after_cost rows all) (take (i + 1) all)) (sym all_is)
          (cost_more schema rows old few mine.now.sources ls i (c.loop-i.invariant.followed mine).onward p new (λ x. (f_raised mine x).source) (λ x. (f_raised mine x).op) (f_now mine) c.args.steps.now c.loop-i.steps c.follow.new.steps c.loop-i.invariant.cost
          (onward_cost schema rows old few mine.now.sources ls i (c.loop-i.invariant.followed mine).onward p new (λ x. (f_raised mine x).source) (λ x. (f_raised mine x).op) (f_now mine) d below is_below (get_or rest 0 d) (is_link mine d) c.loop-i.steps c.follow.new.steps f.cost f.test));
    }

pub returns-clause-now : goal.returns-clause-now
returns-clause-now g c =
    let schema = g.P.Probe.schema c.args.rows.now in
    let due = c.requires.due in
    let old = c.args.watches.now in
    let h = c.loop-i.invariant.followed due in
    let t = c.loop-i-test.false in
    let w = h.onward.within in
    let i_is : c.loop-i.i ≡ length old = omega arith in
    onward_now schema due.before (g.P.Probe.rows c.args.rows.now) old c.size-size.ensures.few due.now c.loop-i.watches
    (subst (AreOnward schema (g.P.Probe.rows c.args.rows.now) old c.loop-i.watches) i_is h.onward)

pub returns-clause-told : goal.returns-clause-told
returns-clause-told g c =
    let schema = g.P.Probe.schema c.args.rows.now in
    let due = c.requires.due in
    let old = c.args.watches.now in
    let h = c.loop-i.invariant.followed due in
    let t = c.loop-i-test.false in
    let w = h.onward.within in
    let i_is : c.loop-i.i ≡ length old = omega arith in
    followed_told schema (g.P.Probe.rows c.args.rows.now) c.args.root due.before old c.loop-i.watches
    (subst (AreFollowed schema (g.P.Probe.rows c.args.rows.now) c.args.root due.before old c.loop-i.watches) i_is h)

pub returns-clause-made : goal.returns-clause-made
returns-clause-made g c due k d p =
    let h = c.loop-i.invariant.followed due in
    let t = c.loop-i-test.false in
    h.made k d (omega arith)

pub returns-clause-cost : goal.returns-clause-cost
returns-clause-cost g c =
    let h = c.loop-i.invariant.followed c.requires.due in
    let t = c.loop-i-test.false in
    let w = h.onward.within in
    let l = h.onward.long in
    let so_far = c.loop-i.invariant.cost in
    let all = ap (sum_by (after_cost (g.P.Probe.rows c.args.rows.now) c.loop-i.watches)) (take_all c.loop-i.i c.loop-i.watches (omega arith)) in
    omega arith
