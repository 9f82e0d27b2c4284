use Rattle.std.proofs.Common.{◌≡◌, ◌≤◌, ◌+◌, false, length, get_or, take, None, arith, ap, sym, subst, ◌∙◌}
use Rattle.std.proofs.lemmas.List.{get_or_default, take_all}
use Rattle.std.specs.List.{sum_by}
use Rattle.relations.specs.Rows.{rows_at}
use Rattle.places.specs.Numbers.{chunks_for}
use Rattle.live.specs.Chains.{AreLinked, seen}
use Rattle.live.specs.Costs.{after_cost}
use Rattle.live.specs.Edits.{AreSpreadDue, HasTaken, IsSpread, came_to}
use Rattle.live.specs.States.{WatchState}
use Rattle.live.specs.Watching.{comes_to, placed, positions, told}
use Rattle.live.proofs.Coming.{HaveCome, come_more, come_none, come_taken, next_asked, next_due, next_made, next_now, next_room, next_source}
use Rattle.live.proofs.Onward.{AreOnward, cost_more, onward_cost, onward_linked, onward_now}
use Rattle.live.proofs.Parts.{part_below, part_first, part_set}
use Rattle.live.proofs.edited.spread_all.Goals as goal

pub loop-i-init : goal.loop-i-init
loop-i-init g c = record {
  come = λ due. come_none (g.P.Probe.schema c.args.rows.now) (g.P.Probe.rows c.args.rows.now) c.args.at c.args.count due.row due.before c.args.watches.now;
  cost = omega arith;
}

pub spread-requires : goal.spread-requires
spread-requires g c =
    let schema = g.P.Probe.schema c.args.rows.now in
    let rows = g.P.Probe.rows c.args.rows.now in
    let few = c.size-size.ensures.few in
    let due = c.requires.due in
    let old = c.args.watches.now in
    let h = c.loop-i.invariant.come due in
    let ls = c.loop-i.watches in
    let i = c.loop-i.i in
    let p = c.loop-i-test.true in
    let e = c.split_at_mut-below.ensures in
    let below = c.split_at_mut-below.result.0.now in
    let rest = c.split_at_mut-below.result.1.now in
    let d = c.index-rest-0.result in
    let is_below = part_below ls below rest i e.value e.front_len in
    let is_link = part_first ls below rest i d e.value e.front_len ∙ h.onward.rest i d (omega arith) p in
    let link = get_or rest 0 d in
    record {
      asked = next_asked schema rows c.args.at c.args.count old few due ls i h p d below is_below link is_link;
      linked = subst (AreLinked rows) (sym is_below) (onward_linked schema rows old few due.now.sources ls i h.onward);
      source = λ s q. let r = next_source schema rows c.args.at c.args.count old few due ls i h p d below is_below link is_link s q in let n = e.front_len in omega arith;
      some = c.requires.some;
      room = next_room schema rows c.args.at c.args.count old few due ls i h p d below is_below link is_link c.requires.room;
      due = next_due schema rows c.args.at c.args.count old few due ls i h p d below is_below link is_link;
    }

pub loop-i-preserved : goal.loop-i-preserved
loop-i-preserved g c =
    let schema = g.P.Probe.schema c.args.rows.now in
    let rows = g.P.Probe.rows c.args.rows.now in
    let few = c.size-size.ensures.few in
    let old = c.args.watches.now in
    let at = c.args.at in
    let count = c.args.count in
    let ls = c.loop-i.watches in
    let i = c.loop-i.i in
    let p = c.loop-i-test.true in
    let e = c.split_at_mut-below.ensures in
    let below = c.split_at_mut-below.result.0.now in
    let rest = c.split_at_mut-below.result.1.now in
    let d = c.index-rest-0.result in
    let new = c.spread.new.watch in
    let f = c.spread.ensures in
    let is_below = part_below ls below rest i e.value e.front_len in
    let all_is = part_set ls below rest i new e.value e.front_len in
    let mine = c.requires.due in
    let is_link : (due : AreSpreadDue schema old at count rows) (x : WatchState) → get_or rest 0 d ≡ get_or old i x = λ due x. part_first ls below rest i d e.value e.front_len ∙ (c.loop-i.invariant.come due).onward.rest i d (omega arith) p ∙ get_or_default old i d x p in
    let f_taken : (due : AreSpreadDue schema old at count rows) (x : WatchState) → HasTaken count (chunks_for count) (get_or old i x) new = λ due x. subst (λ (l : WatchState). HasTaken count (chunks_for count) l new) (is_link due x) f.taken in
    let f_now : (due : AreSpreadDue schema old at count rows) (x : WatchState) → new.kept ≡ positions schema (get_or old i x).op (seen rows (take i ls) (get_or old i x).source) =
    λ due x. f.now ∙ ap (λ (l : WatchState). positions schema l.op (seen rows below l.source)) (is_link due x) ∙ ap (λ bs. positions schema (get_or old i x).op (seen rows bs (get_or old i x).source)) is_below in
    let f_made : (due : AreSpreadDue schema old at count rows) (x : WatchState) → IsSpread (comes_to new.turn) count due.row (rows_at (seen due.before old (get_or old i x).source) (get_or old i x).kept) (rows_at (seen rows (take i ls) (get_or old i x).source) new.kept) =
    λ due x.
    let h = c.loop-i.invariant.come due in
    let one : IsSpread (comes_to new.turn) count due.row (rows_at (seen due.before old (get_or old i x).source) (get_or rest 0 d).kept) (rows_at (seen rows below (get_or rest 0 d).source) new.kept) =
    f.spread due.row (seen due.before old (get_or old i x).source)
    (next_now schema rows at count old few due ls i h p x below is_below (get_or rest 0 d) (is_link due x)) (next_made schema rows at count old few due ls i h p x below is_below (get_or rest 0 d) (is_link due x)) in
    subst (λ bs. IsSpread (comes_to new.turn) count due.row (rows_at (seen due.before old (get_or old i x).source) (get_or old i x).kept) (rows_at (seen rows bs (get_or old i x).source) new.kept)) is_below
    (subst (λ (l : WatchState). IsSpread (comes_to new.turn) count due.row (rows_at (seen due.before old (get_or old i x).source) l.kept) (rows_at (seen rows below l.source) new.kept)) (is_link due x) one) in
    let f_told : (due : AreSpreadDue schema old at count rows) (x : WatchState) → new.turn ≡ told false None (placed new.kept (came_to at (take i ls) (get_or old i x).source)) =
    λ due x. f.told ∙ ap (λ (l : WatchState). told false None (placed new.kept (came_to at below l.source))) (is_link due x) ∙ ap (λ bs. told false None (placed new.kept (came_to at bs (get_or old i x).source))) is_below in
    record {
      come = λ due.
          subst (λ all. HaveCome schema rows at count due.row due.before old all (i + 1)) (sym all_is)
          (come_more schema rows at count old few due ls i (c.loop-i.invariant.come due) p new (f_taken due) (f_now due) (f_made due) (f_told due) f.answer);
      cost =
          subst (λ all. c.spread.new.steps ≤ c.args.steps.now + sum_by (after_cost rows all) (take (i + 1) all)) (sym all_is)
          (cost_more schema rows old few mine.now.sources ls i (c.loop-i.invariant.come mine).onward p new (λ x. (f_taken mine x).followed.source) (λ x. (f_taken mine x).followed.op) (f_now mine) c.args.steps.now c.loop-i.steps c.spread.new.steps c.loop-i.invariant.cost
          (onward_cost schema rows old few mine.now.sources ls i (c.loop-i.invariant.come mine).onward p new (λ x. (f_taken mine x).followed.source) (λ x. (f_taken mine x).followed.op) (f_now mine) d below is_below (get_or rest 0 d) (is_link mine d) c.loop-i.steps c.spread.new.steps f.cost f.test));
    }

pub returns-clause-now : goal.returns-clause-now
returns-clause-now g c =
    let schema = g.P.Probe.schema c.args.rows.now in
    let due = c.requires.due in
    let old = c.args.watches.now in
    let h = c.loop-i.invariant.come due in
    let t = c.loop-i-test.false in
    let w = h.onward.within in
    let i_is : c.loop-i.i ≡ length old = omega arith in
    onward_now schema due.before (g.P.Probe.rows c.args.rows.now) old c.size-size.ensures.few due.now c.loop-i.watches
    (subst (AreOnward schema (g.P.Probe.rows c.args.rows.now) old c.loop-i.watches) i_is h.onward)

pub returns-clause-told : goal.returns-clause-told
returns-clause-told g c k d p =
    let h = c.loop-i.invariant.come c.requires.due in
    let t = c.loop-i-test.false in
    h.told k d (omega arith)

pub returns-clause-answer : goal.returns-clause-answer
returns-clause-answer g c k d p =
    let h = c.loop-i.invariant.come c.requires.due in
    let t = c.loop-i-test.false in
    h.answer k d (omega arith)

pub returns-clause-made : goal.returns-clause-made
returns-clause-made g c due k d p =
    let h = c.loop-i.invariant.come due in
    let t = c.loop-i-test.false in
    h.made k d (omega arith)

pub returns-clause-taken : goal.returns-clause-taken
returns-clause-taken g c =
    let schema = g.P.Probe.schema c.args.rows.now in
    let due = c.requires.due in
    let old = c.args.watches.now in
    let h = c.loop-i.invariant.come due in
    let t = c.loop-i-test.false in
    let w = h.onward.within in
    let i_is : c.loop-i.i ≡ length old = omega arith in
    come_taken schema (g.P.Probe.rows c.args.rows.now) c.args.at c.args.count due.row due.before old c.loop-i.watches
    (subst (HaveCome schema (g.P.Probe.rows c.args.rows.now) c.args.at c.args.count due.row due.before old c.loop-i.watches) i_is h)

pub returns-clause-cost : goal.returns-clause-cost
returns-clause-cost g c =
    let h = c.loop-i.invariant.come c.requires.due in
    let t = c.loop-i-test.false in
    let w = h.onward.within in
    let l = h.onward.long in
    let so_far = c.loop-i.invariant.cost in
    let all = ap (sum_by (after_cost (g.P.Probe.rows c.args.rows.now) c.loop-i.watches)) (take_all c.loop-i.i c.loop-i.watches (omega arith)) in
    omega arith
