use Rattle.std.proofs.Common.{◌≡◌, ◌<◌, ◌+◌, length, get_or, arith, ap, sym, subst, ◌∙◌}
use Rattle.std.proofs.lemmas.List.{get_or_default, take_all}
use Rattle.std.proofs.lemmas.List.Sums.{sum_by_more}
use Rattle.std.specs.List.{sum_by}
use Rattle.live.specs.Chains.{IsSame, going_of}
use Rattle.live.specs.Costs.{before_cost}
use Rattle.live.specs.States.{WatchState}
use Rattle.live.specs.Watching.{IsAsked, placed}
use Rattle.live.proofs.Noting.{HaveNoted, note_cost, note_linked, note_now, note_source, note_there, noted_more, noted_none, noted_room, src_below}
use Rattle.live.proofs.Parts.{part_below, part_first, part_set}
use Rattle.live.proofs.chain.before_all.Goals as goal

pub loop-i-init : goal.loop-i-init
loop-i-init g c = record { noted = noted_none c.args.goes c.args.watches.now; cost = omega arith }

pub note-requires : goal.note-requires
note-requires g c =
    let schema = g.P.Probe.schema c.args.rows.now in
    let rows = g.P.Probe.rows c.args.rows.now in
    let old = c.args.watches.now in
    let h = c.loop-i.invariant.noted in
    let ls = c.loop-i.watches in
    let i = c.loop-i.i in
    let p = c.loop-i-test.true in
    let e = c.split_at_mut-below.ensures in
    let below = c.split_at_mut-below.result.0.now in
    let rest = c.split_at_mut-below.result.1.now in
    let d = c.index-rest-0.result in
    let link = get_or rest 0 d in
    let l = h.same.long in
    let q : i < length old = omega arith in
    let is_below = part_below ls below rest i e.value e.front_len in
    let is_link = part_first ls below rest i d e.value e.front_len in
    record {
      asked = subst (IsAsked schema) (sym (ap (λ (w : WatchState). w.op) is_link ∙ (h.same.each i d q).op)) (c.requires.now.asked i d q);
      linked = note_linked schema rows c.args.goes old c.requires.now c.requires.there ls i h q d below is_below link is_link;
      source = λ s r. let a = note_source schema rows c.args.goes old c.requires.now c.requires.there ls i h q d below is_below link is_link s r in let n = e.front_len in omega arith;
      there = note_there schema rows c.args.goes old c.requires.now c.requires.there ls i h q d below is_below link is_link;
      now = note_now schema rows c.args.goes old c.requires.now c.requires.there ls i h q d below is_below link is_link;
    }

pub loop-i-preserved : goal.loop-i-preserved
loop-i-preserved g c =
    let schema = g.P.Probe.schema c.args.rows.now in
    let rows = g.P.Probe.rows c.args.rows.now in
    let old = c.args.watches.now in
    let h = c.loop-i.invariant.noted in
    let ls = c.loop-i.watches in
    let i = c.loop-i.i in
    let p = c.loop-i-test.true in
    let e = c.split_at_mut-below.ensures in
    let below = c.split_at_mut-below.result.0.now in
    let rest = c.split_at_mut-below.result.1.now in
    let d = c.index-rest-0.result in
    let new = c.note.new.watch in
    let f = c.note.ensures in
    let l = h.same.long in
    let q : i < length ls = omega arith in
    let r : i < length old = omega arith in
    let is_below = part_below ls below rest i e.value e.front_len in
    let is_link : (x : WatchState) → get_or rest 0 d ≡ get_or ls i x = λ x. part_first ls below rest i d e.value e.front_len ∙ get_or_default ls i d x q in
    let costs = note_cost rows old ls h.same i r d below is_below (get_or rest 0 d) (is_link d) c.loop-i.steps c.note.new.steps f.cost f.free (src_below schema rows c.args.goes old c.requires.now c.requires.there ls i h r d below is_below (get_or rest 0 d) (is_link d)) in
    let sum = sum_by_more (before_cost rows old) old i d r in
    let so_far = c.loop-i.invariant.cost in
    record {
      cost = omega arith;
      noted = subst (λ all. HaveNoted c.args.goes old all (i + 1)) (sym (part_set ls below rest i new e.value e.front_len))
          (noted_more schema rows c.args.goes old c.requires.now c.requires.there ls i h r new
          (λ x. subst (λ (w : WatchState). IsSame w new) (is_link x) f.same)
          (λ x. f.room ∙ ap (λ (w : WatchState). w.room) (is_link x))
          (λ x. f.noted ∙ ap (λ (w : WatchState). placed w.kept (going_of c.args.goes below w.source)) (is_link x)
          ∙ ap (λ bs. placed (get_or ls i x).kept (going_of c.args.goes bs (get_or ls i x).source)) is_below));
    }

pub returns : goal.returns
returns g c =
    let h = c.loop-i.invariant.noted in
    let l = h.same.long in
    let t = c.loop-i-test.false in
    let w = h.within in
    let so_far = c.loop-i.invariant.cost in
    let all = ap (sum_by (before_cost (g.P.Probe.rows c.args.rows.now) c.args.watches.now)) (take_all c.loop-i.i c.args.watches.now (omega arith)) in
    record {
      noted = λ k d p. h.noted k d (omega arith);
      same = h.same;
      room = noted_room c.args.goes c.args.watches.now c.loop-i.watches c.loop-i.i h;
      cost = omega arith;
    }
