use Rattle.std.proofs.Common.{◌++◌, length, map, take, ap, arith, sym, ◌∙◌}
use Rattle.std.proofs.lemmas.List.{length-take-le}
use Rattle.live.specs.Telling.{events_of, told_as, told_by}
use Rattle.live.specs.declared.turn.Turn.{Turn}
use Rattle.live.proofs.Telling.{told_few, told_more}
use Rattle.live.proofs.listed.tell_all.Goals as goal

pub tell-requires : goal.tell-requires
tell-requires c =
    let i = c.loop-watch.watch-index in
    let t = c.loop-watch-test.true in
    let long = length-take-le i c.args.watches.now (omega arith) in
    let few = told_few (take i c.args.watches.now) in
    let told = ap length c.loop-watch.invariant.told in
    let spare = c.loop-watch.invariant.spare in
    let room = c.requires in
    omega arith

pub loop-watch-preserved : goal.loop-watch-preserved
loop-watch-preserved c =
    let i = c.loop-watch.watch-index in
    let w = c.watch-item.result in
    record {
      told =
          c.tell.ensures.told
          ∙ ap (λ ts. ts ++ map (told_as c.number.result) (events_of c.turn.result)) c.loop-watch.invariant.told
          ∙ ap (λ n. told_by (take i c.args.watches.now) ++ map (told_as n) (events_of c.turn.result)) c.number.ensures
          ∙ ap (λ (t : Turn). told_by (take i c.args.watches.now) ++ map (told_as w.number) (events_of t)) c.turn.ensures
          ∙ sym (told_more c.args.watches.now i w c.loop-watch-test.true c.watch-item.is);
      spare = c.tell.ensures.spare ∙ c.loop-watch.invariant.spare;
    }
