use Rattle.std.proofs.Common.{refl, ℕ, List, length, map, ap, ◌∙◌, arith}
use Rattle.std.specs.List.{concat}
use Rattle.std.proofs.lemmas.List.{length-map}
use Rattle.places.specs.Numbers.{kept_ranked}
use Rattle.places.proofs.Stops.{written}
use Rattle.places.proofs.Ranking.{concat-ranked}
use Rattle.places.proofs.edits.rank.Goals as goal

pub returns : goal.returns
returns c =
    let cs : List (List ℕ) = c.args.chunks.now.items in
    let one = c.rank_all.auto.chunks in
    let two = c.deref_mut.ensures.len in
    let three = ap length c.deref_mut.ensures.value in
    let is = written c.args.chunks.now.len c.rank_all.new.chunks cs (omega arith) (omega arith) ∙ c.rank_all.ensures ∙ ap (map (kept_ranked c.args.ranks.now)) c.deref_mut.ensures.value in
    record {
      list = ap concat is ∙ concat-ranked c.args.ranks.now cs;
      len = ap length is ∙ length-map cs (kept_ranked c.args.ranks.now);
      capacity = refl;
    }
