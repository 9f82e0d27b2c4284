use Rattle.std.proofs.Common.{refl, ℕ, List, length, map, ap, ◌∙◌, arith}
use Rattle.std.specs.List.{concat}
use Rattle.std.proofs.lemmas.List.{length-map}
use Rattle.row_edits.specs.Runs.{kept_outside}
use Rattle.places.proofs.Stops.{written}
use Rattle.places.proofs.Passes.{concat-kept}
use Rattle.places.proofs.edits.close.Goals as goal

pub returns : goal.returns
returns c =
    let cs : List (List ℕ) = c.args.chunks.now.items in
    let one = c.close_all.auto.chunks in
    let two = c.deref_mut.ensures.len in
    let three = ap length c.deref_mut.ensures.value in
    let is = written c.args.chunks.now.len c.close_all.new.chunks cs (omega arith) (omega arith) ∙ c.close_all.ensures ∙ ap (map (kept_outside c.args.low c.args.count)) c.deref_mut.ensures.value in
    record {
      list = ap concat is ∙ concat-kept c.args.low c.args.count cs;
      len = ap length is ∙ length-map cs (kept_outside c.args.low c.args.count);
      capacity = refl;
    }
