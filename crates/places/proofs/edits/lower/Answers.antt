use Rattle.std.proofs.Common.{refl, ℕ, List, length, map, ap, ◌∙◌, arith}
use Rattle.std.specs.List.{concat}
use Rattle.std.proofs.lemmas.List.{length-map}
use Rattle.places.specs.Chunks.{ends_of}
use Rattle.row_edits.specs.Runs.{moved_down}
use Rattle.places.proofs.Stops.{written}
use Rattle.places.proofs.Passes.{concat-map, ends-map}
use Rattle.places.proofs.edits.lower.Goals as goal

pub returns : goal.returns
returns c =
    let f : ℕ → ℕ = moved_down c.args.at c.args.count in
    let cs : List (List ℕ) = c.args.chunks.now.items in
    let one = c.lower_all.auto.chunks in
    let two = c.deref_mut.ensures.len in
    let three = ap length c.deref_mut.ensures.value in
    let is = written c.args.chunks.now.len c.lower_all.new.chunks cs (omega arith) (omega arith) ∙ c.lower_all.ensures ∙ ap (map (map f)) c.deref_mut.ensures.value in
    record {
      items = is;
      list = ap concat is ∙ concat-map f cs;
      ends = ap (ends_of 0) is ∙ ends-map f 0 cs;
      len = ap length is ∙ length-map cs (map f);
      capacity = refl;
    }
