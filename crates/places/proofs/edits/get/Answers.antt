use Rattle.std.proofs.Common.{ℕ, List, ap, ◌∙◌, get_or}
use Rattle.places.proofs.Parts.{read}
use Rattle.places.proofs.Cuts.{by_nil}
use Rattle.places.proofs.edits.get.Goals as goal

pub returns : goal.returns
returns c =
    let cs : List (List ℕ) = c.args.chunks.now in
    let k : ℕ = c.seat-from.result.chunk in
    let o : ℕ = c.seat-from.result.offset in
    c.get.ensures ∙ ap (λ (x : List ℕ). get_or x o 0) (by_nil cs k c.index-chunks-from.result c.seat-from.ensures.seat.there c.index-chunks-from.is)
    ∙ read cs k o c.args.at 0 c.seat-from.ensures.seat c.seat-from.ensures.within
