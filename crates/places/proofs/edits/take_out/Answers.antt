use Rattle.std.proofs.Common.{◌≡◌, ◌+◌, ◌-◌, ◌<◌, ◌≤◌, ℕ, List, [], ◌++◌, length, get_or, set, take, drop, map, subst, sym, ap, ◌∙◌, arith}
use Rattle.std.specs.List.{concat, remove}
use Rattle.std.proofs.lemmas.List.Edits.{length-remove}
use Rattle.places.specs.Chunks.{IsSeat}
use Rattle.places.proofs.Parts.{removed}
use Rattle.places.proofs.Cuts.{by_nil}
use Rattle.places.proofs.Stops.{length-ends, ends_large, ends_less, written}
use Rattle.places.proofs.edits.take_out.Goals as goal

seat : (c : goal.After-deref_mut) → IsSeat c.args.chunks.now.items c.seat-from.result.chunk c.seat-from.result.offset c.args.at
seat c = subst (λ (cs : List (List ℕ)). IsSeat cs c.seat-from.result.chunk c.seat-from.result.offset c.args.at) c.deref.ensures.value c.seat-from.ensures.seat

within : (c : goal.After-deref_mut) → c.seat-from.result.offset < length (get_or c.args.chunks.now.items c.seat-from.result.chunk [])
within c = subst (λ (cs : List (List ℕ)). c.seat-from.result.offset < length (get_or cs c.seat-from.result.chunk [])) c.deref.ensures.value c.seat-from.ensures.within

pub lower_ends-requires-clause-there : goal.lower_ends-requires-clause-there
lower_ends-requires-clause-there c =
    let a = ap length (c.deref_mut.ensures.value ∙ c.requires.ends) in
    let b = length-ends 0 c.args.chunks.now.items in
    let t = (subst (λ (cs : List (List ℕ)). IsSeat cs c.seat-from.result.chunk c.seat-from.result.offset c.args.at) c.deref.ensures.value c.seat-from.ensures.seat).there in
    omega arith

pub lower_ends-requires-clause-large : goal.lower_ends-requires-clause-large
lower_ends-requires-clause-large c =
    let k : ℕ = c.seat-from.result.chunk in
    let w = within c in
    subst (λ (es : List ℕ). (j : ℕ) → k ≤ j → j < length es → 1 ≤ get_or es j 0) (sym (c.deref_mut.ensures.value ∙ c.requires.ends)) (ends_large c.args.chunks.now.items k (seat c).there (omega arith))

seat2 : (c : goal.After-ends-1) → IsSeat c.args.chunks.now.items c.seat-from.result.chunk c.seat-from.result.offset c.args.at
seat2 c = subst (λ (cs : List (List ℕ)). IsSeat cs c.seat-from.result.chunk c.seat-from.result.offset c.args.at) c.deref.ensures.value c.seat-from.ensures.seat

within2 : (c : goal.After-ends-1) → c.seat-from.result.offset < length (get_or c.args.chunks.now.items c.seat-from.result.chunk [])
within2 c = subst (λ (cs : List (List ℕ)). c.seat-from.result.offset < length (get_or cs c.seat-from.result.chunk [])) c.deref.ensures.value c.seat-from.ensures.within

new_chunk : (c : goal.After-ends-1) → c.remove.new.self ≡ remove (get_or c.args.chunks.now.items c.seat-from.result.chunk []) c.seat-from.result.offset
new_chunk c =
    let is = by_nil c.args.chunks.now.items c.seat-from.result.chunk c.index_mut.result.now (seat2 c).there c.index_mut.ensures.value in
    c.remove.ensures ∙ ap (λ (x : List ℕ). remove x c.seat-from.result.offset) is

pub returns-clause-ends : goal.returns-clause-ends
returns-clause-ends c =
    let cs : List (List ℕ) = c.args.chunks.now.items in
    let k : ℕ = c.seat-from.result.chunk in
    let x : List ℕ = c.remove.new.self in
    let long : length x + 1 ≡ length (get_or cs k []) = ap (λ (ys : List ℕ). length ys + 1) (new_chunk c) ∙ length-remove (get_or cs k []) c.seat-from.result.offset (within2 c) in
    let one = c.lower_ends.auto.ends in
    let two = c.deref_mut.ensures.len in
    let three = ap length c.deref_mut.ensures.value in
    written c.args.ends.now.len c.lower_ends.new.ends c.args.ends.now.items (omega arith) (omega arith)
    ∙ c.lower_ends.ensures ∙ ap (λ (es : List ℕ). take k es ++ map (λ e. e - 1) (drop k es)) (c.deref_mut.ensures.value ∙ c.requires.ends) ∙ sym (ends_less 0 1 cs k x (seat2 c).there long)

pub returns-clause-list : goal.returns-clause-list
returns-clause-list c =
    let cs : List (List ℕ) = c.args.chunks.now.items in
    let k : ℕ = c.seat-from.result.chunk in
    ap (λ (x : List ℕ). concat (set cs k x)) (new_chunk c) ∙ removed cs k c.seat-from.result.offset c.args.at (seat2 c) (within2 c)
