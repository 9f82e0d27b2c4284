use Rattle.std.proofs.Common.{◌≡◌, ◌+◌, ◌<◌, ◌^◌, ◌++◌, ℕ, List, [], length, get_or, set, take, drop, map, subst, sym, ap, ◌∙◌, arith}
use Rattle.std.specs.List.{All, concat}
use Rattle.std.proofs.lemmas.List.{length-append, length-drop, length-take-le}
use Rattle.row_edits.specs.Runs.{run}
use Rattle.row_edits.proofs.Runs.{length-run}
use Rattle.places.proofs.Cuts.{by_nil, came_in}
use Rattle.places.proofs.Stops.{length-ends, ends_small, ends_more, written}
use Rattle.places.proofs.edits.insert_within.Goals as goal

pub raise_ends-requires-clause-there : goal.raise_ends-requires-clause-there
raise_ends-requires-clause-there c =
    let a = ap length (c.deref_mut.ensures.value ∙ c.requires.ends) in
    let b = length-ends 0 c.args.chunks.now.items in
    let t = c.requires.seat.there in
    omega arith

pub raise_ends-requires-clause-small : goal.raise_ends-requires-clause-small
raise_ends-requires-clause-small c =
    let few = c.requires.few in
    subst (λ (es : List ℕ). All (λ e. e + c.args.count < 2 ^ 32) es) (sym (c.deref_mut.ensures.value ∙ c.requires.ends)) (ends_small c.args.chunks.now.items c.args.count (omega arith))

new_chunk : (c : goal.After-ends-1) → c.insert_run.new.self ≡ take c.args.to.offset (get_or c.args.chunks.now.items c.args.to.chunk []) ++ (run c.args.first c.args.count ++ drop c.args.to.offset (get_or c.args.chunks.now.items c.args.to.chunk []))
new_chunk c =
    let is = by_nil c.args.chunks.now.items c.args.to.chunk c.index_mut.result.now c.requires.seat.there c.index_mut.ensures.value in
    c.insert_run.ensures ∙ ap (λ (x : List ℕ). take c.args.to.offset x ++ (run c.args.first c.args.count ++ drop c.args.to.offset x)) is

pub returns-clause-ends : goal.returns-clause-ends
returns-clause-ends c =
    let cs : List (List ℕ) = c.args.chunks.now.items in
    let k : ℕ = c.args.to.chunk in
    let o : ℕ = c.args.to.offset in
    let old : List ℕ = get_or cs k [] in
    let more : List ℕ = run c.args.first c.args.count in
    let x : List ℕ = c.insert_run.new.self in
    let e = ap length (new_chunk c) in
    let f = length-append (take o old) (more ++ drop o old) in
    let g = length-append more (drop o old) in
    let h = length-run c.args.first c.args.count in
    let i = length-take-le o old c.requires.seat.within in
    let j = length-drop o old in
    let w = c.requires.seat.within in
    let long : length x ≡ length old + c.args.count = omega arith in
    let one = c.raise_ends.auto.ends in
    let two = c.deref_mut.ensures.len in
    let three = ap length c.deref_mut.ensures.value in
    written c.args.ends.now.len c.raise_ends.new.ends c.args.ends.now.items (omega arith) (omega arith)
    ∙ c.raise_ends.ensures ∙ ap (λ (es : List ℕ). take k es ++ map (λ e. e + c.args.count) (drop k es)) (c.deref_mut.ensures.value ∙ c.requires.ends) ∙ sym (ends_more 0 c.args.count cs k x c.requires.seat.there long)

pub returns-clause-list : goal.returns-clause-list
returns-clause-list c =
    ap (λ (x : List ℕ). concat (set c.args.chunks.now.items c.args.to.chunk x)) (new_chunk c) ∙ came_in c.args.chunks.now.items c.args.to.chunk c.args.to.offset c.args.at c.requires.seat (run c.args.first c.args.count)
