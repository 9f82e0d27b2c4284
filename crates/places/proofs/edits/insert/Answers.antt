use Rattle.std.proofs.Common.{◌≡◌, ◌+◌, ◌<◌, ◌^◌, ℕ, List, [], ◌++◌, length, get_or, set, take, drop, map, subst, sym, ap, ◌∙◌, arith}
use Rattle.std.specs.List.{All, concat, insert}
use Rattle.std.proofs.lemmas.List.{length-set}
use Rattle.std.proofs.lemmas.List.Edits.{length-insert}
use Rattle.places.specs.Chunks.{ends_of}
use Rattle.places.proofs.Parts.{inserted}
use Rattle.places.proofs.Cuts.{by_nil}
use Rattle.places.proofs.Stops.{length-ends, ends_small, ends_more, written}
use Rattle.places.proofs.edits.insert.Goals as goal

stops : (c : goal.After-ends-1) → c.deref_mut.result.now ≡ ends_of 0 c.make_room-to.new.chunks.items
stops c = c.deref_mut.ensures.value ∙ c.make_room-to.ensures.held.placed

pub raise_ends-requires-clause-there : goal.raise_ends-requires-clause-there
raise_ends-requires-clause-there c =
    let cs : List (List ℕ) = c.make_room-to.new.chunks.items in
    let a = ap length (c.deref_mut.ensures.value ∙ c.make_room-to.ensures.held.placed) in
    let b = length-ends 0 cs in
    let t = c.make_room-to.ensures.seat.there in
    omega arith

pub raise_ends-requires-clause-small : goal.raise_ends-requires-clause-small
raise_ends-requires-clause-small c =
    let few = c.make_room-to.ensures.held.few in
    subst (λ (es : List ℕ). All (λ e. e + 1 < 2 ^ 32) es) (sym (c.deref_mut.ensures.value ∙ c.make_room-to.ensures.held.placed)) (ends_small c.make_room-to.new.chunks.items 1 (omega arith))

new_chunk : (c : goal.After-ends-1) → c.insert.new.self ≡ insert (get_or c.make_room-to.new.chunks.items c.make_room-to.result.chunk []) c.make_room-to.result.offset c.args.position
new_chunk c =
    let is = by_nil c.make_room-to.new.chunks.items c.make_room-to.result.chunk c.index_mut.result.now c.make_room-to.ensures.seat.there c.index_mut.ensures.value in
    c.insert.ensures ∙ ap (λ (x : List ℕ). insert x c.make_room-to.result.offset c.args.position) is

new_list : (c : goal.After-ends-1) → concat (set c.make_room-to.new.chunks.items c.make_room-to.result.chunk c.insert.new.self) ≡ insert (concat c.args.chunks.now.items) c.args.at c.args.position
new_list c =
    let cs : List (List ℕ) = c.make_room-to.new.chunks.items in
    let k : ℕ = c.make_room-to.result.chunk in
    ap (λ (x : List ℕ). concat (set cs k x)) (new_chunk c) ∙ inserted cs k c.make_room-to.result.offset c.args.at c.args.position c.make_room-to.ensures.seat
    ∙ ap (λ (xs : List ℕ). insert xs c.args.at c.args.position) c.make_room-to.ensures.list

pub returns-clause-held : goal.returns-clause-held
returns-clause-held c =
    let cs : List (List ℕ) = c.make_room-to.new.chunks.items in
    let k : ℕ = c.make_room-to.result.chunk in
    let x : List ℕ = c.insert.new.self in
    let s = c.make_room-to.ensures.seat in
    let held = c.make_room-to.ensures.held in
    let old : List ℕ = get_or cs k [] in
    let long : length x ≡ length old + 1 = ap length (new_chunk c) ∙ length-insert old c.make_room-to.result.offset c.args.position s.within in
    let all = ap length (new_list c) ∙ length-insert (concat c.args.chunks.now.items) c.args.at c.args.position c.requires.there in
    let same = length-set cs k x in
    let few = c.requires.few in
    let fits = held.fits in
    let ends_fit = held.ends_fit in
    let one = c.raise_ends.auto.ends in
    let two = c.deref_mut.ensures.len in
    let three = ap length c.deref_mut.ensures.value in
    record {
      placed =
          written c.make_room-to.new.ends.len c.raise_ends.new.ends c.make_room-to.new.ends.items (omega arith) (omega arith)
          ∙ c.raise_ends.ensures ∙ ap (λ (es : List ℕ). take k es ++ map (λ e. e + 1) (drop k es)) (stops c) ∙ sym (ends_more 0 1 cs k x s.there long);
      few = omega arith;
      empty = held.empty;
      fits = omega arith;
      ends_fit = omega arith;
    }

pub returns-clause-list : goal.returns-clause-list
returns-clause-list c = new_list c
