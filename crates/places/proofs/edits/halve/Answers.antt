use Rattle.std.proofs.Common.{◌+◌, ◌-◌, ◌≤◌, ℕ, List, [], length, get_or, subst, sym, ap, ◌∙◌, arith}
use Rattle.std.specs.List.{concat}
use Rattle.std.proofs.lemmas.List.{length-take-le, length-drop}
use Rattle.places.specs.Chunks.{IsSeat, ends_of}
use Rattle.places.proofs.Cuts.{cut_list, cut_held, first_half, second_half, low_seat, high_seat}
use Rattle.places.proofs.edits.halve.Goals as goal

pub write_ends-requires-clause-few : goal.write_ends-requires-clause-few
write_ends-requires-clause-few c =
    subst (λ (xs : List ℕ). length xs ≤ 16777216) (sym (ap concat c.deref.ensures.value ∙ cut_list c.args.chunks.now.items c.split.new.chunks.items c.args.from.chunk 1024 c.requires.seat.there c.split.ensures.items)) c.requires.held.few

pub returns-then-from-le1024-clause-held : goal.returns-then-from-le1024-clause-held
returns-then-from-le1024-clause-held c =
    cut_held _ _ _ _ _ _ _ _ _ _ c.args.from.chunk 1024 c.requires.held c.requires.seat.there c.split.ensures.items (c.write_ends.ensures.ends ∙ ap (ends_of 0) c.deref.ensures.value) c.split.ensures.capacity c.write_ends.ensures.capacity
    c.take_spare.ensures.rest c.take_spare.ensures.len

pub returns-then-from-le1024-clause-list : goal.returns-then-from-le1024-clause-list
returns-then-from-le1024-clause-list c = cut_list c.args.chunks.now.items c.split.new.chunks.items c.args.from.chunk 1024 c.requires.seat.there c.split.ensures.items

pub returns-then-from-le1024-clause-seat : goal.returns-then-from-le1024-clause-seat
returns-then-from-le1024-clause-seat c =
    let f = c.requires.full in
    subst (λ (cs : List (List ℕ)). IsSeat cs c.args.from.chunk c.args.from.offset c.args.at) (sym c.split.ensures.items)
    (low_seat c.args.chunks.now.items c.args.from.chunk 1024 c.requires.seat.there c.args.from.offset c.args.at (omega arith) c.requires.seat c.if-from-le1024.true)

pub returns-then-from-le1024-clause-room : goal.returns-then-from-le1024-clause-room
returns-then-from-le1024-clause-room c =
    let f = c.requires.full in
    let cs : List (List ℕ) = c.args.chunks.now.items in
    let k : ℕ = c.args.from.chunk in
    let e = ap (λ (ys : List (List ℕ)). length (get_or ys k [])) c.split.ensures.items in
    let a = ap length (first_half cs k 1024 c.requires.seat.there) in
    let b = length-take-le 1024 (get_or cs k []) (omega arith) in
    omega arith

pub returns-clause-held : goal.returns-clause-held
returns-clause-held c =
    cut_held _ _ _ _ _ _ _ _ _ _ c.args.from.chunk 1024 c.requires.held c.requires.seat.there c.split.ensures.items (c.write_ends.ensures.ends ∙ ap (ends_of 0) c.deref.ensures.value) c.split.ensures.capacity c.write_ends.ensures.capacity
    c.take_spare.ensures.rest c.take_spare.ensures.len

pub returns-clause-list : goal.returns-clause-list
returns-clause-list c = cut_list c.args.chunks.now.items c.split.new.chunks.items c.args.from.chunk 1024 c.requires.seat.there c.split.ensures.items

pub returns-clause-seat : goal.returns-clause-seat
returns-clause-seat c =
    let f = c.requires.full in
    subst (λ (cs : List (List ℕ)). IsSeat cs (c.args.from.chunk + 1) (c.args.from.offset - 1024) c.args.at) (sym c.split.ensures.items)
    (high_seat c.args.chunks.now.items c.args.from.chunk 1024 c.requires.seat.there c.args.from.offset c.args.at (omega arith) c.requires.seat c.if-from-le1024.false)

pub returns-clause-room : goal.returns-clause-room
returns-clause-room c =
    let f = c.requires.full in
    let cs : List (List ℕ) = c.args.chunks.now.items in
    let k : ℕ = c.args.from.chunk in
    let e = ap (λ (ys : List (List ℕ)). length (get_or ys (k + 1) [])) c.split.ensures.items in
    let a = ap length (second_half cs k 1024 c.requires.seat.there) in
    let b = length-drop 1024 (get_or cs k []) in
    omega arith
