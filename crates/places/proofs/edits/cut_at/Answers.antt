use Rattle.std.proofs.Common.{◌<◌, ◌≤◌, ℕ, List, length, subst, sym, ap, ◌∙◌}
use Rattle.std.specs.List.{concat}
use Rattle.places.specs.Chunks.{IsSeat, ends_of}
use Rattle.places.proofs.Cuts.{by_nil, cut_list, cut_held, front_end, back_end, front_cut, back_cut}
use Rattle.places.proofs.edits.cut_at.Goals as goal

pub returns-then-to-len-clause-front : goal.returns-then-to-len-clause-front
returns-then-to-len-clause-front c =
    let cs : List (List ℕ) = c.args.chunks.now.items in
    let k : ℕ = c.seat_behind-to.result.chunk in
    let seat : IsSeat cs k c.seat_behind-to.result.offset c.args.at = subst (λ (ys : List (List ℕ)). IsSeat ys k c.seat_behind-to.result.offset c.args.at) c.deref.ensures.value c.seat_behind-to.ensures in
    let is = by_nil cs k c.index.result.now seat.there c.index.ensures in
    front_end cs k c.seat_behind-to.result.offset c.args.at seat (c.if-to-len.true ∙ c.len.ensures.value ∙ ap length is)

pub returns-then-to-len-clause-back : goal.returns-then-to-len-clause-back
returns-then-to-len-clause-back c =
    let cs : List (List ℕ) = c.args.chunks.now.items in
    let k : ℕ = c.seat_behind-to.result.chunk in
    let seat : IsSeat cs k c.seat_behind-to.result.offset c.args.at = subst (λ (ys : List (List ℕ)). IsSeat ys k c.seat_behind-to.result.offset c.args.at) c.deref.ensures.value c.seat_behind-to.ensures in
    let is = by_nil cs k c.index.result.now seat.there c.index.ensures in
    back_end cs k c.seat_behind-to.result.offset c.args.at seat (c.if-to-len.true ∙ c.len.ensures.value ∙ ap length is)

pub write_ends-requires-clause-few : goal.write_ends-requires-clause-few
write_ends-requires-clause-few c =
    let there = subst (λ (ys : List (List ℕ)). c.seat_behind-to.result.chunk < length ys) c.deref.ensures.value c.seat_behind-to.ensures.there in
    subst (λ (xs : List ℕ). length xs ≤ 16777216) (sym (ap concat c.deref-3.ensures.value ∙ cut_list c.args.chunks.now.items c.split.new.chunks.items c.seat_behind-to.result.chunk c.seat_behind-to.result.offset there c.split.ensures.items)) c.requires.held.few

pub returns-clause-held : goal.returns-clause-held
returns-clause-held c =
    let there = subst (λ (ys : List (List ℕ)). c.seat_behind-to.result.chunk < length ys) c.deref.ensures.value c.seat_behind-to.ensures.there in
    cut_held _ _ _ _ _ _ _ _ _ _ c.seat_behind-to.result.chunk c.seat_behind-to.result.offset c.requires.held there c.split.ensures.items (c.write_ends.ensures.ends ∙ ap (ends_of 0) c.deref-3.ensures.value) c.split.ensures.capacity c.write_ends.ensures.capacity
    c.take_spare.ensures.rest c.take_spare.ensures.len

pub returns-clause-front : goal.returns-clause-front
returns-clause-front c =
    let cs : List (List ℕ) = c.args.chunks.now.items in
    let k : ℕ = c.seat_behind-to.result.chunk in
    let seat : IsSeat cs k c.seat_behind-to.result.offset c.args.at = subst (λ (ys : List (List ℕ)). IsSeat ys k c.seat_behind-to.result.offset c.args.at) c.deref.ensures.value c.seat_behind-to.ensures in
    front_cut cs k c.seat_behind-to.result.offset c.args.at seat c.split.new.chunks.items c.split.ensures.items

pub returns-clause-back : goal.returns-clause-back
returns-clause-back c =
    let cs : List (List ℕ) = c.args.chunks.now.items in
    let k : ℕ = c.seat_behind-to.result.chunk in
    let seat : IsSeat cs k c.seat_behind-to.result.offset c.args.at = subst (λ (ys : List (List ℕ)). IsSeat ys k c.seat_behind-to.result.offset c.args.at) c.deref.ensures.value c.seat_behind-to.ensures in
    back_cut cs k c.seat_behind-to.result.offset c.args.at seat c.split.new.chunks.items c.split.ensures.items
