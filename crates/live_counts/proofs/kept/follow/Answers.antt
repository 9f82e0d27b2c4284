use Rattle.std.proofs.Common.{◌≡◌, [], ℕ, List, length, map, take, drop, ◌++◌, ap, sym, subst, ◌∙◌}
use Rattle.std.proofs.lemmas.List.{length-map}
use Rattle.live.specs.Placing.{closed_by, opened_by}
use Rattle.live.specs.Watching.{comes_to, goes_from, placed, stays, told}
use Rattle.live.specs.declared.op.WatchOp.TheVariants.{Range}
use Rattle.live.specs.declared.turn.Turn.{Turn}
use Rattle.live.proofs.Turning.{written}
use Rattle.live_counts.specs.Filtering.{IsEntered}
use Rattle.live_counts.proofs.Flagged.{filter_apart, filter_now, filter_place, filter_small, kept_order, left_order, left_small}
use Rattle.live_counts.proofs.kept.follow.Goals as goal

pub place_of_going-going-requires : goal.place_of_going-going-requires
place_of_going-going-requires c =
    let h = c.requires.due in
    record { order = kept_order h.0 c.args.kept.now.items c.args.turn c.args.fits h.1 h.2 c.deref.result.now c.deref.ensures.value }

pub renumber-requires-clause-small : goal.renumber-requires-clause-small
renumber-requires-clause-small c =
    let h = c.requires.due in
    filter_small h.0 c.args.kept.now.items c.args.turn c.args.fits h.1 h.2 c.place_of_going-going.result (c.place_of_going-going.ensures ∙ ap (λ (ks : List ℕ). placed ks (goes_from c.args.turn)) c.deref.ensures.value)
    c.deref_mut.result.now (c.deref_mut.ensures.value ∙ c.leave.ensures.items)

pub renumber-requires-clause-apart : goal.renumber-requires-clause-apart
renumber-requires-clause-apart c =
    let h = c.requires.due in
    filter_apart h.0 c.args.kept.now.items c.args.turn c.args.fits h.1 h.2 c.place_of_going-going.result (c.place_of_going-going.ensures ∙ ap (λ (ks : List ℕ). placed ks (goes_from c.args.turn)) c.deref.ensures.value)
    c.deref_mut.result.now (c.deref_mut.ensures.value ∙ c.leave.ensures.items)

-- what is left once the numbers are moved
moved : (n : ℕ) (turn : Turn) (ks new items : List ℕ) → new ≡ map (opened_by (comes_to turn)) (map (closed_by (goes_from turn)) ks) → ks ≡ items → length items ≡ n
    → take n (new ++ drop (length new) items) ≡ map (opened_by (comes_to turn)) (map (closed_by (goes_from turn)) ks)
moved n turn ks new items e f long =
    let size = ap length e ∙ length-map (map (closed_by (goes_from turn)) ks) (opened_by (comes_to turn)) ∙ length-map ks (closed_by (goes_from turn)) ∙ ap length f ∙ long in
    written n new items long size ∙ e

pub enter-to-requires-clause-order : goal.enter-to-requires-clause-order
enter-to-requires-clause-order c = λ row is.
    let h = c.requires.due in
    let left = c.leave.new.kept in
    left_order h.0 c.args.kept.now.items c.args.turn c.args.fits h.1 h.2 c.place_of_going-going.result (c.place_of_going-going.ensures ∙ ap (λ (ks : List ℕ). placed ks (goes_from c.args.turn)) c.deref.ensures.value)
    c.deref_mut.result.now (c.deref_mut.ensures.value ∙ c.leave.ensures.items)
    (take left.len (c.renumber.new.kept ++ drop (length c.renumber.new.kept) left.items)) (moved left.len c.args.turn c.deref_mut.result.now c.renumber.new.kept left.items c.renumber.ensures c.deref_mut.ensures.value (sym left.ok.0))
    row (sym c.comes_to.ensures ∙ is)

pub enter-to-requires-clause-small : goal.enter-to-requires-clause-small
enter-to-requires-clause-small c = λ row is.
    let h = c.requires.due in
    let left = c.leave.new.kept in
    left_small h.0 c.args.kept.now.items c.args.turn c.args.fits h.1 h.2 c.place_of_going-going.result (c.place_of_going-going.ensures ∙ ap (λ (ks : List ℕ). placed ks (goes_from c.args.turn)) c.deref.ensures.value)
    c.deref_mut.result.now (c.deref_mut.ensures.value ∙ c.leave.ensures.items)
    (take left.len (c.renumber.new.kept ++ drop (length c.renumber.new.kept) left.items)) (moved left.len c.args.turn c.deref_mut.result.now c.renumber.new.kept left.items c.renumber.ensures c.deref_mut.ensures.value (sym left.ok.0))
    row (sym c.comes_to.ensures ∙ is)

pub returns-clause-now : goal.returns-clause-now
returns-clause-now c = λ test rows h.
    let left = c.leave.new.kept in
    let all : List ℕ = take left.len (c.renumber.new.kept ++ drop (length c.renumber.new.kept) left.items) in
    filter_now test c.args.kept.now.items c.args.turn c.args.fits rows h c.place_of_going-going.result (c.place_of_going-going.ensures ∙ ap (λ (ks : List ℕ). placed ks (goes_from c.args.turn)) c.deref.ensures.value)
    c.deref_mut.result.now (c.deref_mut.ensures.value ∙ c.leave.ensures.items)
    all (moved left.len c.args.turn c.deref_mut.result.now c.renumber.new.kept left.items c.renumber.ensures c.deref_mut.ensures.value (sym left.ok.0))
    c.enter-to.result c.enter-to.new.kept.items (subst (λ o. IsEntered all o c.args.fits c.enter-to.new.kept.items c.enter-to.result) c.comes_to.ensures c.enter-to.ensures.entered)

pub returns-clause-told : goal.returns-clause-told
returns-clause-told c =
    let h = c.requires.due in
    let left = c.leave.new.kept in
    let all : List ℕ = take left.len (c.renumber.new.kept ++ drop (length c.renumber.new.kept) left.items) in
    let going : c.place_of_going-going.result ≡ placed c.args.kept.now.items (goes_from c.args.turn) = c.place_of_going-going.ensures ∙ ap (λ (ks : List ℕ). placed ks (goes_from c.args.turn)) c.deref.ensures.value in
    let to : c.enter-to.result ≡ placed c.enter-to.new.kept.items (comes_to c.args.turn) =
    filter_place h.0 c.args.kept.now.items c.args.turn c.args.fits h.1 h.2 c.place_of_going-going.result going
    c.deref_mut.result.now (c.deref_mut.ensures.value ∙ c.leave.ensures.items)
    all (moved left.len c.args.turn c.deref_mut.result.now c.renumber.new.kept left.items c.renumber.ensures c.deref_mut.ensures.value (sym left.ok.0))
    c.enter-to.result c.enter-to.new.kept.items (subst (λ o. IsEntered all o c.args.fits c.enter-to.new.kept.items c.enter-to.result) c.comes_to.ensures c.enter-to.ensures.entered) in
    c.told.ensures
    ∙ ap (λ b. told b c.place_of_going-going.result c.enter-to.result) c.is_change.ensures
    ∙ ap (λ o. told (stays (Range []) c.args.turn) o c.enter-to.result) going
    ∙ ap (told (stays (Range []) c.args.turn) (placed c.args.kept.now.items (goes_from c.args.turn))) to
