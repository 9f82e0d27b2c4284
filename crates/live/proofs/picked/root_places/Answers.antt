use Rattle.std.proofs.Common.{◌≡◌, ◌++◌, ◌∷◌, [], ℕ, Some, length, get_or, map, refl, ap, arith, sym, ◌∙◌}
use Rattle.std.proofs.lemmas.List.{map-append}
use Rattle.relations.specs.Positions.{numbers}
use Rattle.relations.proofs.Numbers.{numbers_more}
use Rattle.live.specs.Chains.{place_in_root}
use Rattle.live.specs.States.{WatchState}
use Rattle.live.proofs.Leading.{lead_to, stands}
use Rattle.live.proofs.Seeing.{linked_inside, seen_size}
use Rattle.live.proofs.picked.root_places.Goals as goal

pub root_place-requires-clause-inside : goal.root_place-requires-clause-inside
root_place-requires-clause-inside g c = linked_inside (g.T.TableRead.rows c.args.rows.now) c.args.watches.now c.requires.linked

pub overflow_cast-root_place : goal.overflow_cast-root_place
overflow_cast-root_place g c =
    let rows = g.T.TableRead.rows c.args.rows.now in
    let watches = c.args.watches.now in
    let size = seen_size rows watches (Some c.args.over) c.requires.linked.sources c.args.over c.index-watches-over.result refl c.requires.there in
    let end = c.len-row-end.ensures in
    let t = c.loop-row-test.true in
    let is = ap (λ (x : WatchState). length x.kept) c.index-watches-over.is in
    let near = (stands rows watches c.requires.linked c.args.over c.requires.there c.loop-row.row (omega arith)).0 in
    let few = c.requires.linked.small in
    let e = c.root_place.ensures in
    record { fits = omega arith }

pub loop-row-preserved : goal.loop-row-preserved
loop-row-preserved g c =
    let place : ℕ → ℕ = place_in_root c.args.watches.now (Some c.args.over) in
    c.in_ok-push.ensures.items
    ∙ ap (λ xs. xs ++ c.root_place.result ∷ []) c.loop-row.invariant
    ∙ ap (λ x. map place (numbers c.loop-row.row) ++ x ∷ []) c.root_place.ensures
    ∙ sym (map-append place (numbers c.loop-row.row) (c.loop-row.row ∷ []))
    ∙ ap (map place) (sym (numbers_more c.loop-row.row))

pub returns : goal.returns
returns g c =
    let end = c.len-row-end.ensures in
    let t = c.loop-row-test.false in
    let auto = c.loop-row.auto.row-end in
    let is = ap (λ (x : WatchState). length x.kept) c.index-watches-over.is in
    let all : c.loop-row.row ≡ length (get_or c.args.watches.now c.args.over c.index-watches-over.result).kept = omega arith in
    lead_to (g.T.TableRead.rows c.args.rows.now) c.args.watches.now c.requires.linked c.args.over c.requires.there c.loop-row.places.items c.index-watches-over.result
    (c.loop-row.invariant ∙ ap (λ n. map (place_in_root c.args.watches.now (Some c.args.over)) (numbers n)) all)
