use Rattle.std.proofs.Common.{◌≡◌, ◌++◌, ◌∷◌, [], ℕ, Some, None, length, get_or, map, ap, arith, sym, ◌∙◌}
use Rattle.std.proofs.lemmas.List.{map-append}
use Rattle.relations.specs.Positions.{numbers}
use Rattle.relations.proofs.Numbers.{numbers_more}
use Rattle.live.specs.Chains.{place_in_root}
use Rattle.live.specs.Numbers.{place_of}
use Rattle.live.specs.States.{WatchState}
use Rattle.live.specs.declared.answer.Answer.TheVariants.{Nothing}
use Rattle.live.specs.declared.turn.Turn.TheVariants.{Still}
use Rattle.live.specs.declared.op.WatchOp.TheVariants.{Sort}
use Rattle.live.proofs.Leading.{lead_to, row_stands}
use Rattle.live.proofs.Standing.{now_linked}
use Rattle.watches.proofs.putting.watch_positions.Goals as goal

-- any watch
some_watch : WatchState
some_watch = record { number = 0; source = None; op = Sort []; kept = []; room = 0; going = None; turn = Still; answer = Nothing; followed = 0 }

pub overflow_cast-at : goal.overflow_cast-at
overflow_cast-at g c =
    let ws = c.args.watches.now.watches in
    let t = c.loop-row-test.true in
    let long = c.len-row-end.ensures some_watch in
    let near = (row_stands (g.T.TableRead.schema c.args.rows.now) (g.T.TableRead.rows c.args.rows.now) ws (place_of ws c.args.watch) some_watch c.loop-row.row c.requires.now c.requires.there (omega arith)).0 in
    let few = c.requires.now.small in
    let e = c.at.ensures in
    record { fits = omega arith }

pub loop-row-preserved : goal.loop-row-preserved
loop-row-preserved g c =
    let ws = c.args.watches.now.watches in
    let place : ℕ → ℕ = place_in_root ws (Some (place_of ws c.args.watch)) in
    c.in_ok-push.ensures.ok
    ∙ ap (λ xs. xs ++ c.at.result ∷ []) c.loop-row.invariant
    ∙ ap (λ x. map place (numbers c.loop-row.row) ++ x ∷ []) c.at.ensures
    ∙ sym (map-append place (numbers c.loop-row.row) (c.loop-row.row ∷ []))
    ∙ ap (map place) (sym (numbers_more c.loop-row.row))

pub returns : goal.returns
returns g c =
    let ws = c.args.watches.now.watches in
    let t = c.loop-row-test.false in
    let auto = c.loop-row.auto.row-end in
    let long = c.len-row-end.ensures some_watch in
    let all : c.loop-row.row ≡ length (get_or ws (place_of ws c.args.watch) some_watch).kept = omega arith in
    lead_to (g.T.TableRead.rows c.args.rows.now) ws (now_linked (g.T.TableRead.schema c.args.rows.now) (g.T.TableRead.rows c.args.rows.now) ws c.requires.now) (place_of ws c.args.watch) c.requires.there c.loop-row.places some_watch
    (c.loop-row.invariant ∙ ap (λ n. map (place_in_root ws (Some (place_of ws c.args.watch))) (numbers n)) all)
