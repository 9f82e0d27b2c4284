use Rattle.std.proofs.Common.{◌+◌, ◌<◌, ℕ, List, map, ap, sym, subst, ◌∙◌, inl, inr}
use Rattle.std.specs.List.{All}
use Rattle.std.proofs.lemmas.List.{map-id}
use Rattle.live.specs.Placing.{closed, opened, closed_by, opened_by}
use Rattle.live.specs.Watching.{comes_to, goes_from}
use Rattle.live.specs.declared.turn.Turn.{Turn}
use Rattle.live.specs.declared.turn.Turn.TheVariants.{Still}
use Rattle.live.proofs.Turning.{map_back}
use Rattle.live.proofs.keeper.move_numbers.Goals as goal

abbrev moved : Turn → List ℕ → List ℕ
moved turn kept = map (opened_by (comes_to turn)) (map (closed_by (goes_from turn)) kept)

pub open_at-requires-clause-within : goal.open_at-requires-clause-within
open_at-requires-clause-within c =
    subst (All (λ k. k + 1 < c.args.size)) (ap (λ t. map (closed_by (goes_from t)) c.args.kept.now.list) c.in-Comes.is ∙ map-id c.args.kept.now.list)
    (c.requires.within c.in-Comes.p (ap comes_to c.in-Comes.is))

pub open_at-requires-in-Moves-clause-within : goal.open_at-requires-in-Moves-clause-within
open_at-requires-in-Moves-clause-within c =
    subst (All (λ k. k + 1 < c.args.size)) (ap (λ t. map (closed_by (goes_from t)) c.args.kept.now.list) c.in-Moves.is ∙ sym c.close_at-in-Moves.ensures.list)
    (c.requires.within c.in-Moves.q (ap comes_to c.in-Moves.is))

pub returns-in-Still-clause-list : goal.returns-in-Still-clause-list
returns-in-Still-clause-list c =
    let kept = c.args.kept.now.list in
    elim c.in-Still.is [
      | inl e ↦ sym (ap (λ t. moved t kept) e ∙ map-id (map (closed_by (goes_from Still)) kept) ∙ map-id kept)
      | inr h ↦ sym (ap (λ t. moved t kept) h.1 ∙ map_back h.0 kept (c.requires.apart h.0 (ap goes_from h.1)))
    ]

pub returns-in-Comes-clause-list : goal.returns-in-Comes-clause-list
returns-in-Comes-clause-list c =
    c.open_at.ensures.list ∙ sym (ap (λ t. moved t c.args.kept.now.list) c.in-Comes.is ∙ ap (map (opened c.in-Comes.p)) (map-id c.args.kept.now.list))

pub returns-in-Goes-clause-list : goal.returns-in-Goes-clause-list
returns-in-Goes-clause-list c =
    c.close_at.ensures.list ∙ sym (ap (λ t. moved t c.args.kept.now.list) c.in-Goes.is ∙ map-id (map (closed c.in-Goes.p) c.args.kept.now.list))
