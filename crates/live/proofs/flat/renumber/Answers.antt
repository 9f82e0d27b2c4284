use Rattle.std.proofs.Common.{◌+◌, ◌<◌, ◌^◌, ℕ, List, map, All, ap, sym, subst, ◌∙◌, inl, inr}
use Rattle.std.proofs.lemmas.List.{map-id}
use Rattle.live.specs.declared.turn.Turn.{Turn}
use Rattle.live.specs.declared.turn.Turn.TheVariants.{Still}
use Rattle.live.proofs.flat.renumber.Goals as goal
use Rattle.live.specs.Placing.{closed, opened, closed_by, opened_by}
use Rattle.live.specs.Watching.{goes_from, comes_to}
use Rattle.live.proofs.Turning.{map_back, closed_small}

abbrev moved : Turn → List ℕ → List ℕ
moved turn kept = map (opened_by (comes_to turn)) (map (closed_by (goes_from turn)) kept)

pub open-requires-in-Moves : goal.open-requires-in-Moves
open-requires-in-Moves c = subst (All (λ k. k + 1 < 2 ^ 32)) (sym c.close-in-Moves.ensures) (closed_small c.in-Moves.p c.args.kept.now c.requires.small)

pub returns-in-Still : goal.returns-in-Still
returns-in-Still c =
    let kept = c.args.kept.now in
    elim c.in-Still.is [
      | inl e ↦ sym (ap (λ t. moved t kept) e ∙ map-id (map (closed_by (goes_from Still)) kept) ∙ map-id kept)
      | inr h ↦ sym (ap (λ t. moved t kept) h.1 ∙ map_back h.0 kept (c.requires.apart h.0 h.1))
    ]

pub returns-in-Comes : goal.returns-in-Comes
returns-in-Comes c =
    c.open.ensures ∙ sym (ap (λ t. moved t c.args.kept.now) c.in-Comes.is ∙ ap (map (opened c.in-Comes.p)) (map-id c.args.kept.now))

pub returns-in-Goes : goal.returns-in-Goes
returns-in-Goes c =
    c.close.ensures ∙ sym (ap (λ t. moved t c.args.kept.now) c.in-Goes.is ∙ map-id (map (closed c.in-Goes.p) c.args.kept.now))
