use Rattle.std.proofs.Common.{ℕ, List, ◌++◌, ◌∷◌, [], ap, subst, sym, ◌∙◌}
use Rattle.std.specs.List.{remove}
use Rattle.std.proofs.lemmas.Result.{on_ok_weaker}
use Rattle.relations.specs.Criteria.{Interval}
use Rattle.relations.specs.Merging.{AsksAlso, IsNamedAt}
use Rattle.relations.proofs.Narrowing.{met_asked, more_asked}
use Rattle.relations.proofs.merging.add.Goals as goal
use Rattle.relations.proofs.merging.add.Goals.{in-Some+in_ok-both-in-Some, in-None+in_ok-both-in-None}

pub returns : goal.returns
returns c =
    let held = c.args.merged.now in
    let one = c.args.criterion.now in
    elim c.match-place_of.branch [
      | in-Some+in_ok-both-in-Some w ↦ (let at = w.in-Some.at in
          let here : IsNamedAt held one.prop at =
          subst (λ (n : List ℕ). IsNamedAt held n at) (ap (λ (b : Interval). b.prop) c.criterion.view_is)
          (subst (λ (bs : List Interval). IsNamedAt bs c.criterion.inside.prop at) c.as_slice.ensures w.in-Some.ensures) in
          on_ok_weaker c.push.result (λ e. subst (AsksAlso held one)
          (sym (e ∙ ap (λ (bs : List Interval). bs ++ c.match-place_of.both ∷ []) (w.merged-is ∙ w.remove.ensures.rest)
          ∙ ap (λ (b : Interval). remove held at ++ b ∷ []) (w.both-is ∙ w.in_ok-both-in-Some.ensures)))
          (met_asked held one w.remove.result at here w.remove.ensures.old)) c.push.ensures.ok)
      | in-None+in_ok-both-in-None w ↦ on_ok_weaker c.push.result (λ e. subst (AsksAlso held one)
          (sym (e ∙ ap (λ (bs : List Interval). bs ++ c.match-place_of.both ∷ []) w.merged-is ∙ ap (λ (b : Interval). held ++ b ∷ []) (w.both-is ∙ w.in_ok-both-in-None.ensures)))
          (more_asked held one)) c.push.ensures.ok
    ]
