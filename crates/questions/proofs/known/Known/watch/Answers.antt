use Rattle.std.proofs.Common.{true, length, eqb, Some, ap, inr, refl, sym, subst, ◌∙◌}
use Rattle.watches.specs.Watches.{is_watch, watch_table}
use Rattle.std.proofs.lemmas.Bool.{false≢true}
use Rattle.eval.specs.Names.{view_at}
use Rattle.eval.specs.declared.error.NameError.TheVariants as name_error
use Rattle.std.proofs.Common.{◌≡◌, Ok, Err}
use Rattle.derived.specs.Layers.{table_of}
use Rattle.watches.specs.Keeping.{followed}
use Rattle.questions.specs.Kept.{Names, watched}
use Rattle.questions.proofs.Found.{no_steps_left, watch_seen, watch_unknown, watch_with_steps}
use Rattle.questions.proofs.known.Known.watch.Goals as goal

pub returns-then-not-is_empty : goal.returns-then-not-is_empty
returns-then-not-is_empty c =
    inr (watch_with_steps c.args.self.now.views c.args.self.now.watches c.args.path.now
    (λ none. false≢true (sym (sym c.is_empty.ensures ∙ c.if-not-is_empty.true) ∙ ap (λ steps. eqb (length steps) 0) (c.steps.ensures ∙ none))))

pub returns-then-not-is_watch : goal.returns-then-not-is_watch
returns-then-not-is_watch c =
    inr (subst (λ (n : Names). view_at (watched n.views n.watches) c.args.path.now ≡ Err name_error.NoName) c.self.view_is
    (watch_unknown c.self.inside.views.now (followed c.self.inside.watches.now) c.args.path.now c.name.result.now c.name.ensures (sym c.is_watch.ensures ∙ c.if-not-is_watch.true)))

pub returns : goal.returns
returns c =
    let views = c.self.inside.views.now in
    let watches = followed c.self.inside.watches.now in
    let t = table_of c.in_ok-table.field-0 in
    let none = no_steps_left c.steps.result.now (sym c.is_empty.ensures ∙ c.if-not-is_empty.false) in
    subst (λ (n : Names). view_at (watched n.views n.watches) c.args.path.now ≡ Ok t) c.self.view_is
    (watch_seen views watches c.args.path.now c.args.path.now.name t refl (sym c.steps.ensures ∙ none)
    (subst (λ n. is_watch watches n ≡ true) c.name.ensures (sym c.is_watch.ensures ∙ c.if-not-is_watch.false))
    (subst (λ n. watch_table views watches n ≡ Some t) c.name-2.ensures c.in_ok-table.ensures))
