use Rattle.std.proofs.Common.{sym, subst, ◌∙◌}
use Rattle.eval.specs.Names.{IsSeen}
use Rattle.questions.specs.Kept.{stored, watched}
use Rattle.questions.proofs.Found.{view_at-before, view_at-behind}
use Rattle.questions.proofs.known.KnownNamesShared.view.Goals as goal

pub returns-then-is_stored : goal.returns-then-is_stored
returns-then-is_stored c =
    let first = stored c.args.self.now.views c.args.self.now.snapshots in
    let second = watched c.args.self.now.views c.args.self.now.watches in
    subst (λ due. IsSeen due c.viewed.result) (sym (view_at-before first second c.args.path.now c.name.result.now c.name.ensures (sym c.is_stored.ensures ∙ c.if-is_stored.true))) c.viewed.ensures

pub returns-else-is_stored : goal.returns-else-is_stored
returns-else-is_stored c =
    let first = stored c.args.self.now.views c.args.self.now.snapshots in
    let second = watched c.args.self.now.views c.args.self.now.watches in
    subst (λ due. IsSeen due c.watch.result) (sym (view_at-behind first second c.args.path.now c.name.result.now c.name.ensures (sym c.is_stored.ensures ∙ c.if-is_stored.false))) c.watch.ensures
