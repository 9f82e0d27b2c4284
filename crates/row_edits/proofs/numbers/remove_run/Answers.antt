use Rattle.std.proofs.Common.{◌≤◌, ℕ, List, subst, sym, ◌∙◌}
use Rattle.std.specs.List.{All}
use Rattle.row_edits.proofs.Runs.{filter_lowers}
use Rattle.row_edits.proofs.numbers.remove_run.Goals as goal

pub lower-requires : goal.lower-requires
lower-requires c =
    subst (λ (xs : List ℕ). All (λ p. c.args.at ≤ p → c.args.count ≤ p) xs) (sym (c.deref_mut.ensures.value ∙ c.retain.ensures.items)) (filter_lowers c.args.at c.args.count c.args.kept.now.items)
