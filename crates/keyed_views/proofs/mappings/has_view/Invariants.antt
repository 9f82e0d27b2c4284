use Rattle.std.proofs.Common.{◌≡◌, false, take}
use Rattle.std.specs.List.{list_any}
use Rattle.relations.specs.Fitting.{is_view}
use Rattle.keyed_views.proofs.mappings.has_view.Given as goal

abbrev pub invariant-loop-at : goal.invariant-loop-at
invariant-loop-at l = list_any (λ a. is_view a.domain) (take l.at l.schema) ≡ false
