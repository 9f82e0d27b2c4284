use Rattle.std.proofs.Common.{◌==◌, ℕ, List, is_some, ap, ◌∙◌}
use Rattle.std.specs.List.{position}
use Rattle.live_counts.proofs.Numbering.{raised_has}
use Rattle.live_counts.proofs.flags.is_raised.Goals as goal

pub returns : goal.returns
returns c = λ fs is. c.is_some.ensures ∙ ap is_some (c.number_at.ensures ∙ ap (λ (ks : List ℕ). position (λ k. k == c.args.at) ks) is) ∙ raised_has fs c.args.at
