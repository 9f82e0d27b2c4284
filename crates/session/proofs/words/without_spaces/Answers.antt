use Rattle.std.proofs.Common.{ap, ◌∙◌}
use Rattle.cmd_text.specs.Lines.{without_trailing}
use Rattle.cmd_text.proofs.Spaces.{trimmed_end}
use Rattle.session.proofs.words.without_spaces.Goals as goal

pub returns : goal.returns
returns c = trimmed_end _ _ c.trim_end_matches.ensures.matches ∙ ap without_trailing c.without_leading_spaces-text.ensures
