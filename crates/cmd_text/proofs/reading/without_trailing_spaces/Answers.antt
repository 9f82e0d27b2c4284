use Rattle.cmd_text.proofs.Spaces.{trimmed_end}
use Rattle.cmd_text.proofs.reading.without_trailing_spaces.Goals as goal

pub returns-clause-value : goal.returns-clause-value
returns-clause-value c = trimmed_end _ _ c.trim_end_matches.ensures.matches
