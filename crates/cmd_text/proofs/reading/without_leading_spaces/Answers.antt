use Rattle.cmd_text.proofs.Spaces.{trimmed_start}
use Rattle.cmd_text.proofs.reading.without_leading_spaces.Goals as goal

pub returns-clause-value : goal.returns-clause-value
returns-clause-value c = trimmed_start _ _ c.trim_start_matches.ensures.matches
