use Rattle.cmd_text.proofs.Spaces.{trimmed_start}
use Rattle.session.proofs.words.without_leading_spaces.Goals as goal

pub returns : goal.returns
returns c = trimmed_start _ _ c.trim_start_matches.ensures.matches
