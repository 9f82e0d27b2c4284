use Rattle.lines.proofs.Splitting.{before_newline}
use Rattle.lines.proofs.feeding.find_newline.Goals as goal

pub returns-clause-front : goal.returns-clause-front
returns-clause-front c = before_newline c.args.bytes.now c.memchr.result c.memchr.ensures
