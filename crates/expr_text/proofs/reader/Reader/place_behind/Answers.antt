use Rattle.expr_text.proofs.Running.{place_at}
use Rattle.expr_text.proofs.reader.Reader.place_behind.Goals as goal

pub returns-then-count-self : goal.returns-then-count-self
returns-then-count-self c = place_at _ _ _ _ c.if-count-self.true
