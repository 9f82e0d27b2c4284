use Rattle.expr_text.proofs.Refusing.{flawed_refused, read_refused}
use Rattle.expr_text.proofs.reading.parse_expr.Goals as goal

pub returns-in-None-clause-refused : goal.returns-in-None-clause-refused
returns-in-None-clause-refused c = read_refused _ _ _ _ _ c.in_ok-cutting.ensures.cuts c.as_slice.ensures c.in-None.is c.read_pieces-read.ensures.fails

pub returns-clause-refused : goal.returns-clause-refused
returns-clause-refused c =
    flawed_refused _ _ _ _ c.in-Some.flaw _ _ c.in_ok-cutting.ensures.cuts c.as_slice.ensures c.in-Some.is c.read_pieces-read.ensures.met c.read_pieces-read.ensures.fails c.flawed.ensures
