use Rattle.expr_text.specs.Meanings.{query_of}
use Rattle.eval.proofs.Whole.{inside_two}
use Rattle.eval.proofs.evaluation.+eval.Goals as goal

pub on_two-requires : goal.on_two-requires
on_two-requires g t c = (inside_two (query_of c.args.expr.now) c.in-Two.first c.in-Two.second c.in-Two.ensures c.requires).1.1
