use Rattle.std.proofs.Common.{sym}
use Rattle.questions.proofs.Ordered.{names_first}
use Rattle.questions.proofs.in_order.search_among.Goals as goal

pub lower-requires-clause-named : goal.lower-requires-clause-named
lower-requires-clause-named g c =
    rw (c.as_slice.ensures, c.in_ok-values.ensures.1)
    (names_first c.schema.result.now c.args.criteria.now c.args.keys.now (sym c.if-not-begin.ensures))
