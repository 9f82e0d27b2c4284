use Rattle.std.proofs.Common.{List, sym, subst, arith}
use Rattle.std.specs.List.{remove}
use Rattle.mk_value.specs.Data.{Datum}
use Rattle.mapped.specs.Index.{AreKeys}
use Rattle.mapped.proofs.Calling.{go_out}
use Rattle.bench.proofs.watches.keyed.remove.Goals as goal

pub follow-requires-clause-whole : goal.follow-requires-clause-whole
follow-requires-clause-whole c =
    let keys = c.args.index.now.keys in
    let long = c.len.ensures.value in
    subst (λ (ks : List (List Datum)). AreKeys (remove ks c.args.at)) (sym c.reserve.ensures.keys) (go_out keys c.args.at (omega (arith, c.if-at-len.false)) c.len.ensures.whole)
