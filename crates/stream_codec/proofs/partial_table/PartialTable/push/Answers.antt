use Rattle.std.proofs.Common.{sym, subst}
use Rattle.mk_value.specs.Data.{IsOf}
use Rattle.mk_value.specs.Heading.{Domain}
use Rattle.mk_value.specs.Values.{datum_of}
use Rattle.stream_codec.proofs.Inners.{partial_value, seen_domain, seen_more, seen_value}
use Rattle.stream_codec.proofs.partial_table.PartialTable.push.Goals as goal

pub invariant_of-self : goal.invariant_of-self
invariant_of-self c = rw c.in_err-push.ensures.err c.self.invariant

pub invariant_of-self-2 : goal.invariant_of-self-2
invariant_of-self-2 c =
    let i = c.self.inside in
    partial_value i.table i.row _ i.inners.items i.left (datum_of c.args.value) c.self.invariant c.in_ok-push.ensures.ok
    (seen_more i.table i.row i.inners.items i.left c.args.self.now c.self.view_is c.requires.within)
    (subst (λ (d : Domain). IsOf (datum_of c.args.value) d) (sym (seen_domain i.table i.row i.inners.items i.left c.args.self.now c.self.view_is)) c.requires.fits)

pub returns : goal.returns
returns c =
    let i = c.self.inside in
    seen_value i.table i.row i.inners.items i.left c.args.self.now c.self.view_is _ (datum_of c.args.value) c.self.invariant c.in_ok-push.ensures.ok
