use Rattle.std.proofs.Common.{◌∙◌, arith, length}
use Rattle.int_col.proofs.Segments.{count_is, values_part}
use Rattle.int_col.proofs.tail.Tail.copy_values.Goals as goal

pub unpack_into-requires-clause-fits : goal.unpack_into-requires-clause-fits
unpack_into-requires-clause-fits c =
    omega (arith, c.requires, c.self.invariant.segment.few, count_is c.self.inside.count c.self.inside.width c.self.inside.bytes.items c.args.self.now c.self.view_is)

pub returns : goal.returns
returns c =
    rw (← c.self.view_is)
    (rw c.deref.ensures.value at c.unpack_into.ensures
    ∙ values_part c.self.inside.width c.self.inside.bytes.items c.args.from (length c.args.into.now) c.self.inside.count
    (omega (arith, c.requires, count_is c.self.inside.count c.self.inside.width c.self.inside.bytes.items c.args.self.now c.self.view_is)))
