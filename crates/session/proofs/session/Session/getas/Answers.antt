use Rattle.std.proofs.Common.{arith}
use Rattle.struct_text.proofs.Lengths.{structure_is}
use Rattle.session.proofs.session.Session.getas.Goals as goal

pub declare-requires : goal.declare-requires
declare-requires c =
    let same = structure_is c.args.name.now c.args.schema.now c.len-properties.ensures.whole in
    let short = c.requires in omega (arith, same, short)
