use Rattle.std.proofs.Common.{w32, w64}
use Rattle.std.proofs.lemmas.Int.{to_z-of_z}
use Rattle.stream_codec.proofs.ReadFields.{integer_is, long_is}
use Rattle.stream_codec.proofs.values.read_first.Goals as goal

pub returns-in-I : goal.returns-in-I
returns-in-I c =
    rw c.in-I.is
    (integer_is c.args.field.now _ c.read_integer.result (to_z-of_z w32 c.read_integer.result (record { sfits = c.read_integer.type_inv })) (record { sfits = c.read_integer.type_inv })
    c.read_integer.ensures (rw c.in-I.is at c.requires))

pub returns-in-L : goal.returns-in-L
returns-in-L c =
    rw c.in-L.is
    (long_is c.args.field.now _ c.read_long.result (to_z-of_z w64 c.read_long.result (record { sfits = c.read_long.type_inv })) (record { sfits = c.read_long.type_inv })
    c.read_long.ensures (rw c.in-L.is at c.requires))
