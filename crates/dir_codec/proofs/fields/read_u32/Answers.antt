use Rattle.std.proofs.Common.{arith}
use Rattle.dir_codec.proofs.Fits.{number_read}
use Rattle.dir_codec.proofs.fields.read_u32.Goals as goal

pub returns : goal.returns
returns c = let whole = c.in_ok-field.ensures.0 in (whole, number_read 4 c.args.at c.read_u32.result c.args.bytes.now _ (λ i. let fits = c.type_inv.bytes i in omega (arith, fits)) whole c.in_ok-field.ensures.1 c.read_u32.ensures)
