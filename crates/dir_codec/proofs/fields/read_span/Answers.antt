use Rattle.std.proofs.Common.{List, ℕ, ◌∙◌, ap, arith}
use Rattle.byteorder.specs.Endian.{little_number}
use Rattle.dir_codec.proofs.Fits.{span_read}
use Rattle.dir_codec.proofs.fields.read_span.Goals as goal

pub returns : goal.returns
returns c =
    let whole = c.in_ok-field.ensures.0 in
    (whole, span_read c.args.at _ c.args.bytes.now _ (λ i. let fits = c.type_inv.bytes i in omega (arith, fits)) whole c.in_ok-field.ensures.1 (c.read_u64.ensures ∙ ap (λ (l : List ℕ). little_number 8 l) c.split_at.ensures.front) (c.read_u64-2.ensures ∙ ap (λ (l : List ℕ). little_number 8 l) c.split_at.ensures.back))
