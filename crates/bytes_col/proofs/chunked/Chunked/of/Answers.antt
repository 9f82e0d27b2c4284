use Rattle.std.proofs.Common.{ap, length, take, arith}
use Rattle.std.proofs.lemmas.List.{length-map, length-take}
use Rattle.bytes_col.proofs.chunked.Chunked.of.Goals as goal

pub of_chunks-requires : goal.of_chunks-requires
of_chunks-requires c =
    omega (arith, c.requires, ap length c.in_ok-finish.ensures, ap length c.loop-value.invariant, length-map (take c.loop-value.value-index c.args.values.now) (λ v. v.bytes), length-take c.loop-value.value-index c.args.values.now)
