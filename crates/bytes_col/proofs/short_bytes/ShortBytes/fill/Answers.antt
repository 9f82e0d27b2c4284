use Rattle.std.proofs.Common.{length, ap, arith}
use Rattle.std.proofs.lemmas.List.{length-drop}
use Rattle.segments.specs.Joined.{joined}
use Rattle.bytes_col.specs.Filled.{short_from}
use Rattle.bytes_col.proofs.short_bytes.ShortBytes.fill.Goals as goal

pub invariant_of-self : goal.invariant_of-self
invariant_of-self c =
    let vs = joined c.self.inside.chunks.now in
    record {
      in_range = c.fill_short-filled.ensures.in_range;
      left = omega (arith, c.self.invariant.left, ap length c.fill_short-filled.ensures.rest, length-drop (length c.args.into.now) (short_from vs c.self.inside.row c.self.inside.skip), c.fill_short-filled.auto.into);
    }
