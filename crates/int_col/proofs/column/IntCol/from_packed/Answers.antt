use Rattle.std.proofs.Common.{ℤ, List, sym, subst, ap, ◌∙◌, length, arith}
use Rattle.bit_pack.specs.Packed.{Packed}
use Rattle.bit_pack.proofs.Changes.{length-values_from}
use Rattle.int_col.specs.Cuts.{AreCuts}
use Rattle.int_col.proofs.CutLaws.{AreCuts-full_cuts}
use Rattle.int_col.proofs.Columns.{IsColumn-of}
use Rattle.int_col.proofs.column.IntCol.from_packed.Goals as goal

pub returns-in-Ok-clause-packed : goal.returns-in-Ok-clause-packed
returns-in-Ok-clause-packed c =
    let P : List ℤ → Type 0 = λ vs. Packed c.args.width vs c.args.bytes.now in (
      subst P (sym c.in-Ok.ensures.values) c.in_ok-check.ensures.packed,
      ap length c.in-Ok.ensures.values ∙ length-values_from c.args.width c.args.bytes.now 0 c.args.count,
    )

pub returns-in-Ok-clause-column : goal.returns-in-Ok-clause-column
returns-in-Ok-clause-column c =
    IsColumn-of c.in-Ok.segments c.args.home
    (omega (arith, c.requires, ap length c.in-Ok.ensures.values, length-values_from c.args.width c.args.bytes.now 0 c.args.count))
    (subst AreCuts (sym c.in-Ok.ensures.cuts) (AreCuts-full_cuts c.args.count))
