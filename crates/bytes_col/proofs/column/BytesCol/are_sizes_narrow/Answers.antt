use Rattle.std.proofs.Common.{◌≡◌, ◌≤◌, [], true, false, leb, refl, subst, arith}
use Rattle.std.specs.Bool.{OnTrue}
use Rattle.std.proofs.lemmas.Bool.Decides.{nat_tests}
use Rattle.bit_pack.specs.Width.{bit_count, IsLeastWidth}
use Rattle.segments.specs.Joined.{joined}
use Rattle.bytes_col.specs.Strings.{memo_rows}
use Rattle.bytes_col.proofs.Fills.{no_memos}
use Rattle.bytes_col.proofs.column.BytesCol.are_sizes_narrow.Goals as goal

pub returns : goal.returns
returns c =
    let values = joined c.self.inside.chunks in
    let none : bit_count c.width.result ≤ 8 → memo_rows values ≡ [] =
    λ narrow. no_memos c.width.result values (subst (IsLeastWidth c.width.result) c.self.invariant.are c.width.ensures) narrow in
    rw (← c.self.view_is)
    (elim (leb c.bits.result 8) as (λ b. leb c.bits.result 8 ≡ b → OnTrue b (memo_rows values ≡ [])) [
      | true ↦ λ e. none (grind (arith, nat_tests, c.bits.ensures))
      | false ↦ λ e. tt
    ] refl)
