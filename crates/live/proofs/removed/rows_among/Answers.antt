use Rattle.std.proofs.Common.{ℕ, ◌+◌, ◌≤◌, Bool, get_or, ap, sym, ◌∙◌, arith}
use Rattle.std.specs.List.{filter}
use Rattle.relations.specs.Positions.{numbers}
use Rattle.live.specs.Leaving.{AreGone, goes_at}
use Rattle.live.specs.declared.removed.Gone.{Gone}
use Rattle.live.proofs.Removing.{gone_same, one_more, one_less}
use Rattle.live.proofs.removed.rows_among.Goals.{then-is_among, else-is_among}
use Rattle.live.proofs.removed.rows_among.Goals as goal

pub loop-row-preserved : goal.loop-row-preserved
loop-row-preserved c =
    let test : ℕ → Bool = λ i. goes_at c.args.at c.args.count c.args.below.now c.args.watch.now.source (get_or c.args.watch.now.kept i 0) in
    let row : ℕ = c.loop-row.row in
    let h = c.loop-row.invariant in
    let gone : AreGone (filter test (numbers (row + 1))) c.if-is_among.gone.first c.if-is_among.gone.end c.if-is_among.gone.count =
    elim c.if-is_among.branch [
      | then-is_among w ↦
          gone_same (filter test (numbers (row + 1))) w.with_row-gone.result c.if-is_among.gone (sym w.gone-is)
          (one_more test row w.with_row-gone.result (sym c.is_among.ensures ∙ w.if-is_among.true) (w.with_row-gone.ensures.gone (filter test (numbers row)) h.gone))
      | else-is_among w ↦
          gone_same (filter test (numbers (row + 1))) c.loop-row.gone c.if-is_among.gone (sym w.gone-is)
          (one_less test row c.loop-row.gone (sym c.is_among.ensures ∙ w.if-is_among.false) h.gone)
    ] in
    let count : c.if-is_among.gone.count ≤ c.if-is_among.gone.end =
    elim c.if-is_among.branch [
      | then-is_among w ↦ let e = ap (λ (g : Gone). g.end) w.gone-is in let f = ap (λ (g : Gone). g.count) w.gone-is in let i = w.with_row-gone.ensures.count in omega arith
      | else-is_among w ↦ let e = ap (λ (g : Gone). g.end) w.gone-is in let f = ap (λ (g : Gone). g.count) w.gone-is in let i = h.count in omega arith
    ] in
    let end : c.if-is_among.gone.end ≤ row + 1 =
    elim c.if-is_among.branch [
      | then-is_among w ↦ let e = ap (λ (g : Gone). g.end) w.gone-is in let i = w.with_row-gone.ensures.end in omega arith
      | else-is_among w ↦ let e = ap (λ (g : Gone). g.end) w.gone-is in let i = h.end in omega arith
    ] in
    record { gone = gone; count = count; end = end }
