use Rattle.std.proofs.Common.{◌≡◌, ◌-◌, ◌<◌, ◌∷◌, [], ℕ, List, length, get_or, take, drop, refl, ap, ◌∙◌, arith}
use Rattle.std.proofs.lemmas.List.{length-take, length-drop}
use Rattle.bytes_col.specs.declared.fill.Filled.{Filled}
use Rattle.bytes_col.specs.Strings.{short_bytes}
use Rattle.bytes_col.proofs.Filled.{filled_on, fills_value}
use Rattle.bytes_col.proofs.chunk.Chunk.fill_values.Goals as goal

pub loop-row-preserved : goal.loop-row-preserved
loop-row-preserved c =
    let vs : List (List ℕ) = c.args.self.now in
    let into = c.loop-row.into in
    let done = c.loop-row.done in
    let old : List ℕ = take (length into - done) (drop done into) in
    let size : length old ≡ length into - done = length-take (length into - done) (drop done into) ∙ (omega (arith, length-drop done into)) in
    let before : Filled = record { row = c.loop-row.row; skip = c.loop-row.left; bytes = done } in
    let piece : Filled = record { row = c.behind-next.result.0; skip = c.behind-next.result.1; bytes = c.fill_from-count.result } in
    let value : c.short_part-short.result.now ≡ short_bytes (get_or vs c.loop-row.row [] ∷ []) = c.short_part-short.ensures.bytes ∙ ap (λ v. short_bytes (v ∷ [])) c.value.ensures in
    let l : c.loop-row.row < length vs = omega (arith, c.loop-row-test.true, c.len.ensures.count) in
    let some : 0 < length old = omega (arith, size, c.if-done-into.true) in
    let fills = fills_value vs c.loop-row.row c.loop-row.left c.fill_from-count.result c.short_part-short.result.now old c.fill_from-count.new.into piece l some value
    c.fill_from-count.ensures.count c.fill_from-count.ensures.bytes c.behind-next.ensures.stays c.behind-next.ensures.goes refl in
    filled_on vs c.args.at c.args.skip (length c.args.into.now) into c.fill_from-count.new.into _ old before piece _ c.loop-row.invariant fills c.loop-row.auto.into
    (omega (arith, size, c.loop-row.auto.into)) (omega (arith, c.fill_from-count.ensures.count, c.fill_from-count.auto.into)) refl refl refl
