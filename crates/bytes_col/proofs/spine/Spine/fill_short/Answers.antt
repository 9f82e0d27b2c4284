use Rattle.std.proofs.Common.{ℕ, List, refl, arith}
use Rattle.bytes_col.proofs.Filled.{fills_in_place, row_in_place}
use Rattle.bytes_col.proofs.spine.Spine.fill_short.Goals as goal

pub overflow_add-result : goal.overflow_add-result
overflow_add-result c =
    let ss : List (List (List ℕ)) = c.args.self.now in
    let here = c.chunk-chunk.ensures in
    let row = row_in_place ss c.args.row c.fill_short-filled.result.row c.find-place.result c.chunk-chunk.result.now c.find-place.ensures.place here c.find-place.ensures.in_range c.fill_short-filled.ensures.has.onward c.fill_short-filled.ensures.has.in_range in
    record { fits = omega (arith, row, c.len-few.ensures.len, c.len-few.ensures.few) }

pub returns : goal.returns
returns c =
    let ss : List (List (List ℕ)) = c.args.self.now in
    let here = c.chunk-chunk.ensures in
    let row = row_in_place ss c.args.row c.fill_short-filled.result.row c.find-place.result c.chunk-chunk.result.now c.find-place.ensures.place here c.find-place.ensures.in_range c.fill_short-filled.ensures.has.onward c.fill_short-filled.ensures.has.in_range in
    fills_in_place ss c.args.row c.args.skip c.find-place.result c.chunk-chunk.result.now c.args.into.now c.fill_short-filled.new.into c.fill_short-filled.result _
    c.find-place.ensures.place here c.find-place.ensures.in_range c.fill_short-filled.ensures refl refl refl row
