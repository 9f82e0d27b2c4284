use Rattle.std.proofs.Common.{◌<◌, ℕ, List, length, refl, arith}
use Rattle.segments.proofs.Joined.{length-counts}
use Rattle.bytes_col.proofs.Filled.{fills_in_place, row_in_place}
use Rattle.bytes_col.proofs.growing.Growing.fill_short.Goals as goal

pub overflow_add-result : goal.overflow_add-result
overflow_add-result c =
    let ss : List (List (List ℕ)) = c.args.self.now in
    let place = c.find-place.ensures in
    let within : c.find-place.result.segment < length ss = omega (arith, place.segment, length-counts ss) in
    let row = row_in_place ss c.args.row c.fill_short-filled.result.row c.find-place.result c.chunk-chunk.result.now place c.chunk-chunk.ensures within c.fill_short-filled.ensures.has.onward c.fill_short-filled.ensures.has.in_range in
    record { fits = omega (arith, row, c.len-few.ensures.len, c.len-few.ensures.few) }

pub returns : goal.returns
returns c =
    let ss : List (List (List ℕ)) = c.args.self.now in
    let place = c.find-place.ensures in
    let within : c.find-place.result.segment < length ss = omega (arith, place.segment, length-counts ss) in
    let row = row_in_place ss c.args.row c.fill_short-filled.result.row c.find-place.result c.chunk-chunk.result.now place c.chunk-chunk.ensures within c.fill_short-filled.ensures.has.onward c.fill_short-filled.ensures.has.in_range in
    fills_in_place ss c.args.row c.args.skip c.find-place.result c.chunk-chunk.result.now c.args.into.now c.fill_short-filled.new.into c.fill_short-filled.result _
    place c.chunk-chunk.ensures within c.fill_short-filled.ensures refl refl refl row
