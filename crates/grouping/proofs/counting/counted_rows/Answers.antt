use Rattle.std.proofs.Common.{◌<◌, ◌^◌, ℕ, pos, List, [], ◌++◌, ◌∷◌, length, get_or, ap, ◌∙◌, arith}
use Rattle.std.specs.Int.{w32}
use Rattle.std.proofs.lemmas.Int.{to_z_pos}
use Rattle.mk_value.specs.Data.{integer}
use Rattle.grouping.specs.Groups.{counted_key}
use Rattle.grouping.specs.Index.{keys_of}
use Rattle.grouping.proofs.CountTables.{small_fits}
use Rattle.grouping.proofs.Entries.{map_take_more}
use Rattle.grouping.proofs.Positions.{positions_few}
use Rattle.grouping.proofs.counting.counted_rows.Goals as goal

pub overflow_cast-number : goal.overflow_cast-number
overflow_cast-number g c =
    let key = get_or (keys_of c.args.index.now) c.loop-group.group [] in
    let same = ap (λ (ps : List ℕ). length ps) c.group-number.ensures in
    let few = positions_few c.args.index.now key in
    let most = c.requires in
    small_fits (length c.group-number.result.now) (omega arith)

pub loop-group-preserved : goal.loop-group-preserved
loop-group-preserved g c =
    let keys = keys_of c.args.index.now in
    let within : c.loop-group.group < length keys = (let t = c.loop-group-test.true in let e = c.groups-group-end.ensures in omega arith) in
    let key = c.in_ok-row.ensures in
    let same = ap (λ (ps : List ℕ). length ps) c.group-number.ensures in
    let few = positions_few c.args.index.now (get_or keys c.loop-group.group []) in
    let most = c.requires in
    let small : length c.group-number.result.now < 2 ^ 31 = omega arith in
    let count = to_z_pos w32 (length c.group-number.result.now) small ∙ ap pos same in
    let row = c.in_ok-push.ensures.ok ∙ (λ i. key i ++ integer (count i) ∷ []) in
    c.in_ok-push-2.ensures.ok ∙ (λ i. c.loop-group.invariant i ++ row i ∷ []) ∙ map_take_more (counted_key c.args.index.now) keys c.loop-group.group [] within
