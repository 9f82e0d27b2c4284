use Rattle.std.proofs.Common.{◌<◌, [], get_or, length, ap, sym, ◌∙◌, arith}
use Rattle.std.specs.Ordering.{is_lt}
use Rattle.grouping.specs.Index.{keys_of}
use Rattle.grouping.proofs.DistinctRows.{key_less, key_not_less, keys_less_few}
use Rattle.grouping.proofs.key_index.KeyIndex.reach.Goals as goal

pub loop-place-preserved : goal.loop-place-preserved
loop-place-preserved g c =
    let key = get_or (keys_of c.args.other.now) c.args.group [] in
    let all = c.groups-groups.ensures in
    let t = c.loop-place-test.true in
    let inside : c.loop-place.place < length (keys_of c.args.self.now) = omega arith in
    let more = key_less c.args.self.now key c.loop-place.place [] inside (ap is_lt (sym c.cmp_groups.ensures) ∙ sym c.is_lt.ensures ∙ c.if-not-is_lt.false) in
    omega arith

pub returns-then-not-is_lt : goal.returns-then-not-is_lt
returns-then-not-is_lt g c =
    let key = get_or (keys_of c.args.other.now) c.args.group [] in
    let all = c.groups-groups.ensures in
    let t = c.loop-place-test.true in
    let inside : c.loop-place.place < length (keys_of c.args.self.now) = omega arith in
    let most = key_not_less c.args.self.now key c.loop-place.place [] inside (ap is_lt (sym c.cmp_groups.ensures) ∙ sym c.is_lt.ensures ∙ c.if-not-is_lt.true) in
    let known = c.loop-place.invariant in
    omega arith

pub returns : goal.returns
returns g c =
    let all = c.groups-groups.ensures in
    let t = c.loop-place-test.false in
    let few = keys_less_few c.args.self.now (get_or (keys_of c.args.other.now) c.args.group []) in
    let known = c.loop-place.invariant in
    omega arith
