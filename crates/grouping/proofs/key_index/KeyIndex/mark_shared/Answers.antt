use Rattle.std.proofs.Common.{◌≡◌, ◌+◌, ◌<◌, ◌≤◌, ℕ, Bool, List, [], All, get_or, length, ap, sym, subst, ◌∙◌, arith}
use Rattle.grouping.specs.Index.{keys_less, keys_of, positions_of}
use Rattle.grouping.specs.Marks.{marked}
use Rattle.grouping.proofs.Shares.{AreMarked, all_marked, found_at, group_marked, known_next, marked_within, none_marked}
use Rattle.grouping.proofs.key_index.KeyIndex.mark_shared.Goals as goal

pub loop-group-init : goal.loop-group-init
loop-group-init g c = (none_marked c.args.self.now c.args.other.now c.args.shared.now c.requires, λ p. omega arith)

pub reach-place-requires-clause-known : goal.reach-place-requires-clause-known
reach-place-requires-clause-known g c = let all = c.groups-group-end.ensures in let t = c.loop-group-test.true in c.loop-group.invariant.1 (omega arith)

pub mark-requires : goal.mark-requires
mark-requires g c =
    subst (All (λ i. i < length c.loop-group.shared)) (sym c.group.ensures) (marked_within c.args.self.now c.args.other.now c.loop-group.group c.loop-group.shared c.loop-group.invariant.0)

pub loop-group-preserved : goal.loop-group-preserved
loop-group-preserved g c =
    let rows = c.args.self.now in
    let others = c.args.other.now in
    let key = get_or (keys_of rows) c.loop-group.group [] in
    let found = c.is_at-found.ensures ∙ found_at others key c.reach-place.result c.reach-place.ensures in (
      subst (λ (marks : List Bool). AreMarked rows others (c.loop-group.group + 1) marks) (sym (c.mark.ensures ∙ ap (λ (ps : List ℕ). marked ps c.is_at-found.result c.loop-group.shared) c.group.ensures))
          (group_marked rows others c.loop-group.group c.is_at-found.result c.loop-group.shared c.loop-group.invariant.0 found),
      λ p. known_next rows others c.loop-group.group c.reach-place.result p c.reach-place.ensures,
    )

pub returns : goal.returns
returns g c =
    let all = c.groups-group-end.ensures in
    let t = c.loop-group-test.false in
    all_marked c.args.self.now c.args.other.now c.loop-group.group c.loop-group.shared (omega arith) c.loop-group.invariant.0
