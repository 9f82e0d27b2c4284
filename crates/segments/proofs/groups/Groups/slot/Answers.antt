use Rattle.std.proofs.Common.{arith}
use borrow.Follows.Closed.{read_of}
use Rattle.std.specs.Borrow.{name_if_ok}
use Rattle.std.proofs.lemmas.Result.{IfOk-weaker}
use Rattle.segments.proofs.Counted.{segments_len}
use Rattle.segments.proofs.Grouped.{part_is, part_set, parts_stay, counts_with_part, counts_stay}
use Rattle.segments.proofs.groups.Groups.slot.Goals as goal

pub find-place-requires : goal.find-place-requires
find-place-requires g c =
    (omega arith, omega (arith, segments_len c.self.inside.groups.items c.self.inside.ends c.self.invariant, rw (← c.self.view_is) at c.requires))

pub invariant_of-self-lent : goal.invariant_of-self-lent
invariant_of-self-lent g c = λ _. (
  counts_with_part c.self.inside.groups.items c.self.inside.ends c.args.k c.find-place.result c.index_mut-group.result.now c.self.invariant c.find-place.ensures c.index_mut-group.ensures.value,
  counts_stay c.self.inside.groups.items c.self.inside.ends c.args.k c.find-place.result c.index_mut-group.result.now c.self.invariant c.find-place.ensures c.index_mut-group.ensures.value,
)

pub returns : goal.returns
returns g c =
    let set = part_set c.self.inside.groups.items c.self.inside.ends c.args.k c.find-place.result c.index_mut-group.result.now c.self.invariant c.find-place.ensures c.index_mut-group.ensures.value in
    let same = parts_stay c.self.inside.groups.items c.self.inside.ends c.args.k c.find-place.result c.index_mut-group.result.now c.self.invariant c.find-place.ensures c.index_mut-group.ensures.value in
    rw (← c.self.view_is) (
      λ t. read_of (name_if_ok (λ x. x.ghost_name) c.own_part.result) (λ (w : g.row.T.Denot). set w t) (same t),
      record {
        writes_back = tt;
        value =
            IfOk-weaker c.own_part.result _ _
            (λ x is. part_is c.self.inside.groups.items c.self.inside.ends c.args.k c.find-place.result c.index_mut-group.result.now c.self.invariant c.find-place.ensures c.index_mut-group.ensures.value x.now is)
            c.own_part.ensures.value;
      },
    )
