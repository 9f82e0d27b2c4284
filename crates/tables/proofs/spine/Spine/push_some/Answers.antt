use Rattle.std.proofs.Common.{◌+◌, ◌≤◌, ◌++◌, length, sym, ap, ◌∙◌, arith}
use Rattle.segments.proofs.Joined.{items_from_place, within_part}
use Rattle.tables.proofs.spine.Spine.push_some.Goals as goal

pub returns-clause-tables : goal.returns-clause-tables
returns-clause-tables c =
    let n = c.min-count.result in
    let place = rw (← c.self.view_is) at c.find-place.ensures.place in
    let here = c.get-chunk.ensures in
    let enough : c.find-place.result.offset + n ≤ length c.get-chunk.result.now =
    omega (arith, c.min-count.ensures, c.len.ensures.len, within_part c.self.inside.chunks c.args.from c.find-place.result c.get-chunk.result.now place here) in
    rw (← c.self.view_is)
    (c.in_ok-push_part.ensures
    ∙ ap (λ ts. c.args.list.now ++ ts) (sym (items_from_place c.self.inside.chunks c.args.from c.find-place.result c.get-chunk.result.now place here n enough)))
