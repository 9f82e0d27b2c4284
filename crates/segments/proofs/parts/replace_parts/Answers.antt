use Rattle.std.proofs.Common.{◌≡◌, ◌∙◌, ◌++◌, List, length, ap, sym, take, drop, rules}
use Rattle.std.proofs.lemmas.List.{map-id}
use Rattle.std.proofs.lemmas.Iterator.{items_from_drains}
use Rattle.std.proofs.lemmas.Iterator.Adapters.{YieldsList-from_vec}
use Rattle.std.specs.Vec.{vec_len}
use Rattle.segments.proofs.parts.replace_parts.Goals as goal

pub returns-clause-ok : goal.returns-clause-ok
returns-clause-ok g c =
    let items = c.in_ok-splice.ensures.items in
    let fresh_len : vec_len c.args.fresh ≡ length c.args.fresh.items = search rules in
    let yields = YieldsList-from_vec c.args.fresh.items items.2.0 (items.2.1 ∙ fresh_len) in
    let drained = items.3 in
    let same = items_from_drains items.1 (drained.1.0, drained.1.1, λ _. (drained.0, drained.1.2)) yields in
    items.4 ∙ ap (λ (xs : List g.row.T.Denot). take c.args.first c.args.parts.now.items ++ (xs ++ drop c.args.after c.args.parts.now.items)) (sym (map-id items.1) ∙ same)
