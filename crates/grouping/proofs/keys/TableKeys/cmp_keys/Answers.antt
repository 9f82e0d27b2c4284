use Rattle.std.proofs.Common.{◌<◌, [], length, get_or, refl, ap, ◌∙◌}
use Rattle.std.proofs.lemmas.List.Elements.{All-weaker}
use Rattle.relations.specs.Keys.{IsPlainColumn}
use Rattle.relations.specs.WholeOrder.{whole_row_cmp}
use Rattle.grouping.proofs.Probing.{key_here, place_here}
use Rattle.grouping.proofs.keys.TableKeys.cmp_keys.Goals as goal

pub cmp_beside-requires-clause-row_in : goal.cmp_beside-requires-clause-row_in
cmp_beside-requires-clause-row_in g c = place_here (g.U.TableRead.rows c.other.inside.table.now) c.args.other.now c.other.inside.columns c.args.place c.other.view_is c.requires.place_in

pub cmp_beside-requires-clause-columns_in : goal.cmp_beside-requires-clause-columns_in
cmp_beside-requires-clause-columns_in g c =
    let schema = g.U.TableRead.schema c.other.inside.table.now in
    All-weaker (IsPlainColumn schema) (λ j. j < length schema) (λ j h. h.in_range) c.other.inside.columns c.other.invariant

pub returns : goal.returns
returns g c =
    let other = c.other.inside in
    let rows = g.U.TableRead.rows other.table.now in
    c.cmp_beside.ensures
    ∙ ap (whole_row_cmp (get_or c.args.self.now c.args.at []))
    (key_here rows c.args.other.now other.columns other.columns c.args.place c.other.view_is refl (place_here rows c.args.other.now other.columns c.args.place c.other.view_is c.requires.place_in))
