use Rattle.std.proofs.Common.{sym, ◌∙◌}
use Rattle.row_edits.proofs.Showing.{came_before, came_last, part_stands, whole_stands}
use Rattle.row_edits.proofs.between.Between.place.Goals as goal

pub origin_in-requires : goal.origin_in-requires
origin_in-requires g c =
    let s = c.args.self.now in
    let few = c.size-size.ensures.whole.few in
    (_, part_stands s.whole.now s.part s.home (g.T.TableRead.rows s.before.now) (g.T.TableRead.rows s.after.now) s.between few c.args.row c.requires)

pub returns-in-None : goal.returns-in-None
returns-in-None g c =
    let s = c.args.self.now in
    let few = c.size-size.ensures.whole.few in
    came_last s.whole.now s.part s.home (g.T.TableRead.rows s.before.now) (g.T.TableRead.rows s.after.now) s.between few c.args.row c.requires (sym c.origin_in.ensures ∙ c.in-None.is)

pub origin-requires : goal.origin-requires
origin-requires g c =
    let s = c.args.self.now in
    let few = c.size-size.ensures.whole.few in
    (_, whole_stands s.whole.now s.part s.home (g.T.TableRead.rows s.before.now) (g.T.TableRead.rows s.after.now) s.between few c.args.row c.requires _ (sym c.origin_in.ensures ∙ c.in-Some.is))

pub returns-in-Some : goal.returns-in-Some
returns-in-Some g c =
    let s = c.args.self.now in
    let few = c.size-size.ensures.whole.few in
    let before = g.T.TableRead.rows s.before.now in
    let after = g.T.TableRead.rows s.after.now in
    let is = sym c.origin_in.ensures ∙ c.in-Some.is in
    came_before s.whole.now s.part s.home before after s.between few c.args.row c.requires _ is c.origin.result
    (c.origin.ensures _ before (whole_stands s.whole.now s.part s.home before after s.between few c.args.row c.requires _ is))
