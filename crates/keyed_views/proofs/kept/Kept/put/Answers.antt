use Rattle.std.proofs.Common.{length, ap, subst, sym, ◌∙◌}
use Rattle.mapped.specs.Keys.{IsKeyFor}
use Rattle.keyed_views.proofs.Comings.{key_in}
use Rattle.keyed_views.proofs.kept.Kept.put.Goals as goal

pub first_values-requires : goal.first_values-requires
first_values-requires g c = (key_in c.args.self.now.keys (g.T.TableRead.schema c.args.table.now) c.args.row.now c.requires.row c.requires.kept.plain).within

pub put-requires-clause-key : goal.put-requires-clause-key
put-requires-clause-key g c =
    let schema = g.T.TableRead.schema c.args.table.now in
    subst (IsKeyFor schema) (sym c.in_ok-key.ensures) (key_in c.args.self.now.keys schema c.args.row.now c.requires.row c.requires.kept.plain).fits

pub put-requires-clause-full : goal.put-requires-clause-full
put-requires-clause-full g c =
    ap length c.in_ok-key.ensures ∙ (key_in c.args.self.now.keys (g.T.TableRead.schema c.args.table.now) c.args.row.now c.requires.row c.requires.kept.plain).full
