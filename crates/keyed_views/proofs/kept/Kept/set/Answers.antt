use Rattle.std.proofs.Common.{length, ap, subst, sym, ◌∙◌}
use Rattle.mapped.proofs.Keyed.{count_from}
use Rattle.mapped.specs.Keys.{IsKeyFor}
use Rattle.mk_value.specs.Values.{datum_of}
use Rattle.keyed_views.specs.Mapped.{row_with}
use Rattle.keyed_views.proofs.Comings.{key_in}
use Rattle.keyed_views.proofs.kept.Kept.set.Goals as goal

pub key_with-requires-clause-few : goal.key_with-requires-clause-few
key_with-requires-clause-few g c = (count_from c.args.self.now.keys (g.T.TableRead.schema c.args.table.now) c.requires.kept.plain).few

pub set-requires-clause-key : goal.set-requires-clause-key
set-requires-clause-key g c =
    let schema = g.T.TableRead.schema c.args.table.now in
    let row = row_with schema (g.T.TableRead.rows c.args.table.now) c.args.place c.args.prop.now (datum_of c.args.value.now) in
    subst (IsKeyFor schema) (sym c.in_ok-key.ensures) (key_in c.args.self.now.keys schema row c.requires.row c.requires.kept.plain).fits

pub set-requires-clause-full : goal.set-requires-clause-full
set-requires-clause-full g c =
    let schema = g.T.TableRead.schema c.args.table.now in
    let row = row_with schema (g.T.TableRead.rows c.args.table.now) c.args.place c.args.prop.now (datum_of c.args.value.now) in
    ap length c.in_ok-key.ensures ∙ (key_in c.args.self.now.keys schema row c.requires.row c.requires.kept.plain).full
