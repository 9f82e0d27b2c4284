use Rattle.std.proofs.Common.{◌≡◌, true, sym, subst}
use Rattle.relations.specs.Rows.{has}
use Rattle.relations.proofs.Names.{all_present}
use Rattle.kept_counts.proofs.making.columns_of.Goals as goal

pub column-requires : goal.column-requires
column-requires c =
    subst (λ name. has c.args.schema.now name ≡ true) (sym c.name-item.is)
    (all_present c.args.schema.now c.args.names.now c.requires c.loop-name.name-index c.name-item.result c.loop-name-test.true)
