use Rattle.std.proofs.Common.{map, All, ap, sym, subst, ◌∙◌}
use Rattle.tables.specs.Shapes.{HasHomes}
use Rattle.view_store.specs.Views.{NamedTable}
use Rattle.view_store.proofs.Named.{tables_named}
use Rattle.view_store.proofs.root.Root.tables.Goals as goal

pub returns-clause-tables : goal.returns-clause-tables
returns-clause-tables c =
    c.deref.ensures.value ∙ sym (tables_named c.self.inside.names c.self.inside.tables.items c.self.invariant.paired)
    ∙ ap (λ views. map (λ (v : NamedTable). v.table) views) c.self.view_is

pub returns-clause-shaped : goal.returns-clause-shaped
returns-clause-shaped c = subst (All (λ (v : NamedTable). HasHomes v.table)) c.self.view_is c.self.invariant.shaped
