use Rattle.std.proofs.Common.{sym, ap, ◌∙◌}
use Rattle.view_store.specs.Views.{view_names}
use Rattle.view_store.proofs.Named.{view_names-named}
use Rattle.view_store.proofs.root.Root.names.Goals as goal

pub returns-clause-names : goal.returns-clause-names
returns-clause-names c = sym (view_names-named c.self.inside.names c.self.inside.tables.items c.self.invariant.paired) ∙ ap view_names c.self.view_is
