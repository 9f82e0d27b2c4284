use Rattle.std.proofs.Common.{[], sym, ◌∙◌}
use Rattle.keyed_views.specs.declared.kept.Kept.{Kept}
use Rattle.keyed_views.specs.Keeping.{Brings, IsKeptOver, IsReady}
use Rattle.keyed_views.proofs.Whole.{is_mapped_is, named_all, named_one}
use Rattle.keyed_views.proofs.mappings.Mappings.remove_edit.Goals as goal

pub at-at-requires : goal.at-at-requires
at-at-requires c = sym (is_mapped_is c.args.self.now c.deref.result.now c.args.view.now (c.deref.ensures.value ∙ c.self.view_is)) ∙ c.requires.mapped

pub remove-requires-clause-kept : goal.remove-requires-clause-kept
remove-requires-clause-kept c = named_one c.args.self.now c.self.inside.list.items c.deref.result.now c.args.view.now c.at-at.result c.index.result.now c.self.invariant c.self.view_is c.deref.ensures.value c.at-at.ensures c.index.ensures (IsKeptOver c.args.table.now.schema c.args.table.now.rows) c.requires.kept

pub returns-clause-ready : goal.returns-clause-ready
returns-clause-ready c =
    named_all c.args.self.now c.self.inside.list.items c.deref.result.now c.args.view.now c.at-at.result c.index.result.now c.self.invariant c.self.view_is c.deref.ensures.value c.at-at.ensures c.index.ensures (λ (k : Kept). IsReady c.remove.result k.mapping) c.remove.ensures.ready

pub returns-clause-brings : goal.returns-clause-brings
returns-clause-brings c =
    named_all c.args.self.now c.self.inside.list.items c.deref.result.now c.args.view.now c.at-at.result c.index.result.now c.self.invariant c.self.view_is c.deref.ensures.value c.at-at.ensures c.index.ensures (Brings c.args.table.now.rows [] c.remove.result) c.remove.ensures.brings
