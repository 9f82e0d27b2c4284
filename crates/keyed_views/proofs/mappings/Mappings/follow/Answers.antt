use Rattle.std.proofs.Common.{refl, sym, ◌∙◌}
use Rattle.keyed_views.specs.declared.kept.Kept.{Kept}
use Rattle.keyed_views.specs.Keeping.{IsReady}
use Rattle.keyed_views.proofs.Holding.{kept_follows}
use Rattle.keyed_views.proofs.Whole.{is_mapped_is, named_one, same_mapped}
use Rattle.keyed_views.proofs.mappings.Mappings.follow.Goals as goal

pub at-at-requires : goal.at-at-requires
at-at-requires c = sym (is_mapped_is c.args.self.now c.deref.result.now c.args.view.now (c.deref.ensures.value ∙ c.self.view_is)) ∙ c.requires.mapped

pub follow-requires : goal.follow-requires
follow-requires c = named_one c.args.self.now c.self.inside.list.items c.deref.result.now c.args.view.now c.at-at.result c.index_mut.result.now c.self.invariant c.self.view_is c.deref.ensures.value c.at-at.ensures c.index_mut.ensures.value (λ (k : Kept). IsReady c.args.coming k.mapping) c.requires.ready

pub returns-clause-same : goal.returns-clause-same
returns-clause-same c = same_mapped c.args.self.now c.self.inside.list.items c.deref.result.now c.args.view.now c.at-at.result c.index_mut.result.now c.self.invariant c.self.view_is c.deref.ensures.value c.at-at.ensures c.index_mut.ensures.value (record { view = c.index_mut.result.now.view; keys = c.index_mut.result.now.keys; mapping = c.follow.new.self }) refl refl c.follow.ensures.by

pub returns-clause-kept : goal.returns-clause-kept
returns-clause-kept c = λ old now rows row h brings edits. kept_follows c.args.self.now c.self.inside.list.items c.deref.result.now c.args.view.now c.at-at.result c.index_mut.result.now c.self.invariant c.self.view_is c.deref.ensures.value c.at-at.ensures c.index_mut.ensures.value (record { view = c.index_mut.result.now.view; keys = c.index_mut.result.now.keys; mapping = c.follow.new.self }) refl refl c.args.coming c.follow.ensures.keeps old now rows row h brings edits
