use Rattle.std.proofs.Common.{sym, ◌∙◌}
use Rattle.keyed_views.proofs.Whole.{is_mapped_is}
use Rattle.keyed_views.proofs.mappings.Mappings.is_mapped.Goals as goal

pub returns : goal.returns
returns c = c.is_mapped.ensures ∙ sym (is_mapped_is c.args.self.now c.deref.result.now c.args.view.now (c.deref.ensures.value ∙ c.self.view_is))
