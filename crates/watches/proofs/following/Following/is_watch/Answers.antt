use Rattle.std.proofs.Common.{sym, ◌∙◌}
use Rattle.watches.proofs.Shown.{any_named}
use Rattle.watches.proofs.following.Following.is_watch.Goals as goal

pub returns : goal.returns
returns c = c.is_watch.ensures ∙ sym (any_named c.args.self.now c.deref.result.now c.args.name.now (c.deref.ensures.value ∙ c.self.view_is))
