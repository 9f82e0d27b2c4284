use Rattle.std.proofs.Common.{get_or, Some, ap, subst, sym, ◌∙◌}
use Rattle.watches.specs.Keeping.{Kept}
use Rattle.watches.proofs.Grouped.{IsNamed, any_watch, name_place}
use Rattle.watches.proofs.Naming.{shown_op}
use Rattle.watches.proofs.followed.Followed.op.Goals as goal

pub returns : goal.returns
returns c =
    let k = c.args.self.now in
    let named = subst IsNamed c.self.view_is c.self.invariant in
    shown_op k.names k.watching.watches c.args.name.now any_watch named.paired c.requires
    ∙ ap Some (sym (c.op_at.ensures any_watch ∙ ap (λ i. (get_or c.self.inside.watches.watches i any_watch).op) c.place.ensures.value
    ∙ ap (λ (k2 : Kept). (get_or k2.watching.watches (name_place k c.args.name.now) any_watch).op) c.self.view_is))
