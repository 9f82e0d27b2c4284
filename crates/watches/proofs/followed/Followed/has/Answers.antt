use Rattle.std.proofs.Common.{ap, subst, sym, ◌∙◌}
use Rattle.std.specs.List.{list_any}
use Rattle.mk_value.specs.Names.{same_bytes}
use Rattle.watches.specs.Keeping.{Kept}
use Rattle.watches.proofs.Grouped.{IsNamed}
use Rattle.watches.proofs.Naming.{among_names}
use Rattle.watches.proofs.followed.Followed.has.Goals as goal

pub returns : goal.returns
returns c =
    let k = c.args.self.now in
    let named = subst IsNamed c.self.view_is c.self.invariant in
    c.has_name.ensures ∙ ap (list_any (λ known. same_bytes known c.args.name.now)) (c.deref.ensures.value ∙ ap (λ (k : Kept). k.names) c.self.view_is)
    ∙ sym (among_names k.names k.watching.watches c.args.name.now named.paired)
