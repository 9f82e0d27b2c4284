use Rattle.std.proofs.Common.{ap, subst, sym, ◌∙◌}
use Rattle.std.specs.List.{list_any, position_or_len}
use Rattle.mk_value.specs.Names.{same_bytes}
use Rattle.watches.specs.Keeping.{Kept}
use Rattle.watches.proofs.Grouped.{IsNamed}
use Rattle.watches.proofs.Naming.{among_names, place_names}
use Rattle.watches.proofs.followed.Followed.place.Goals as goal

pub place_of_name-requires : goal.place_of_name-requires
place_of_name-requires c =
    let k = c.args.self.now in
    let named = subst IsNamed c.self.view_is c.self.invariant in
    ap (list_any (λ known. same_bytes known c.args.name.now)) (c.deref.ensures.value ∙ ap (λ (k : Kept). k.names) c.self.view_is)
    ∙ sym (among_names k.names k.watching.watches c.args.name.now named.paired) ∙ c.requires

pub returns-clause-value : goal.returns-clause-value
returns-clause-value c =
    let k = c.args.self.now in
    let named = subst IsNamed c.self.view_is c.self.invariant in
    c.place_of_name.ensures.value ∙ ap (position_or_len (λ known. same_bytes known c.args.name.now)) (c.deref.ensures.value ∙ ap (λ (k : Kept). k.names) c.self.view_is)
    ∙ sym (place_names k.names k.watching.watches c.args.name.now named.paired)
