use Rattle.std.proofs.Common.{Some, ap, sym, ◌∙◌}
use Rattle.watches.specs.Watches.{source_in}
use Rattle.watches.proofs.Shown.{absent_at, named_at}
use Rattle.watches.proofs.following.Following.over.Goals as goal

pub place-requires : goal.place-requires
place-requires c =
    (named_at c.args.self.now c.self.inside.list.items c.deref.result.now c.args.name.now c.in-Some.at c.index.result.now c.self.view_is c.deref.ensures.value (sym c.find.ensures ∙ c.in-Some.is) c.index.ensures).has

pub returns-in-Some : goal.returns-in-Some
returns-in-Some c =
    let name = c.args.name.now in
    let named = named_at c.args.self.now c.self.inside.list.items c.deref.result.now name c.in-Some.at c.index.result.now c.self.view_is c.deref.ensures.value (sym c.find.ensures ∙ c.in-Some.is) c.index.ensures in
    ap Some c.place.ensures.value ∙ sym (ap (λ o. (source_in o name).over) named.there)

pub returns-in-None : goal.returns-in-None
returns-in-None c =
    let name = c.args.name.now in
    let absent = absent_at c.args.self.now c.self.inside.list.items c.deref.result.now name c.self.view_is c.deref.ensures.value (sym c.find.ensures ∙ c.in-None.is) in
    sym (ap (λ o. (source_in o name).over) absent.0)
