use Rattle.std.proofs.Common.{ap, sym, ◌∙◌}
use Rattle.watches.specs.Watches.{source_in}
use Rattle.watches.proofs.Shown.{absent_at, named_at}
use Rattle.watches.proofs.following.Following.view_under.Goals as goal

pub returns-in-Some : goal.returns-in-Some
returns-in-Some c =
    let name = c.args.name.now in
    let k = c.index.result.now in
    let named = named_at c.args.self.now c.self.inside.list.items c.deref.result.now name c.in-Some.at k c.self.view_is c.deref.ensures.value (sym c.find.ensures ∙ c.in-Some.is) c.index.ensures in
    c.view.ensures ∙ sym (ap (λ o. (source_in o name).view) named.there)

pub returns-in-None : goal.returns-in-None
returns-in-None c =
    let name = c.args.name.now in
    let absent = absent_at c.args.self.now c.self.inside.list.items c.deref.result.now name c.self.view_is c.deref.ensures.value (sym c.find.ensures ∙ c.in-None.is) in
    sym (ap (λ o. (source_in o name).view) absent.0)
