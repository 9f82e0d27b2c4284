use Rattle.std.proofs.Common.{ap, sym, ◌∙◌}
use Rattle.watches.specs.Watches.{op_found}
use Rattle.watches.proofs.Shown.{absent_at, named_at}
use Rattle.watches.proofs.following.Following.op.Goals as goal

pub op-requires : goal.op-requires
op-requires c =
    (named_at c.args.self.now c.self.inside.list.items c.deref.result.now c.args.name.now c.in-Some.at c.index.result.now c.self.view_is c.deref.ensures.value (sym c.find.ensures ∙ c.in-Some.is) c.index.ensures).has

pub returns-in-Some : goal.returns-in-Some
returns-in-Some c =
    let name = c.args.name.now in
    let named = named_at c.args.self.now c.self.inside.list.items c.deref.result.now name c.in-Some.at c.index.result.now c.self.view_is c.deref.ensures.value (sym c.find.ensures ∙ c.in-Some.is) c.index.ensures in
    ap (λ o. op_found o name) named.there ∙ c.op.ensures

pub returns-in-None : goal.returns-in-None
returns-in-None c =
    let name = c.args.name.now in
    let absent = absent_at c.args.self.now c.self.inside.list.items c.deref.result.now name c.self.view_is c.deref.ensures.value (sym c.find.ensures ∙ c.in-None.is) in
    ap (λ o. op_found o name) absent.0
