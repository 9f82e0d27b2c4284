use Rattle.std.proofs.Common.{◌≡◌, position, Some, refl, ap, sym, ◌∙◌}
use Rattle.watches.specs.Keeping.{Kept, followed_of}
use Rattle.watches.specs.Watches.{is_among}
use Rattle.watches.proofs.Finding.{any_first, first_at}
use Rattle.watches.proofs.Permuted.{shows_named}
use Rattle.watches.proofs.Shown.{any_named, named_at}
use Rattle.watches.proofs.following.Following.shows_all.Goals as goal

pub shows_all-requires : goal.shows_all-requires
shows_all-requires c =
    (named_at c.args.self.now c.self.inside.list.items c.deref.result.now c.args.name.now c.in-Some.at c.index.result.now c.self.view_is c.deref.ensures.value (sym c.find.ensures ∙ c.in-Some.is) c.index.ensures).has

pub returns-in-Some-clause-watch : goal.returns-in-Some-clause-watch
returns-in-Some-clause-watch c whole =
    let name = c.args.name.now in
    let all = c.args.self.now in
    let at = c.in-Some.at in
    let test = λ (k : Kept). is_among (followed_of k).watches name in
    let found : position test all ≡ Some at = ap (position test) (sym (c.deref.ensures.value ∙ c.self.view_is)) ∙ sym c.find.ensures ∙ c.in-Some.is in
    any_named all all name refl ∙ any_first test all at c.index.result.now (first_at test all at c.index.result.now found)

pub returns-in-Some-clause-rows : goal.returns-in-Some-clause-rows
returns-in-Some-clause-rows c whole views h =
    let name = c.args.name.now in
    let k = c.index.result.now in
    let named = named_at c.args.self.now c.self.inside.list.items c.deref.result.now name c.in-Some.at k c.self.view_is c.deref.ensures.value (sym c.find.ensures ∙ c.in-Some.is) c.index.ensures in
    shows_named views c.args.self.now name k h named (c.shows_all.ensures whole)
