use Rattle.std.proofs.Common.{Some, ap, sym, ◌∙◌}
use Rattle.view_store.specs.Views.{table_of}
use Rattle.watches.specs.Keeping.{followed, followed_of}
use Rattle.watches.proofs.Shown.{any_named, named_at, table_found}
use Rattle.watches.proofs.following.Following.rows.Goals as goal

pub at-requires : goal.at-requires
at-requires c = sym (any_named c.args.self.now c.deref.result.now c.args.name.now (c.deref.ensures.value ∙ c.self.view_is)) ∙ c.requires.there

pub rows-requires-clause-there : goal.rows-requires-clause-there
rows-requires-clause-there c =
    (named_at c.args.self.now c.self.inside.list.items c.deref.result.now c.args.name.now c.at.result c.index-watches.result.now c.self.view_is c.deref.ensures.value c.at.ensures c.index-watches.ensures).has

pub returns : goal.returns
returns c =
    let name = c.args.name.now in
    let views = c.args.views.now in
    let all = c.args.self.now in
    let k = c.index-watches.result.now in
    let t = c.shared.result.now in
    let named = named_at all c.self.inside.list.items c.deref.result.now name c.at.result k c.self.view_is c.deref.ensures.value c.at.ensures c.index-watches.ensures in
    let there = ap (table_of views) (sym c.view.ensures) ∙ c.shared.ensures in
    table_found views (followed all) name (followed_of k) t named.there there ∙ ap Some (sym c.rows.ensures)
