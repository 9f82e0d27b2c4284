use Rattle.std.proofs.Common.{◌<◌, length, Option, ap, subst, sym, ◌∙◌}
use Rattle.std.specs.Prelude.{IfSome}
use Rattle.mk_value.specs.Tables.{Table}
use Rattle.tables.specs.Tables.{StoredTable}
use Rattle.view_store.specs.Views.{table_of}
use Rattle.watches.specs.Keeping.{IsKept, Kept, StandsAt, followed, followed_of}
use Rattle.watches.specs.Watches.{is_among, source_in, watch_table}
use Rattle.watches.proofs.Finding.{found_in}
use Rattle.watches.proofs.Shown.{any_named, named_at, table_found}
use Rattle.watches.proofs.following.Following.place.Goals as goal

pub at-requires : goal.at-requires
at-requires c = sym (any_named c.args.self.now c.deref.result.now c.args.name.now (c.deref.ensures.value ∙ c.self.view_is)) ∙ c.requires.there

pub place_of_row-requires-clause-there : goal.place_of_row-requires-clause-there
place_of_row-requires-clause-there c =
    (named_at c.args.self.now c.self.inside.list.items c.deref.result.now c.args.name.now c.at.result c.index.result.now c.self.view_is c.deref.ensures.value c.at.ensures c.index.ensures).has

pub place_of_row-requires-clause-kept : goal.place_of_row-requires-clause-kept
place_of_row-requires-clause-kept c =
    let name = c.args.name.now in
    let k = c.index.result.now in
    let views = c.args.views.now in
    let named = named_at c.args.self.now c.self.inside.list.items c.deref.result.now name c.at.result k c.self.view_is c.deref.ensures.value c.at.ensures c.index.ensures in
    let kept = found_in (λ (k : Kept). is_among (followed_of k).watches name) (IsKept views) c.args.self.now k c.requires.kept named.first in
    let table = table_found views (followed c.args.self.now) name (followed_of k) kept.table named.there kept.there in
    (kept.table, kept.over, subst (λ (o : Option Table). IfSome o (λ t. c.args.row < length t.rows)) table c.requires.row_in)

pub returns : goal.returns
returns c =
    let name = c.args.name.now in
    let k = c.index.result.now in
    let views = c.args.views.now in
    let shown = watch_table views (followed c.args.self.now) name in
    let named = named_at c.args.self.now c.self.inside.list.items c.deref.result.now name c.at.result k c.self.view_is c.deref.ensures.value c.at.ensures c.index.ensures in
    let kept = found_in (λ (k : Kept). is_among (followed_of k).watches name) (IsKept views) c.args.self.now k c.requires.kept named.first in
    let there = ap (λ o. table_of views (source_in o name).view) named.there ∙ kept.there in
    let table = table_found views (followed c.args.self.now) name (followed_of k) kept.table named.there kept.there in
    subst (λ (o : Option StoredTable). IfSome o (λ t. StandsAt t.rows c.place_of_row.result shown c.args.row)) (sym there)
    (subst (λ o. StandsAt kept.table.rows c.place_of_row.result o c.args.row) (sym table) (c.place_of_row.ensures kept.table kept.over))
