use Rattle.std.proofs.Common.{length, Some, ap, sym, ◌∙◌}
use Rattle.std.specs.Option.{option_map}
use Rattle.mk_value.specs.Tables.{Table}
use Rattle.watches.specs.Keeping.{IsKept, Kept, followed, followed_of}
use Rattle.watches.specs.Watches.{is_among}
use Rattle.watches.proofs.Finding.{found_in}
use Rattle.watches.proofs.Shown.{any_named, named_at, table_found}
use Rattle.watches.proofs.following.Following.size.Goals as goal

pub at-requires : goal.at-requires
at-requires c = sym (any_named c.args.self.now c.deref.result.now c.args.name.now (c.deref.ensures.value ∙ c.self.view_is)) ∙ c.requires

pub size-requires : goal.size-requires
size-requires c =
    (named_at c.args.self.now c.self.inside.list.items c.deref.result.now c.args.name.now c.at.result c.index.result.now c.self.view_is c.deref.ensures.value c.at.ensures c.index.ensures).has

pub returns : goal.returns
returns c views h =
    let name = c.args.name.now in
    let k = c.index.result.now in
    let named = named_at c.args.self.now c.self.inside.list.items c.deref.result.now name c.at.result k c.self.view_is c.deref.ensures.value c.at.ensures c.index.ensures in
    let kept = found_in (λ (k : Kept). is_among (followed_of k).watches name) (IsKept views) c.args.self.now k h named.first in
    ap (option_map (λ (t : Table). length t.rows)) (table_found views (followed c.args.self.now) name (followed_of k) kept.table named.there kept.there)
    ∙ ap Some (sym (c.size.ensures kept.table kept.over))
