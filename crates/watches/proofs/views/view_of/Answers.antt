use Rattle.std.proofs.Common.{◌<◌, length, get_or, position, Some, ap, sym, ◌∙◌, arith}
use Rattle.std.proofs.lemmas.List.{length-map, get_or-map}
use Rattle.mk_value.specs.Names.{same_bytes}
use Rattle.view_store.specs.Views.{NamedTable, view_names}
use Rattle.view_store.proofs.Named.{IsPlace-position, IsAbsent-position, no_view, table_of-place, table_of-absent}
use Rattle.watches.proofs.views.view_of.Goals as goal

pub returns-in-Some : goal.returns-in-Some
returns-in-Some c =
    let vs = c.args.views.now in
    let name = c.args.name.now in
    let at = c.in-Some.at in
    let place = IsPlace-position (view_names vs) name at (ap (λ ns. position (λ known. same_bytes known name) ns) (sym c.names.ensures.names) ∙ sym c.place_in.ensures ∙ c.in-Some.is) in
    let long = length-map vs (λ (v : NamedTable). v.name) in
    let within : at < length vs = let here = place.within in omega (arith, here, long) in
    table_of-place vs name at place
    ∙ ap Some (sym (c.index-tables-at.is ∙ ap (λ ts. get_or ts at c.index-tables-at.result) c.tables.ensures.tables
    ∙ get_or-map (λ (v : NamedTable). v.table) vs at no_view c.index-tables-at.result within))

pub returns-in-None : goal.returns-in-None
returns-in-None c =
    let vs = c.args.views.now in
    let name = c.args.name.now in
    table_of-absent vs name
    (IsAbsent-position (view_names vs) name (ap (λ ns. position (λ known. same_bytes known name) ns) (sym c.names.ensures.names) ∙ sym c.place_in.ensures ∙ c.in-None.is))
