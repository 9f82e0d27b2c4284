use Rattle.std.proofs.Common.{ap, map, ◌∙◌}
use Rattle.std.proofs.lemmas.List.{take_all}
use Rattle.view_store.specs.Rests.{homed_views}
use Rattle.storage.specs.Reverting.{without_homes}
use Rattle.storage.proofs.Homeless.{homeless_anew, named_is, root_anew}
use Rattle.storage.proofs.reverting.without_homes.Goals as goal

pub of-requires : goal.of-requires
of-requires c =
    let names_are = c.names.invariant ∙ take_all c.names.name-index c.as_slice-name-items.result.now c.names-test.false ∙ c.as_slice-name-items.ensures ∙ c.names-2.ensures.names in
    root_anew c.args.views.now c.names.names c.in_ok-tables.tables.items names_are (c.in_ok-tables.ensures ∙ ap (map without_homes) c.tables.ensures.tables) c.names-2.ensures.whole

pub returns-clause-value : goal.returns-clause-value
returns-clause-value c =
    let names_are = c.names.invariant ∙ take_all c.names.name-index c.as_slice-name-items.result.now c.names-test.false ∙ c.as_slice-name-items.ensures ∙ c.names-2.ensures.names in
    c.of.ensures ∙ named_is c.args.views.now c.names.names c.in_ok-tables.tables.items names_are (c.in_ok-tables.ensures ∙ ap (map without_homes) c.tables.ensures.tables)

pub returns-clause-homeless : goal.returns-clause-homeless
returns-clause-homeless c =
    let names_are = c.names.invariant ∙ take_all c.names.name-index c.as_slice-name-items.result.now c.names-test.false ∙ c.as_slice-name-items.ensures ∙ c.names-2.ensures.names in
    ap homed_views (c.of.ensures ∙ named_is c.args.views.now c.names.names c.in_ok-tables.tables.items names_are (c.in_ok-tables.ensures ∙ ap (map without_homes) c.tables.ensures.tables))
    ∙ homeless_anew c.args.views.now
