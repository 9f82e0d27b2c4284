use Rattle.std.proofs.Common.{position, Some, ap, sym, ◌∙◌}
use Rattle.std.specs.Option.{option_map}
use Rattle.keyed_views.specs.declared.by.By.{By}
use Rattle.keyed_views.specs.Keeping.{mapped_of}
use Rattle.keyed_views.proofs.Finding.{find_none, none_at}
use Rattle.keyed_views.proofs.Whole.{is_of, mapping_is, mapping_one}
use Rattle.keyed_views.proofs.mappings.Mappings.get.Goals as goal

pub returns-in-Some : goal.returns-in-Some
returns-in-Some c =
    let view = c.args.view.now in
    let kept = c.index-kept.result.now in
    mapping_one c.args.self.now c.self.inside.list.items c.deref.result.now view c.in-Some.at kept c.self.invariant c.self.view_is c.deref.ensures.value (sym c.find.ensures ∙ c.in-Some.is) c.index-kept.ensures
    ∙ ap (λ (b : By). Some (record { view = view; by = b; keys = kept.keys })) (sym c.by.ensures)

pub returns-in-None : goal.returns-in-None
returns-in-None c =
    let all = c.args.self.now in
    let view = c.args.view.now in
    mapping_is all view
    ∙ ap (option_map mapped_of) (find_none (is_of view) all (none_at (is_of view) all (ap (position (is_of view)) (sym (c.deref.ensures.value ∙ c.self.view_is)) ∙ sym c.find.ensures ∙ c.in-None.is)))
