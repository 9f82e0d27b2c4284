use Rattle.std.proofs.Common.{ℕ, ◌∷◌, get_or, position, set, refl, ap, sym, ◌∙◌}
use Rattle.mk_value.specs.Names.{same_bytes}
use Rattle.questions.specs.contracts.cursor.Cursor.{the_view}
use Rattle.questions.specs.Cursors.{Placed, moved}
use Rattle.questions.proofs.Firsts.{changed_first, first_placed, made_none, none_placed}
use Rattle.questions.proofs.cursor.Cursors.move_to.Goals as goal

abbrev at_position : ℕ → Placed → Placed
at_position position c = record c { position = position }

pub returns-in-Some : goal.returns-in-Some
returns-in-Some c =
    let name = c.args.name.now in
    let test = λ (x : Placed). same_bytes x.name name in
    let all = c.args.self.now in
    let at = c.in-Some.at in
    let change = at_position c.args.position in
    let found = c.index_mut-cursor.result.now in
    ap (λ xs. set xs at (change (the_view c.cursor.inside))) c.self.view_is
    ∙ ap (λ x. set all at (change x)) (c.cursor.view_is ∙ c.index_mut-cursor.ensures.value ∙ ap (λ xs. get_or xs at found) c.self.view_is)
    ∙ sym (changed_first test change (λ xs. moved xs name c.args.position) (λ _ _. refl) all at found
    (first_placed test all at (ap (position test) (sym c.as_slice.ensures) ∙ sym c.place_of.ensures ∙ c.in-Some.is)))

pub returns-in_default : goal.returns-in_default
returns-in_default c =
    let name = c.args.name.now in
    let test = λ (x : Placed). same_bytes x.name name in
    let all = c.args.self.now in
    sym (made_none test (λ x xs. at_position c.args.position x ∷ xs) (λ xs. moved xs name c.args.position) refl (λ _ _. refl) all
    (none_placed test all (ap (position test) (sym c.as_slice.ensures) ∙ sym c.place_of.ensures ∙ c.in_default.is)))
