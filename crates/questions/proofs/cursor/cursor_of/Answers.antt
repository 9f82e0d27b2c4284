use Rattle.std.proofs.Common.{Some, refl, ap, sym, ◌∙◌}
use Rattle.mk_value.specs.Names.{same_bytes}
use Rattle.questions.specs.Cursors.{Placed}
use Rattle.questions.proofs.Firsts.{find_first, find_none, first_placed, none_placed}
use Rattle.questions.proofs.cursor.cursor_of.Goals as goal

pub returns-in-Some : goal.returns-in-Some
returns-in-Some c =
    let test = λ (x : Placed). same_bytes x.name c.args.name.now in
    let cursors = c.args.cursors.now in
    let at = c.in-Some.at in
    find_first test cursors at c.index-cursors-at.result (first_placed test cursors at (sym c.place_of.ensures ∙ c.in-Some.is)) ∙ ap Some (sym c.index-cursors-at.is)

pub returns-in-None : goal.returns-in-None
returns-in-None c =
    let test = λ (x : Placed). same_bytes x.name c.args.name.now in
    let cursors = c.args.cursors.now in
    (find_none test cursors (none_placed test cursors (sym c.place_of.ensures ∙ c.in-None.is)), refl)
