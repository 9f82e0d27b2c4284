use Rattle.std.proofs.Common.{◌≡◌, ◌<◌, length, ap, subst, sym}
use Rattle.std.proofs.lemmas.Result.{IfOk-weaker}
use Rattle.session.specs.Keyed.{IsRowIn, place_of_set, stand_edits}
use Rattle.session.proofs.KeyedLines.{one_row}
use Rattle.session.proofs.KeyedSet.{stays_put}
use Rattle.session.proofs.keyed.row_that_moves.Goals as goal

pub row_in-requires : goal.row_in-requires
row_in-requires c =
    let there = c.requires in
    (there.0, there.1, subst (λ k. k < length there.0.rows) (ap place_of_set c.in-Move.is) there.2)

pub returns-in-Move-clause-ok : goal.returns-in-Move-clause-ok
returns-in-Move-clause-ok c =
    let views = c.args.views.now in
    let name = c.args.name.now in
    let at = place_of_set c.args.edit in
    IfOk-weaker c.row_in.result (IsRowIn views name c.in-Move.at) (λ row. (r : _) → IsRowIn views name at r → stand_edits row c.args.edit ≡ stand_edits r c.args.edit)
    (λ row here r there. ap (λ x. stand_edits x c.args.edit) (one_row views name at row r (subst (λ k. IsRowIn views name k row) (sym (ap place_of_set c.in-Move.is)) here) there)) c.row_in.ensures.ok

pub returns-in_default-clause-ok : goal.returns-in_default-clause-ok
returns-in_default-clause-ok c = λ r there. stays_put c.new.result r c.args.edit c.in_default.not-Move
