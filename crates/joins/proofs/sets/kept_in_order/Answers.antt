use Rattle.std.proofs.Common.{◌≡◌, ℕ, Bool, List, false, length, map, ap, subst, ◌∙◌, arith}
use Rattle.std.specs.Prelude.{IfOk}
use Rattle.std.proofs.lemmas.List.{length-map}
use Rattle.relations.specs.Equality.{is_row_among}
use Rattle.relations.specs.Positions.{passing}
use Rattle.joins.specs.Sets.{is_wanted}
use Rattle.joins.proofs.Members.{kept_by_marks}
use Rattle.joins.proofs.sets.kept_in_order.Goals as goal

pub wanted-requires : goal.wanted-requires
wanted-requires g c =
    let rows = c.args.a.now.rows in
    let marks = c.deref.ensures.value ∙ c.in_ok-shared.ensures ∙ ap (map (is_row_among c.args.index.now)) c.in_ok-own.ensures in
    let long = ap (λ (ms : List Bool). length ms) marks in
    let many = length-map rows (is_row_among c.args.index.now) in
    let few = c.size-size.ensures.whole.few in
    omega arith

pub returns-clause-kept : goal.returns-clause-kept
returns-clause-kept g c =
    let marks = c.deref.ensures.value ∙ c.in_ok-shared.ensures ∙ ap (map (is_row_among c.args.index.now)) c.in_ok-own.ensures in
    subst (λ (kept : List ℕ). IfOk c.wanted.result (λ positions. positions ≡ kept)) (ap (passing (is_wanted c.args.among) false) marks ∙ kept_by_marks c.args.index.now c.args.a.now.rows c.args.among) c.wanted.ensures.kept
