use Rattle.std.proofs.Common.{◌∙◌, ◌-◌, ◌∷◌, List, ap, sym, subst, map, take, drop, length, rules}
use Rattle.std.specs.Prelude.{OnOk}
use Rattle.std.proofs.lemmas.List.{length-map}
use Rattle.mk_value.specs.Heading.{Attribute}
use Rattle.mk_value.specs.Values.{datum_of}
use Rattle.mk_value.specs.Kinds.{domain_of}
use Rattle.tables.specs.Columns.{StoredColumn}
use Rattle.tables.specs.Edits.{ArePutIn}
use Rattle.tables.specs.Prepared.{AreReady}
use Rattle.tables.specs.Stored.{stored_of}
use Rattle.tables.proofs.Edited.{both_ok}
use Rattle.tables.proofs.Pushed.{none_put, more_put}
use Rattle.tables.proofs.edits.+fn-insert_rows-also+insert_rows.Goals as goal

pub returns-in_default-clause-ok : goal.returns-in_default-clause-ok
returns-in_default-clause-ok t c =
    none_put c.args.rows c.args.at c.args.count c.args.props.now (map datum_of c.args.values.now) (map stored_of c.args.cols.now) c.requires.ready (length-map c.args.cols.now stored_of ∙ c.in_default.ensures.cases)

pub returns-clause-ok : goal.returns-clause-ok
returns-clause-ok t c =
    let split = ap (λ cs. map stored_of cs) c.in-Some.ensures.cases.0 in
    let P : List StoredColumn → Type 0 = λ cs. AreReady c.args.rows c.args.props.now (map datum_of c.args.values.now) cs in
    let Q : List StoredColumn → Type 0 = λ cs. OnOk c.insert_value.result (ArePutIn c.args.at c.args.count c.args.props.now (map datum_of c.args.values.now) cs (stored_of c.insert_value.new.col ∷ map stored_of c.rest-1.given.0)) in
    let step : OnOk c.insert_value.result
    (ArePutIn c.args.at c.args.count (take (length c.args.props.now - 1) (drop 1 c.args.props.now)) (map datum_of (take (length c.args.values.now - 1) (drop 1 c.args.values.now))) (map stored_of c.in-Some.rest.now) (map stored_of c.rest-1.given.0)) =
    search rules in
    subst Q (sym split)
    (both_ok c.insert_value.result
    (λ first rest. more_put c.args.rows c.args.at c.args.count c.args.props.now c.args.values.now (stored_of c.in-Some.first.now) (stored_of c.insert_value.new.col) (map stored_of c.in-Some.rest.now) (map stored_of c.rest-1.given.0)
    c.index-props-0.result (domain_of c.prop.inside.kind) c.index-values-0.result (subst P split c.requires.ready) c.index-props-0.is (ap (λ (a : Attribute). a.domain) c.prop.view_is) c.index-values-0.is first rest)
    c.insert_value.ensures.ok step)
