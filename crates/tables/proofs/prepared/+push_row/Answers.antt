use Rattle.std.proofs.Common.{◌∙◌, ◌∷◌, List, ap, sym, subst, map, rules}
use Rattle.std.proofs.lemmas.List.{length-map}
use Rattle.mk_value.specs.Heading.{Attribute}
use Rattle.mk_value.specs.Values.{datum_of}
use Rattle.mk_value.specs.Kinds.{domain_of}
use Rattle.tables.specs.Prepared.{IsPushed, AreReady, ArePushed}
use Rattle.tables.specs.Columns.{StoredColumn}
use Rattle.tables.specs.declared.cols.Col.{Col}
use Rattle.tables.specs.Stored.{stored_of}
use Rattle.tables.proofs.Pushed.{pushed_none, ready_rest, pushed_more}
use Rattle.tables.proofs.prepared.+push_row.Goals as goal

pub returns-in_default-clause-ok : goal.returns-in_default-clause-ok
returns-in_default-clause-ok t c =
    pushed_none c.args.rows c.args.props.now (map datum_of c.args.values.now) (map stored_of c.args.cols.now) c.requires.ready (length-map c.args.cols.now stored_of ∙ c.in_default.ensures.cases)

pub push_row-requires : goal.push_row-requires
push_row-requires t c =
    let split = ap (λ cs. map stored_of cs) c.in-Some.ensures.cases.0 in
    let P : List StoredColumn → Type 0 = λ cs. AreReady c.args.rows c.args.props.now (map datum_of c.args.values.now) cs in
    (search rules, (c.requires.few, ready_rest c.args.rows c.args.props.now c.args.values.now (stored_of c.in-Some.first.now) (map stored_of c.in-Some.rest.now) (subst P split c.requires.ready)))

pub returns-in-Ok-push_row-clause-ok : goal.returns-in-Ok-push_row-clause-ok
returns-in-Ok-push_row-clause-ok t c =
    let split = ap (λ cs. map stored_of cs) c.in-Some.ensures.cases.0 in
    let P : List StoredColumn → Type 0 = λ cs. AreReady c.args.rows c.args.props.now (map datum_of c.args.values.now) cs in
    let Q : List StoredColumn → Type 0 = λ cs. ArePushed c.args.rows c.args.props.now (map datum_of c.args.values.now) cs (stored_of c.finish.result ∷ map stored_of c.push_row.new.cols) in
    let R : Col → Type 0 = λ x. IsPushed c.args.rows (domain_of c.prop.inside.kind) (datum_of c.index-values-0.result) (stored_of x) (stored_of c.finish.result) in
    let first = subst R c.replace-column.ensures.value (c.in-Ok.ensures.ok.after (stored_of c.finish.result) c.finish.ensures) in
    subst Q (sym split)
    (pushed_more c.args.rows c.args.props.now c.args.values.now (stored_of c.in-Some.first.now) (stored_of c.finish.result) (map stored_of c.in-Some.rest.now) (map stored_of c.push_row.new.cols)
    c.index-props-0.result (domain_of c.prop.inside.kind) c.index-values-0.result
    (subst P split c.requires.ready) c.index-props-0.is (ap (λ (a : Attribute). a.domain) c.prop.view_is) c.index-values-0.is first c.in-Ok-push_row.ensures.ok)
