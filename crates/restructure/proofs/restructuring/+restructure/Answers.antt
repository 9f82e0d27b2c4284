use Rattle.std.proofs.Common.{◌≡◌, ◌<◌, [], Some, length, get_or, replicate, ap, sym, subst, ◌∙◌, arith}
use Rattle.mk_value.specs.Heading.{Domain, Attribute, domain_weight, find, heading_of}
use Rattle.mk_value.specs.Data.{default_of}
use Rattle.mk_value.specs.Kinds.{domain_of}
use Rattle.mk_value.specs.declared.schema.Kind.TheVariants as kind
use Rattle.mk_value.proofs.Headings.{attributes_weight-at, heading_weight-heading_of}
use Rattle.mk_value.proofs.Walks.{same_default}
use Rattle.tables.specs.Columns.{StoredColumn, AreColumnsIn, IsColumnWith, IsTableOf}
use Rattle.tables.specs.Homes.{empty_home}
use Rattle.tables.specs.Read.{values_read}
use Rattle.tables.specs.Stored.{stored_of}
use Rattle.tables.proofs.Cells.{IfOk-then}
use Rattle.tables.proofs.Reading.{domain_read}
use Rattle.restructure.specs.Columns.{IsColumnUnder}
use Rattle.restructure.specs.Restructuring.{restructured}
use Rattle.restructure.proofs.Converted.{at_kind, from_kind, defaulted, other_than_views}
use Rattle.restructure.proofs.Made.{one_more_made, one_column_more, table_made, found_within, under_none, under_place, views_made}
use Rattle.restructure.proofs.restructuring.+restructure.Goals as goal

pub restructure_cols-restructure_place-requires : goal.restructure_cols-restructure_place-requires
restructure_cols-restructure_place-requires t c =
    let new = c.args.new.now in
    let props = ap length c.as_slice-props.ensures.value in
    let within : c.loop-at.at < length new = omega (arith, props) in
    let kind = ap (λ (a : Attribute). a.domain) c.prop.view_is in
    let domain = domain_read new c.loop-at.at c.index-props-at.result (domain_of c.prop.inside.kind) within (rw c.as_slice-props.ensures.value at c.index-props-at.is) kind in
    let weight = attributes_weight-at new c.loop-at.at (record { name = []; domain = Domain.integer }) within in
    (omega (arith, weight, ap domain_weight domain), found_within c.args.old.now.schema c.schema.result.now c.as_str.result.now c.find-place.result c.find-place.ensures c.schema.ensures.value)

pub restructure_cols-loop-at-preserved : goal.restructure_cols-loop-at-preserved
restructure_cols-loop-at-preserved t c =
    let old = c.args.old.now in
    let new = c.args.new.now in
    let none : Attribute = record { name = []; domain = Domain.integer } in
    let a = c.index-props-at.result in
    let col = stored_of c.in_ok-restructure_place.field-0 in
    let props = ap length c.as_slice-props.ensures.value in
    let within : c.loop-at.at < length new = omega (arith, props) in
    let here : a ≡ get_or new c.loop-at.at none = (rw c.as_slice-props.ensures.value at c.index-props-at.is) ∙ same_default new c.loop-at.at a none within in
    let place : c.find-place.result ≡ find old.schema a.name =
    c.find-place.ensures ∙ ap (λ s. find s c.as_str.result.now) c.schema.ensures.value ∙ ap (find old.schema) (c.as_str.ensures.value ∙ ap (λ (b : Attribute). b.name) c.prop.view_is) in
    let domain : domain_of c.prop.inside.kind ≡ a.domain = ap (λ (b : Attribute). b.domain) c.prop.view_is in
    one_column_more old new c.loop-at.at a c.loop-at.cols c.push.new.self col (record { paired = c.loop-at.invariant.paired; each = c.loop-at.invariant.each }) within here c.in_ok-push.ensures.ok
    (subst (λ e. IsColumnUnder old (find old.schema a.name) e col) domain (subst (λ o. IsColumnUnder old o (domain_of c.prop.inside.kind) col) place c.in_ok-restructure_place.ensures))

pub restructure_column-to_views-requires : goal.restructure_column-to_views-requires
restructure_column-to_views-requires t c =
    let kind = ap (λ k. domain_weight (domain_of k)) c.in-V.is in
    (omega (arith, kind, heading_weight-heading_of c.in-V.schema), (c.requires.whole, (c.requires.rows, c.requires.few)))

pub restructure_place-returns-in-Some : goal.restructure_place-returns-in-Some
restructure_place-returns-in-Some t c =
    IfOk-then c.restructure_column.result c.restructure_column.ensures
    (λ col h. under_place c.args.old.now c.in-Some.at (domain_of c.column.result.kind.now) (domain_of c.args.kind.now) c.args.place (stored_of c.column.result.col.now) (stored_of col)
    c.in-Some.is c.column.ensures.kind c.column.ensures.values c.column.ensures.home h)

pub restructure_place-returns-in-None : goal.restructure_place-returns-in-None
restructure_place-returns-in-None t c =
    IfOk-then c.default_column.result c.default_column.ensures
    (λ col h. under_none c.args.old.now c.len-in-None.result (domain_of c.args.kind.now) c.args.place (stored_of col) c.in-None.is c.len-in-None.ensures.value h)

pub restructure_table-of_columns-requires : goal.restructure_table-of_columns-requires
restructure_table-of_columns-requires t c =
    let columns = subst (λ s. AreColumnsIn (restructured c.args.old.now s) c.in_ok-cols.cols) c.get.ensures c.in_ok-cols.ensures in
    (table_made c.args.old.now c.args.new.now c.len.result c.in_ok-cols.cols c.len.ensures.whole c.len.ensures.value columns).whole

pub restructure_table-returns : goal.restructure_table-returns
restructure_table-returns t c =
    let columns = subst (λ s. AreColumnsIn (restructured c.args.old.now s) c.in_ok-cols.cols) c.get.ensures c.in_ok-cols.ensures in
    IfOk-then c.of_columns.result c.of_columns.ensures
    (λ table e. e ∙ (table_made c.args.old.now c.args.new.now c.len.result c.in_ok-cols.cols c.len.ensures.whole c.len.ensures.value columns).table)

pub restructure_views-loop-at-preserved : goal.restructure_views-loop-at-preserved
restructure_views-loop-at-preserved t c =
    let new = c.args.new.now in
    let schema = c.in_ok-schema.ensures ∙ c.in_ok-copy.ensures in
    let x = c.in_ok-inner.inner in
    let made = c.in_ok-restructure_inner.field-0 in
    one_more_made c.args.old.now new c.loop-at.at c.loop-at.tables c.push.new.self x made (record { are = c.loop-at.invariant.are; whole = c.loop-at.invariant.whole }) (c.get.ensures ∙ ap Some (sym c.in_ok-inner.ensures))
    (c.in_ok-restructure_inner.ensures.made ∙ ap (restructured x) schema) (subst (λ s. IsTableOf s made) schema c.in_ok-restructure_inner.ensures.whole) c.in_ok-push.ensures.ok

pub to_views-returns-in_ok-restructure_views-in-V : goal.to_views-returns-in_ok-restructure_views-in-V
to_views-returns-in_ok-restructure_views-in-V t c =
    let k = c.args.old.kind.now in
    let was = stored_of c.args.old.col.now in
    let n = length (values_read c.args.old) in
    let new = c.args.schema.now in
    from_kind k (kind.V c.in-V.field-0) (Domain.relation (heading_of new)) was _ c.in-V.is
    (views_made n (heading_of c.in-V.field-0) new was c.views.result.now c.in_ok-restructure_views-in-V.field-0 (at_kind k (kind.V c.in-V.field-0) n was c.in-V.is c.requires.whole) c.views.ensures
    c.in_ok-restructure_views-in-V.ensures.made c.in_ok-restructure_views-in-V.ensures.whole)

pub to_views-returns-in_ok-copy-in_default : goal.to_views-returns-in_ok-copy-in_default
to_views-returns-in_ok-copy-in_default t c =
    let k = c.args.old.kind.now in
    let was = stored_of c.args.old.col.now in
    let n = length (values_read c.args.old) in
    let g = heading_of c.args.schema.now in
    let with_defaults = λ (e : Domain) (col : StoredColumn). IsColumnWith e (replicate c.args.rows (default_of e)) (empty_home e (replicate c.args.rows (default_of e))) col in
    IfOk-then c.default_column.result c.default_column.ensures
    (λ col h. defaulted n c.args.rows (domain_of k) (Domain.relation g) was (stored_of col) (other_than_views k g c.in_default.not-V) c.requires.whole c.requires.rows
    (subst (λ s. with_defaults (Domain.relation (heading_of s)) (stored_of col)) c.in_ok-copy-in_default.ensures h))
