use Rattle.std.proofs.Common.{◌∙◌, ap}
use Rattle.mk_value.specs.Heading.{Attribute}
use Rattle.mk_value.specs.Kinds.{domain_of}
use Rattle.tables.proofs.Reading.{column_read, column_within}
use Rattle.tables.proofs.table.Table.column.Goals as goal

pub bounds-as_slice-col-2 : goal.bounds-as_slice-col-2
bounds-as_slice-col-2 c =
    column_within c.self.inside.rows c.args.col c.self.inside.schema c.self.inside.cols c.args.self.now c.as_slice-2.result.now c.self.view_is c.self.invariant c.requires c.as_slice-2.ensures

pub returns-clause-values : goal.returns-clause-values
returns-clause-values c =
    let here =
    column_read c.self.inside.rows c.args.col c.self.inside.schema c.self.inside.cols c.args.self.now c.as_slice.result.now c.index-as_slice-col.result (domain_of c.prop.inside.kind) c.as_slice-2.result.now c.index-as_slice-col-2.result
    c.self.view_is c.self.invariant c.requires (c.as_slice.ensures.value ∙ c.get.ensures) c.index-as_slice-col.is (ap (λ (a : Attribute). a.domain) c.prop.view_is) c.as_slice-2.ensures c.index-as_slice-col-2.is in
    here.values

pub returns-clause-whole : goal.returns-clause-whole
returns-clause-whole c =
    let here =
    column_read c.self.inside.rows c.args.col c.self.inside.schema c.self.inside.cols c.args.self.now c.as_slice.result.now c.index-as_slice-col.result (domain_of c.prop.inside.kind) c.as_slice-2.result.now c.index-as_slice-col-2.result
    c.self.view_is c.self.invariant c.requires (c.as_slice.ensures.value ∙ c.get.ensures) c.index-as_slice-col.is (ap (λ (a : Attribute). a.domain) c.prop.view_is) c.as_slice-2.ensures c.index-as_slice-col-2.is in
    here.whole

pub returns-clause-home : goal.returns-clause-home
returns-clause-home c =
    let here =
    column_read c.self.inside.rows c.args.col c.self.inside.schema c.self.inside.cols c.args.self.now c.as_slice.result.now c.index-as_slice-col.result (domain_of c.prop.inside.kind) c.as_slice-2.result.now c.index-as_slice-col-2.result
    c.self.view_is c.self.invariant c.requires (c.as_slice.ensures.value ∙ c.get.ensures) c.index-as_slice-col.is (ap (λ (a : Attribute). a.domain) c.prop.view_is) c.as_slice-2.ensures c.index-as_slice-col-2.is in
    here.home
