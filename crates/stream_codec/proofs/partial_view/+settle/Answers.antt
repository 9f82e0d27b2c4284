use Rattle.std.proofs.Common.{◌≡◌, ◌≢◌, ◌-◌, List, suc, refl, ◌∙◌, ap, sym, subst, arith, None}
use Rattle.std.proofs.lemmas.Bool.{false≢true}
use Rattle.std.proofs.lemmas.Result.{IfOk-weaker}
use Rattle.mk_value.specs.Data.{Datum, relation, relation_of}
use Rattle.mk_value.specs.Heading.{Attribute, Domain, heading_of}
use Rattle.stream_codec.specs.Progress.{TableProgress, with_next}
use Rattle.stream_codec.specs.Settling.{Settles}
use Rattle.stream_codec.specs.declared.partial_view.PartialView.{PartialView}
use Rattle.stream_codec.specs.ViewProgress.{AreAround}
use Rattle.stream_codec.proofs.Settling.{nothing_around, row_ends, settles_through, table_ends, view_ends}
use Rattle.stream_codec.proofs.ViewFields.{around_pop}
use Rattle.tables.specs.Tables.{StoredTable}
use Rattle.stream_codec.proofs.partial_view.+settle.Goals as goal

pub returns-then-not-is_last_row : goal.returns-then-not-is_last_row
returns-then-not-is_last_row t c =
    let left = c.args.view.table.left in
    let some : left ≢ 0 = λ none. false≢true (c.if-not-is_last_row.ensures.1 none) in
    let more : left ≡ suc (left - 1) = omega (arith, some) in
    row_ends c.args.view _ (left - 1) c.requires (c.if-not-is_row_whole.ensures.0 refl) c.in_ok-table.ensures.some more refl refl c.in_ok-table.ensures.ended refl

pub returns-in_default : goal.returns-in_default
returns-in_default t c =
    let whole = c.in_ok-whole.ensures in
    let none = nothing_around c.args.view.around.items (sym c.args.view.around.ok.0 ∙ c.in_default.ensures.cases.0) in
    (view_ends c.args.view c.args.view.name c.in_ok-whole.whole.schema c.in_ok-whole.whole.rows c.requires (c.if-not-is_row_whole.ensures.0 refl) (c.if-not-is_last_row.ensures.0 refl) none refl whole.schema whole.rows, whole.homeless)

pub push_table-requires-clause-within : goal.push_table-requires-clause-within
push_table-requires-clause-within t c =
    (around_pop c.pop.new.self.items c.in-Some.table c.args.view.table (subst (λ (l : List TableProgress). AreAround l c.args.view.table) c.in-Some.ensures.items c.requires.around)).1.within

pub push_table-requires-clause-view : goal.push_table-requires-clause-view
push_table-requires-clause-view t c =
    let around = (around_pop c.pop.new.self.items c.in-Some.table c.args.view.table (subst (λ (l : List TableProgress). AreAround l c.args.view.table) c.in-Some.ensures.items c.requires.around)).1 in
    around.view ∙ ap (λ (s : List Attribute). Domain.relation (heading_of s)) (sym (ap (λ (x : StoredTable). x.schema) c.in_ok-share.ensures ∙ c.in_ok-whole.ensures.schema))

pub settle-requires : goal.settle-requires
settle-requires t c =
    let table = c.in_ok-push_table.ensures ∙ ap (λ (x : StoredTable). with_next (relation (relation_of x.rows)) c.in-Some.table) c.in_ok-share.ensures
    ∙ ap (λ (rows : List (List Datum)). with_next (relation (relation_of rows)) c.in-Some.table) c.in_ok-whole.ensures.rows in
    let same = table_ends c.args.view (record { name = c.args.view.name; around = c.pop.new.self; table = c.push_table.new.self; content = None }) c.pop.new.self.items c.in-Some.table c.requires (c.if-not-is_row_whole.ensures.0 refl)
    (c.if-not-is_last_row.ensures.0 refl) c.in-Some.ensures.items refl refl table refl in
    (omega (arith, c.in-Some.ensures.cases), same.whole)

pub returns : goal.returns
returns t c =
    let table = c.in_ok-push_table.ensures ∙ ap (λ (x : StoredTable). with_next (relation (relation_of x.rows)) c.in-Some.table) c.in_ok-share.ensures
    ∙ ap (λ (rows : List (List Datum)). with_next (relation (relation_of rows)) c.in-Some.table) c.in_ok-whole.ensures.rows in
    let new : PartialView = record { name = c.args.view.name; around = c.pop.new.self; table = c.push_table.new.self; content = None } in
    let same = table_ends c.args.view new c.pop.new.self.items c.in-Some.table c.requires (c.if-not-is_row_whole.ensures.0 refl)
    (c.if-not-is_last_row.ensures.0 refl) c.in-Some.ensures.items refl refl table refl in
    IfOk-weaker c.settle.result (Settles new) (Settles c.args.view) (λ s. settles_through c.args.view new s same) c.settle.ensures
