use Rattle.std.proofs.Common.{sym, ◌∙◌}
use Rattle.kept_counts.specs.Keeping.{counted_by, table_stored}
use Rattle.kept_counts.proofs.Holding.{found_counts}
use Rattle.kept_counts.proofs.Keying.{are_keys}
use Rattle.kept_counts.proofs.Placing.{found_at}
use Rattle.kept_counts.proofs.cache.KeptCounts.table.Goals as goal

pub counted-requires-clause-by : goal.counted-requires-clause-by
counted-requires-clause-by c =
    let all = c.args.self.now in
    let view = c.args.view.now in
    let keys = c.args.keys.now in
    let e = c.index.result.now in
    let found = found_at all c.self.inside.list.items c.deref.result.now view (counted_by keys) c.in-Some.at e c.self.view_is c.deref.ensures.value (sym c.find_counts.ensures ∙ c.in-Some.is) c.index.ensures in
    (found_counts c.args.views.now all view keys c.in-Some-counts.ensures.0 e c.in-Some-counts.counts.now c.in-Some-view_of.rows.now c.requires found c.in-Some-counts.ensures.1 c.in-Some-view_of.ensures).by

pub counted-requires-clause-due : goal.counted-requires-clause-due
counted-requires-clause-due c =
    let all = c.args.self.now in
    let view = c.args.view.now in
    let keys = c.args.keys.now in
    let e = c.index.result.now in
    let t = c.in-Some-view_of.rows.now in
    let found = found_at all c.self.inside.list.items c.deref.result.now view (counted_by keys) c.in-Some.at e c.self.view_is c.deref.ensures.value (sym c.find_counts.ensures ∙ c.in-Some.is) c.index.ensures in
    let right = found_counts c.args.views.now all view keys c.in-Some-counts.ensures.0 e c.in-Some-counts.counts.now t c.requires found c.in-Some-counts.ensures.1 c.in-Some-view_of.ensures in
    let k = are_keys t.schema keys right.by.keyed in
    c.may_count.ensures c.if-not-may_count.false (table_stored t) k.present k.plain

pub returns : goal.returns
returns c =
    let all = c.args.self.now in
    let view = c.args.view.now in
    let keys = c.args.keys.now in
    let e = c.index.result.now in
    let t = c.in-Some-view_of.rows.now in
    let found = found_at all c.self.inside.list.items c.deref.result.now view (counted_by keys) c.in-Some.at e c.self.view_is c.deref.ensures.value (sym c.find_counts.ensures ∙ c.in-Some.is) c.index.ensures in
    let right = found_counts c.args.views.now all view keys c.in-Some-counts.ensures.0 e c.in-Some-counts.counts.now t c.requires found c.in-Some-counts.ensures.1 c.in-Some-view_of.ensures in
    let k = are_keys t.schema keys right.by.keyed in
    record {
      table = t;
      there = c.in-Some-view_of.ensures;
      due = c.may_count.ensures c.if-not-may_count.false (table_stored t) k.present k.plain;
      is = c.in_ok-counted.ensures;
    }
