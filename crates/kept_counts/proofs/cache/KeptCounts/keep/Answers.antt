use Rattle.std.proofs.Common.{◌≡◌, true}
use Rattle.tables.specs.Tables.{StoredTable}
use Rattle.kept_counts.specs.Keeping.{counted_by, may_key}
use Rattle.kept_counts.proofs.Holding.{made_right, put_few, put_kept, put_there}
use Rattle.kept_counts.proofs.cache.KeptCounts.keep.Goals as goal

pub returns-clause-kept : goal.returns-clause-kept
returns-clause-kept c =
    let e = c.in_ok-of_counts.field-0 in
    put_kept c.args.views.now c.args.self.now c.put.new.self e c.put.result c.put.ensures.put c.put.ensures.err c.requires
    (made_right c.args.views.now c.args.view.now c.in-Some.rows.now e c.in-Some.ensures c.in_ok-of_counts.ensures.view c.in_ok-of_counts.ensures.over)

pub returns-clause-made : goal.returns-clause-made
returns-clause-made c =
    put_there (λ (t : StoredTable). may_key t.schema c.args.keys.now ≡ true) c.args.views.now c.args.self.now c.put.new.self c.in_ok-of_counts.field-0 c.args.view.now (counted_by c.args.keys.now) c.put.result c.put.ensures.put c.in_ok-of_counts.ensures.of

pub returns-clause-few : goal.returns-clause-few
returns-clause-few c = put_few c.args.self.now c.put.new.self c.in_ok-of_counts.field-0 c.put.result c.put.ensures.put c.put.ensures.err
