use Rattle.std.proofs.Common.{◌≡◌, ◌+◌, ◌++◌, [], ◌∷◌, length, ap, sym, subst, ◌∙◌, arith}
use Rattle.tables.specs.Tables.{StoredTable}
use Rattle.tables.proofs.Gathered.{AreEndsSoFar, end_fits, ends_so_far}
use Rattle.tables.proofs.pool.ends_of.Goals as goal

pub overflow_add-end : goal.overflow_add-end
overflow_add-end c =
    let fits =
    end_fits c.args.tables.now c.loop-table.table-index c.table-item.result c.loop-table.ends.items c.loop-table.end 8192 c.loop-table-test.true c.table-item.is c.loop-table.invariant c.requires in
    omega (arith, fits, ap (λ (u : StoredTable). length u.rows) c.table.ensures, c.len-end.ensures.value)

pub overflow_cast-end : goal.overflow_cast-end
overflow_cast-end c =
    let fits =
    end_fits c.args.tables.now c.loop-table.table-index c.table-item.result c.loop-table.ends.items c.loop-table.end 8192 c.loop-table-test.true c.table-item.is c.loop-table.invariant c.requires in
    omega (arith, fits, ap (λ (u : StoredTable). length u.rows) c.table.ensures, c.len-end.ensures.value)

pub loop-table-preserved : goal.loop-table-preserved
loop-table-preserved c =
    let t = c.table-item.result in
    let ends = c.loop-table.ends.items in
    let same : c.len-end.result ≡ length t.rows = c.len-end.ensures.value ∙ ap (λ (u : StoredTable). length u.rows) c.table.ensures in
    subst (λ n. AreEndsSoFar c.args.tables.now (c.loop-table.table-index + 1) c.push.new.self.items (c.loop-table.end + n)) (sym same)
    (ends_so_far c.args.tables.now c.loop-table.table-index t ends c.push.new.self.items c.loop-table.end c.loop-table-test.true c.table-item.is c.loop-table.invariant
    (c.in_ok-push.ensures.items ∙ ap (λ n. ends ++ (c.loop-table.end + n) ∷ []) same))
