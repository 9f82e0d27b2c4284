use Rattle.std.proofs.Common.{All, sym, subst, ◌≡◌, ◌∙◌}
use Rattle.tables.specs.Tables.{StoredTable}
use Rattle.tables.proofs.Pools.{alike}
use Rattle.tables.proofs.pool.Pool.shared_schema.Goals as goal

pub returns : goal.returns
returns c =
    subst (All (λ (t : StoredTable). t.schema ≡ c.shared_schema.result.now)) c.self.view_is
    (λ n d p. alike c.self.inside.table 0 c.self.inside.ends.items c.self.inside.blocks.items n d p ∙ sym c.shared_schema.ensures)
