use Rattle.bytes_col.proofs.CellLaws.{short_bound}
use Rattle.bytes_col.proofs.chunk.Chunk.short_len.Goals as goal

pub returns-clause-few : goal.returns-clause-few
returns-clause-few c = short_bound c.self.inside.cells.items c.self.inside.bytes.items c.self.inside.short c.self.invariant
