use Rattle.bytes_col.proofs.CellLaws.{memo_added}
use Rattle.bytes_col.proofs.chunk.Chunk.append_memo.Goals as goal

pub invariant_of-self-2 : goal.invariant_of-self-2
invariant_of-self-2 c =
    let is = rw (c.reserve.ensures.items, c.in_ok-clone.ensures.cases) at c.push_reserved.ensures.items in
    (memo_added c.self.inside.cells.items c.push_reserved.new.self.items c.self.inside.bytes.items c.self.inside.short c.args.memo.now
    c.self.invariant is c.requires.long (rw (← c.self.view_is) at c.requires.room)).0

pub returns : goal.returns
returns c =
    let is = rw (c.reserve.ensures.items, c.in_ok-clone.ensures.cases) at c.push_reserved.ensures.items in
    rw (← c.self.view_is)
    (memo_added c.self.inside.cells.items c.push_reserved.new.self.items c.self.inside.bytes.items c.self.inside.short c.args.memo.now
    c.self.invariant is c.requires.long (rw (← c.self.view_is) at c.requires.room)).1
