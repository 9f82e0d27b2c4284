use Rattle.segments.specs.Joined.{joined}
use Rattle.segments.proofs.Last.{joined-last}
use Rattle.bit_pack.proofs.LeastWidth.{least-append}
use Rattle.int_col.proofs.growing.Growing.width.Goals as goal

pub returns : goal.returns
returns c =
    let p = c.self.inside.parts.value in
    rw (← c.self.view_is, joined-last p.head p.tail)
    (least-append c.width.result c.width-2.result c.wider.result (joined p.head) p.tail
    (rw (c.get.ensures, c.deref.ensures) at c.width.ensures) (rw c.deref-2.ensures at c.width-2.ensures) c.wider.ensures)
