use Rattle.std.proofs.Common.{◌≡◌, ◌-◌, ap, length, arith}
use Rattle.segments.specs.Joined.{joined}
use Rattle.segments.proofs.Last.{place-last}
use Rattle.bytes_col.proofs.growing.Growing.find.Goals as goal

pub returns : goal.returns
returns c =
    let p = c.self.inside.parts.value in
    let before : c.len-before.result ≡ length (joined p.head) = rw (c.get-head.ensures, c.deref.ensures) at c.len-before.ensures.len in
    let segment : c.count.result ≡ length p.head = rw (c.get-head.ensures, c.deref.ensures) at c.count.ensures in
    rw (← c.self.view_is)
    (place-last p.head p.tail c.args.at _ (omega (arith, before, c.if-at-before.false)) (rw (← c.self.view_is) at c.requires) segment
    (ap (λ n. c.args.at - n) before))
