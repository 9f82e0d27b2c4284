use Rattle.std.proofs.Common.{◌≡◌, FitsSigned, w64, rules, arith, length}
use Rattle.std.proofs.lemmas.Int.{to_z-of_z}
use Rattle.std.proofs.lemmas.List.{length-append}
use Rattle.segments.specs.Joined.{joined}
use Rattle.segments.proofs.Last.{joined-last, slice_get-left, slice_get-right}
use Rattle.int_col.proofs.growing.Growing.get.Goals as goal

pub returns-then-at-before : goal.returns-then-at-before
returns-then-at-before c =
    let fits : FitsSigned w64 c.get.result = search rules in
    let p = c.self.inside.parts.value in
    let before : c.len-before.result ≡ length (joined p.head) = rw (c.get-head.ensures, c.deref.ensures) at c.len-before.ensures.len in
    rw (to_z-of_z w64 c.get.result fits, ← c.self.view_is, joined-last p.head p.tail)
    (slice_get-left (joined p.head) p.tail c.args.at c.get.result (omega (arith, before, c.if-at-before.true)) (rw (c.get-head.ensures, c.deref.ensures) at c.get.ensures))

pub returns : goal.returns
returns c =
    let fits : FitsSigned w64 c.get-2.result = search rules in
    let p = c.self.inside.parts.value in
    let before : c.len-before.result ≡ length (joined p.head) = rw (c.get-head.ensures, c.deref.ensures) at c.len-before.ensures.len in
    let whole = rw (← c.self.view_is, joined-last p.head p.tail) at c.requires in
    let read = rw (c.deref-2.ensures, before) at c.get-2.ensures in
    rw (to_z-of_z w64 c.get-2.result fits, ← c.self.view_is, joined-last p.head p.tail)
    (slice_get-right (joined p.head) p.tail c.args.at c.get-2.result (omega (arith, before, c.if-at-before.false))
    (omega (arith, before, c.if-at-before.false, whole, length-append (joined p.head) p.tail)) read)
