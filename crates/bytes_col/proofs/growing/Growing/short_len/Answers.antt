use Rattle.std.proofs.Common.{◌≡◌, ap, arith, length}
use Rattle.std.proofs.lemmas.List.{length-append}
use Rattle.segments.specs.Joined.{joined}
use Rattle.segments.proofs.Last.{joined-last}
use Rattle.bytes_col.specs.Strings.{short_bytes}
use Rattle.bytes_col.proofs.Short.{length-short-append, short_few}
use Rattle.bytes_col.proofs.growing.Growing.short_len.Goals as goal

pub overflow_add-result : goal.overflow_add-result
overflow_add-result c =
    let p = c.self.inside.parts.value in
    let first : c.short_len.result ≡ length (short_bytes (joined p.head)) = rw (c.get.ensures, c.deref.ensures) at c.short_len.ensures.count in
    record { fits = omega (arith, first, short_few (joined p.head), c.short_len-2.ensures.few, c.self.invariant, ap length (joined-last p.head p.tail), length-append (joined p.head) p.tail) }

pub returns : goal.returns
returns c =
    let p = c.self.inside.parts.value in
    let first : c.short_len.result ≡ length (short_bytes (joined p.head)) = rw (c.get.ensures, c.deref.ensures) at c.short_len.ensures.count in
    let second : c.short_len-2.result ≡ length (short_bytes p.tail) = rw c.deref-2.ensures at c.short_len-2.ensures.count in
    record {
      count = rw (← c.self.view_is, joined-last p.head p.tail) (omega (arith, first, second, length-short-append (joined p.head) p.tail));
    }
