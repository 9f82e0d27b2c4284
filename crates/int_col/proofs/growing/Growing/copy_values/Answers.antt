use Rattle.std.proofs.Common.{◌≡◌, ◌∙◌, ◌-◌, ◌≤◌, ◌++◌, ℕ, List, ℤ, sym, ap, min, arith, length, take, drop}
use Rattle.std.proofs.lemmas.List.{length-take-le, length-append, length-drop, drop_all}
use Rattle.segments.specs.Joined.{joined}
use Rattle.segments.proofs.Last.{joined-last, drop-right, copied-across}
use Rattle.int_col.proofs.growing.Growing.copy_values.Goals as goal

pub returns-then-from-before : goal.returns-then-from-before
returns-then-from-before c =
    let p = c.self.inside.parts.value in
    let n : ℕ = length c.args.into.now in
    let before : c.len-before.result ≡ length (joined p.head) = rw (c.get-head.ensures, c.deref.ensures) at c.len-before.ensures.len in
    let le : length (joined p.head) ≤ c.args.from = omega (arith, before, c.if-from-before.true) in
    rw (← c.self.view_is, joined-last p.head p.tail)
    (rw c.deref-then-from-before.ensures at c.copy_values.ensures
    ∙ ap (λ k. take n (drop (c.args.from - k) p.tail)) before
    ∙ ap (take n) (sym (drop-right (joined p.head) p.tail c.args.from le)))

pub returns : goal.returns
returns c =
    let p = c.self.inside.parts.value in
    let into : List ℤ = c.args.into.now in
    let xs : List ℤ = joined p.head in
    let m : ℕ = c.min-count.result in
    let front : List ℤ = c.copy_values-2.new.into in
    let before : c.len-before.result ≡ length xs = rw (c.get-head.ensures, c.deref.ensures) at c.len-before.ensures.len in
    let le : c.args.from ≤ length xs = omega (arith, before, c.if-from-before.false) in
    let count : m ≡ min (length into) (length xs - c.args.from) = omega (arith, c.min-count.ensures, before) in
    let part : length (take m into) ≡ m = length-take-le m into (omega arith) in
    let len : length front ≡ m = c.copy_values-2.auto.into ∙ part in
    let first : front ≡ take m (drop c.args.from xs) =
    rw (c.get-head.ensures, c.deref.ensures) at c.copy_values-2.ensures ∙ ap (λ k. take k (drop c.args.from xs)) part in
    let middle : List ℤ = front ++ drop m into in
    let all : length middle ≡ length into = length-append front (drop m into) ∙ (omega (arith, length-drop m into)) in
    let rest : length (drop m middle) ≡ length into - m = length-drop m middle ∙ (omega arith) in
    let room : length (take (length middle - m) (drop m middle)) ≡ length into - m = length-take-le (length middle - m) (drop m middle) (omega arith) ∙ (omega arith) in
    rw (← c.self.view_is, joined-last p.head p.tail)
    (copied-across xs p.tail into front c.copy_values-3.new.into (drop (length middle - m) (drop m middle)) c.args.from m le count len first
    (rw c.deref-2.ensures at c.copy_values-3.ensures ∙ ap (λ k. take k p.tail) room)
    (drop_all (length middle - m) (drop m middle) (omega arith)))
