use Rattle.std.proofs.Common.{◌≡◌, ◌∙◌, sym, ap, ◌++◌, set, arith, length, rules, FitsSigned, w64}
use Rattle.std.proofs.lemmas.Int.{to_z-of_z}
use Rattle.std.proofs.lemmas.Result.{on_ok_weaker}
use Rattle.segments.specs.Joined.{joined}
use Rattle.segments.proofs.Joined.{set-append-left}
use Rattle.segments.proofs.Last.{joined-last, set-right}
use Rattle.int_col.proofs.growing.Growing.set.Goals as goal

pub returns-then-at-before-clause-values : goal.returns-then-at-before-clause-values
returns-then-at-before-clause-values c =
    let fits : FitsSigned w64 c.args.value = search rules in
    let p = c.self.inside.parts.value in
    let before : c.len-before.result ≡ length (joined p.head) = rw (c.get.ensures, c.deref.ensures) at c.len-before.ensures.len in
    let done = rw (c.deref_mut.ensures.value, to_z-of_z w64 c.args.value fits) at c.set_in_list.ensures.values in
    rw (← c.self.view_is, c.deref_mut.ensures.value)
    (on_ok_weaker c.set_in_list.result
    (λ put. joined-last c.set_in_list.new.list p.tail ∙ ap (λ xs. xs ++ p.tail) put
    ∙ set-append-left (joined p.head) p.tail c.args.at c.args.value (omega (arith, before, c.if-at-before.true))
    ∙ ap (λ xs. set xs c.args.at c.args.value) (sym (joined-last p.head p.tail)))
    done)

pub returns-clause-values : goal.returns-clause-values
returns-clause-values c =
    let fits : FitsSigned w64 c.args.value = search rules in
    let p = c.self.inside.parts.value in
    let before : c.len-before.result ≡ length (joined p.head) = rw (c.get.ensures, c.deref.ensures) at c.len-before.ensures.len in
    let done = rw (c.deref_mut-2.ensures.value, before, to_z-of_z w64 c.args.value fits) at c.set.ensures.ok in
    rw (← c.self.view_is, c.deref_mut-2.ensures.value)
    (on_ok_weaker c.set.result
    (λ put. joined-last p.head c.set.new.self ∙ ap (λ xs. joined p.head ++ xs) put
    ∙ set-right (joined p.head) p.tail c.args.at c.args.value (omega (arith, before, c.if-at-before.false))
    ∙ ap (λ xs. set xs c.args.at c.args.value) (sym (joined-last p.head p.tail)))
    done)
