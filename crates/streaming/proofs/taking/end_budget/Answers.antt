use Rattle.std.proofs.Common.{◌≡◌, ℕ, ◌++◌, ◌∙◌, take, ap, sym, arith}
use Rattle.streaming.proofs.Taken.{ended_as, one_byte, too_much}
use Rattle.streaming.proofs.taking.end_budget.Goals as goal

pub returns-in-Ok-clause-comes : goal.returns-in-Ok-clause-comes
returns-in-Ok-clause-comes g c = λ tells budget begin so.
    let takes = c.in-Ok.ensures.takes tells in
    let came = c.in-Ok.field-0 in
    let alone = one_byte came c.take.new.into (omega arith) c.in-Ok.ensures.within (λ none. omega (arith, none, c.in-Ok.field-0-test)) in
    too_much budget _ c.args.loader (take came c.take.new.into) begin (g.H.Disk.outside c.args.host.now) (g.H.Disk.outside c.take.new.self) so alone takes.came takes.still c.take.ensures.counts

pub returns-in-Ok-eq0-clause-comes : goal.returns-in-Ok-eq0-clause-comes
returns-in-Ok-eq0-clause-comes g c = λ tells budget begin so.
    let takes = c.in-Ok-eq0.ensures.takes tells in
    let mid = g.H.Disk.outside c.args.host.now in
    let new = g.H.Disk.outside c.take.new.self in
    let none : c.in-Ok-eq0.field-0 ≡ 0 = omega (arith, c.in-Ok-eq0.field-0-test) in
    let came : mid.input ≡ new.input = takes.came ∙ ap (λ (n : ℕ). take n c.take.new.into ++ new.input) none in
    let budget_is = so.budget_is in
    ended_as budget c.args.loader begin mid new c.finish.result so.takes (omega (arith, budget_is)) so.right came (sym came ∙ takes.end none (omega arith)) takes.still c.take.ensures.counts c.finish.ensures
