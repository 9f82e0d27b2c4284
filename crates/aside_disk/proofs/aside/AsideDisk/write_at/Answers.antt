use Rattle.std.proofs.lemmas.List.{nil_from_length}
use Rattle.std.proofs.Common.{rules, tests, sym, subst, length, ◌≤◌}
use Rattle.aside_disk.proofs.Standing.{spent_by_file, stands_fails, stands_fault, stands_nothing, stands_writes}
use Rattle.aside_disk.proofs.aside.AsideDisk.write_at.Goals as goal

pub invariant_of-self : goal.invariant_of-self
invariant_of-self g c =
    stands_fault c.self.invariant _ (spent_by_file c.self.invariant c.args.at (length c.args.from.now) c.requires.short (search rules) (λ t. subst (λ v. c.args.at ≤ length v.1.0.now.disk.seen) (sym c.self.view_is) (c.requires.within t)))

pub invariant_of-self-then-is_empty : goal.invariant_of-self-then-is_empty
invariant_of-self-then-is_empty g c =
    rw c.wrote-self-inside.ensures (stands_nothing c.self.invariant c.args.at c.args.from.now (nil_from_length c.args.from.now (search (rules, tests))) (λ t. subst (λ v. c.args.at ≤ length v.1.0.now.disk.seen) (sym c.self.view_is) (c.requires.within t)))

pub invariant_of-self-in_err-append : goal.invariant_of-self-in_err-append
invariant_of-self-in_err-append g c = stands_fails c.self.invariant _ _ c.in_err-append.ensures.appends

pub invariant_of-self-2 : goal.invariant_of-self-2
invariant_of-self-2 g c = rw c.wrote-self-inside-2.ensures (
    stands_writes c.self.invariant c.args.at _ _ c.args.from.now c.record_len.ensures (search rules) (search rules) (search rules) c.max-self-inside.ensures
    (λ t. subst (λ v. c.args.at ≤ length v.1.0.now.disk.seen) (sym c.self.view_is) (c.requires.within t)) c.in_ok-append.ensures.appends (λ t. (c.in_ok-append.ensures.appends t).ok))
