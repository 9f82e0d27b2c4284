use Rattle.std.proofs.Common.{subst, ◌≡◌, ◌≤◌, ◌+◌, ◌++◌, ◌∙◌, ap, sym, length, List, ℕ, take, drop, OnOk}
use Rattle.aside_disk.specs.Records.{Fit, applied}
use Rattle.aside_disk.proofs.Standing.{stands_still}
use Rattle.aside_disk.proofs.aside.AsideDisk.read_at.Goals as goal

pub invariant_of-self : goal.invariant_of-self
invariant_of-self g c = stands_still c.self.invariant _ (λ t. (c.read_over.ensures.same t).still)

pub returns-clause-bytes : goal.returns-clause-bytes
returns-clause-bytes g c = λ tells.
    let told = (c.self.invariant.told tells).told in
    let base_is : c.as_slice.result.now ≡ c.self.inside.base.bytes = c.as_slice.ensures in
    let seen_is : c.self.inside.trace.seen.now.disk.seen ≡ applied c.as_slice.result.now (told.old ++ told.more) = told.seen ∙ ap (λ (l : List ℕ). applied l (told.old ++ told.more)) (sym base_is) in
    let within : c.args.at + length c.args.into.now ≤ length c.self.inside.trace.seen.now.disk.seen = subst (λ v. c.args.at + length c.args.into.now ≤ length v.1.0.now.disk.seen) (sym c.self.view_is) (c.requires tells) in
    let read = c.read_over.ensures.bytes tells (told.old ++ told.more) told.ends.spells (subst (λ (l : List ℕ). Fit (length l) (told.old ++ told.more)) (sym base_is) told.fit)
    (subst (λ (f : List ℕ). c.args.at + length c.args.into.now ≤ length f) seen_is within) in
    rw (← c.self.view_is) (subst (λ (f : List ℕ). OnOk c.read_over.result (c.read_over.new.into ≡ take (length c.args.into.now) (drop c.args.at f))) (sym seen_is) read)
