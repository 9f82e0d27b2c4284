use Rattle.std.proofs.Common.{refl, ap, Err}
use Rattle.aside_disk.proofs.Standing.{stands_fault, stands_syncs}
use Rattle.aside_disk.proofs.aside.AsideDisk.sync.Goals as goal

pub invariant_of-self : goal.invariant_of-self
invariant_of-self g c =
    let s = c.in-Ok.ensures in
    let i = c.self.invariant in
    rw c.rested-self-inside.ensures (stands_syncs i _ _ _ refl s.well (λ t. s.told t _ _ _ _ _ (i.told t)))

pub invariant_of-self-in-Err-Failed : goal.invariant_of-self-in-Err-Failed
invariant_of-self-in-Err-Failed g c =
    let s = c.in-Err-Failed.ensures in
    let i = c.self.invariant in
    stands_syncs i _ _ _ refl s.well (λ t. s.told t _ _ _ _ _ (i.told t))

pub invariant_of-self-in-Err-Refused : goal.invariant_of-self-in-Err-Refused
invariant_of-self-in-Err-Refused g c =
    let s = c.in-Err-Refused.ensures in
    let i = c.self.invariant in
    stands_fault (stands_syncs i _ _ _ refl s.well (λ t. s.told t _ _ _ _ _ (i.told t))) _ (λ t. s.spent t _ _ _ _ _ (i.told t) (ap (λ e. Err e) c.in-Err-Refused.field-0-is))
