-- Counts of faults, as they are shown by a disk over another.
use Rattle.std.proofs.Common.{◌≡◌, ℕ, zero, suc, ◌+◌, ◌-◌, ◌^◌, ◌<◌, ◌≤◌, ◌⊎◌, inl, inr, min, arith}
use Rattle.std.proofs.lemmas.Bool.{cases_lt}
use Rattle.host_io.specs.Calls.{Rose}
use Rattle.host_io.specs.Outside.{Outside}
use Rattle.aside_disk.specs.Shown.{Seen, shown}

-- a count that did not fall, and reached the end of its type, rose
at_end : (before now : ℕ) → before < 2 ^ 64 → 2 ^ 64 - 1 ≤ now → Rose before now
at_end before now small most = elim (cases_lt before now) [ inl less ↦ inl less | inr low ↦ inr (omega (arith, small, most, low)) ]

rose_by : (before start now own : ℕ) → before ≤ start → before < 2 ^ 64 → Rose (min (start + 0) (2 ^ 64 - 1)) (min (now + own) (2 ^ 64 - 1)) → Rose before now ⊎ (0 < own)
rose_by before start now zero low small (inl less) = inl (inl (omega (arith, low, less)))
rose_by before start now zero low small (inr last) = inl (at_end before now small (omega (arith, last)))
rose_by before start now (suc own) low small rose = inr (omega arith)

-- the count that is shown rose where the one under it did, or one of its own came
pub shown_rose : (before : ℕ) (start now : Outside) (first last : Seen) (own : ℕ) → before ≤ start.disk_faults → before < 2 ^ 64 → Rose (shown start first 0).disk_faults (shown now last own).disk_faults
    → Rose before now.disk_faults ⊎ (0 < own)
shown_rose before start now first last own low small rose = rose_by before start.disk_faults now.disk_faults own low small rose
