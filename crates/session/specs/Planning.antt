-- Planning a commit: what is planned, and why nothing is.
use Rattle.std.specs.Prelude.{◌≡◌, ◌⊎◌, ℕ, ◌<◌, ◌≤◌, List, None, Some}
use Rattle.cmd_text.specs.declared.refusal.Refusal.{Refusal}
use Rattle.cmd_text.specs.declared.refusal.Refusal.TheVariants.{Full, Memory}
use Rattle.commit_plan.specs.Plans.{EndsAt, Planned}
use Rattle.storage.specs.Planning.{IsPlanned}
use Rattle.storage.specs.Stored.{Stored, floor_of}
use Rattle.session.specs.Commands.{commit_due}
use Rattle.session.specs.Disk.{IsNext}

-- The commit that follows was planned, and no refusal is due.
pub record IsPlannedNext (s : Stored) (note : List ℕ) (planned : Planned) : Type 0 where
  pub due : commit_due s ≡ None
  pub next : IsNext s note planned
  pub within : planned.next.end ≤ s.cap
  pub sound : IsPlanned s planned

-- the end of each commit that follows is past the cap, and this refusal names both
pub record IsPastCap (s : Stored) (note : List ℕ) (refusal : Refusal) : Type 0 where
  pub due : commit_due s ≡ None
  pub end : ℕ
  pub is : refusal ≡ Full end s.cap
  pub past : s.cap < end
  pub ends : EndsAt (floor_of s.mode s.kept.end) s.kept s.views note end

-- why a commit is not planned
abbrev pub IsUnplanned : Stored → List ℕ → Refusal → Type 0
IsUnplanned s note refusal = (commit_due s ≡ Some refusal) ⊎ (IsPastCap s note refusal ⊎ (refusal ≡ Memory))
