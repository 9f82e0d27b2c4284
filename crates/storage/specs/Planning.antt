-- What a plan of a store's next commit is, and why there is none.
use Rattle.std.specs.Prelude.{◌≡◌, ◌≢◌, ◌<◌, ℕ, List}
use Rattle.commit_writes.specs.Plans.{IsSoundAfter}
use Rattle.commit_plan.specs.Plans.{EndsAt, Planned, last_number}
use Rattle.recovery.specs.Commits.{IsCommit, footprint_of}
use Rattle.storage.specs.declared.error.PlanError.{PlanError}
use Rattle.storage.specs.declared.error.PlanError.TheVariants.{ReadOnly, LastNumber, Full, Memory}
use Rattle.storage.specs.declared.mode.Mode.TheVariants.{Read}
use Rattle.storage.specs.Stored.{Stored, floor_of}

-- a whole commit, of which the writes overwrite nothing that the one that is kept needs
pub record IsPlanned (s : Stored) (p : Planned) : Type 0 where
  pub whole : IsCommit p.next
  pub sound : IsSoundAfter (footprint_of s.kept) p.writes (footprint_of p.next)

-- the cause of each refusal of a commit with this note
abbrev pub IsRefusedFor : Stored → List ℕ → PlanError → Type 0
IsRefusedFor s note ReadOnly = s.mode ≡ Read
IsRefusedFor s note LastNumber = (s.mode ≢ Read) × (s.kept.number ≡ last_number)
IsRefusedFor s note (Full end cap) =
    (s.mode ≢ Read) × (cap ≡ s.cap) × (cap < end) × EndsAt (floor_of s.mode s.kept.end) s.kept s.views note end
IsRefusedFor s note Memory = Unit {0}
