-- What becomes of the file where a session only reads it.
use Rattle.std.specs.Prelude.{◌≡◌, ℕ, List, All, false}
use Rattle.lines.specs.Machine.{Run, State, Turn}
use Rattle.storage.specs.Stored.{is_shut}
use Rattle.storage.specs.declared.mode.Mode.TheVariants.{Read}
use Rattle.viewers.specs.Meanings.{Meaning}
use Rattle.session.specs.Step.{machine}
use Rattle.session.specs.World.{World}

-- After each line of a session that only reads, and that is not shut, the disk is as it was before all lines.
abbrev pub LeavesTheFile : Type 0
LeavesTheFile =
    (viewers : List Meaning) (old last : State World) (lines : List (List ℕ)) (turns : List (Turn World)) → old.world.store.mode ≡ Read → is_shut old.world.store ≡ false
    → Run (machine viewers) old lines turns last → All (λ turn. turn.after.disk ≡ old.disk) turns × (last.disk ≡ old.disk)
