-- The moments in which a new store is made: nothing is said.
use Rattle.std.proofs.Common.{◌≡◌, ◌∙◌, ℕ, List, Result, Ok, Err}
use Rattle.host_io.specs.Calls.{Syncs, Writes}
use Rattle.host_io.specs.Outside.{Goes, Outside}
use Rattle.host_io.proofs.Moments.{steps_syncs, steps_writes}

pub write_moments : {T E : Type 0} {result : Result T E} {old new : Outside} {place : ℕ} {bytes : List ℕ} → Writes place bytes old new result → Goes (λ at. at.said ≡ old.now.said) old new
write_moments writes = steps_writes writes (λ at. at.said)

pub sync_moments : {T E : Type 0} (result : Result T E) (old : Outside) {mid new : Outside} → mid.now.said ≡ old.now.said → Syncs mid new result → Goes (λ at. at.said ≡ old.now.said) mid new
sync_moments (Ok x) old same syncs = steps_syncs syncs (syncs.ok.1 ∙ same)
sync_moments (Err e) old same syncs = steps_syncs syncs tt
