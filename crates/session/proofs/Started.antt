-- What a session starts with.
use Rattle.std.proofs.Common.{◌≡◌, ◌≢◌, ℕ, List, [], ◌∷◌, Result, Ok, Err, refl, ap, sym, subst, ◌∙◌}
use Rattle.std.specs.Prelude.{IfErr}
use Rattle.recovery.specs.Refusals.{IsDamagedAt, IsNoStore}
use Rattle.session.specs.declared.starting.StartError.{StartError}
use Rattle.session.specs.declared.starting.StartError.TheVariants as start_error
use Rattle.host_io.specs.Calls.{Looks}
use Rattle.host_io.specs.Disk.{DiskState}
use Rattle.host_io.specs.Outside.{Goes, Moment, Outside}
use Rattle.host_io.proofs.Moments.{joins, steps_looks, weaker}
use Rattle.lines.specs.Machine.{State}
use Rattle.lines.specs.Served.{state_of}
use Rattle.recovery.specs.Commits.{IsCommit}
use Rattle.recovery.specs.Opening.{NamesCause}
use Rattle.recovery.specs.declared.error.OpenError.{OpenError}
use Rattle.recovery.specs.declared.error.OpenError.TheVariants as opening
use Rattle.storage.specs.Stored.{Rests, opened_store}
use Rattle.storage.specs.declared.mode.Mode.{Mode}
use Rattle.session.specs.Disk.{IsSteady}
use Rattle.session.specs.Starting.{IsStartRefusal, StartsAs, StartsFrom, cause_of_opening}
use Rattle.session.specs.World.{World, world_over}
use Rattle.session.proofs.Ready.{ready_at_rest, stands_at_rest}

pub start_refused : (mode : Mode) (old new : Outside) (e : OpenError) → old.now.disk.seen ≢ [] → Looks old new → NamesCause old.now.disk.seen e → IsStartRefusal mode old new (cause_of_opening e)
start_refused mode old new opening.NotAStore some looks cause = (some, cause, looks)
start_refused mode old new (opening.Damaged place) some looks cause = (some, cause, looks)
start_refused mode old new opening.Failed some looks cause = tt
start_refused mode old new opening.Memory some looks cause = looks

looks_join : (old mid new : Outside) → Looks old mid → Looks mid new → Looks old new
looks_join old mid new first then = record {
  still = record { now = then.still.now ∙ first.still.now; past = then.still.past ∙ first.still.past };
  input = then.input ∙ first.input;
}

refusal_after : (mode : Mode) (old mid new : Outside) (e : StartError) → Looks old mid → IsStartRefusal mode mid new e → IsStartRefusal mode old new e
refusal_after mode old mid new start_error.Empty looks h =
    (h.0, sym (ap (λ (m : Moment). m.disk.seen) looks.still.now) ∙ h.1, looks_join old mid new looks h.2)
refusal_after mode old mid new start_error.NotAStore looks h =
    let same = ap (λ (m : Moment). m.disk.seen) looks.still.now in
    (subst (λ (bytes : List ℕ). bytes ≢ []) same h.0, subst IsNoStore same h.1, looks_join old mid new looks h.2)
refusal_after mode old mid new (start_error.Damaged place) looks h =
    let same = ap (λ (m : Moment). m.disk.seen) looks.still.now in
    (subst (λ (bytes : List ℕ). bytes ≢ []) same h.0, subst (λ (bytes : List ℕ). IsDamagedAt bytes place) same h.1, looks_join old mid new looks h.2)
refusal_after mode old mid new start_error.Failed looks h = tt
refusal_after mode old mid new start_error.Memory looks h = looks_join old mid new looks h

-- a look at the disk says nothing, and what comes behind one goes on from it
pub silent_looks : {old new : Outside} → Looks old new → Goes (λ at. at.said ≡ old.now.said) old new
silent_looks looks = steps_looks looks

pub silent_later : {old mid new : Outside} → Looks old mid → Goes (λ at. at.said ≡ mid.now.said) mid new → Goes (λ at. at.said ≡ old.now.said) old new
silent_later looks goes = joins (steps_looks looks) (weaker (λ at same. same ∙ ap (λ (m : Moment). m.said) looks.still.now) goes)

-- why none is started, after a look at the file
pub refused_after : {T : Type 0} (mode : Mode) (old mid new : Outside) (r : Result T StartError) → Looks old mid → IfErr r (IsStartRefusal mode mid new) → IfErr r (IsStartRefusal mode old new)
refused_after mode old mid new (Ok x) looks h = tt
refused_after mode old mid new (Err e) looks h = refusal_after mode old mid new e looks h

starts_with : (mode : Mode) (cap : ℕ) (file : List ℕ) (state : State World) → file ≢ [] → StartsFrom mode cap file state → StartsAs mode cap file state
starts_with mode cap [] state some from = absurd (some refl)
starts_with mode cap (byte ∷ bytes) state some from = from

module _ (w : World) (old new : Outside) (looks : Looks old new) where
  same_disk : new.now.disk ≡ old.now.disk
  same_disk = ap (λ (m : Moment). m.disk) looks.still.now

  pub starts_open : (mode : Mode) (cap : ℕ) → w ≡ world_over (opened_store w.store.kept w.store.slot w.store.other mode cap) → IsCommit w.store.kept → Rests w.store old.now.disk → old.now.disk.seen ≢ []
      → StartsAs mode cap old.now.disk.seen (state_of w new)
  starts_open mode cap is is_whole rests some = starts_with mode cap old.now.disk.seen (state_of w new) some (record {
    kept = w.store.kept;
    slot = w.store.slot;
    other = w.store.other;
    stands = stands_at_rest w.store old.now.disk is_whole rests;
    store = is;
    rests = subst (λ (d : DiskState). Rests w.store d) (sym same_disk) rests;
    same = ap (λ (d : DiskState). d.seen) same_disk;
  })

  pub ready_open : IsCommit w.store.kept → Rests w.store old.now.disk → IsSteady (state_of w new)
  ready_open is_whole rests =
      let now : Rests w.store new.now.disk = subst (λ (d : DiskState). Rests w.store d) (sym same_disk) rests in
      ready_at_rest (state_of w new) (stands_at_rest w.store new.now.disk is_whole now) now
