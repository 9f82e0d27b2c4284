-- When the disk is as the next line needs it.
use Rattle.std.proofs.Common.{◌≡◌, ℕ, false, List, Option, Some, refl, ap, sym, subst, ◌∙◌, inl, inr}
use Rattle.std.specs.Option.{is_some}
use Rattle.std.specs.Prelude.{IsSome}
use Rattle.std.proofs.lemmas.Bool.{false≢true}
use Rattle.host_io.specs.Disk.{DiskState, IsImage, IsSound}
use Rattle.host_io.proofs.Images.{IsSound-settled, image_of_settled}
use Rattle.lines.specs.Machine.{State}
use Rattle.recovery.specs.Commits.{Commit, IsCommit, mark_of}
use Rattle.recovery.specs.Refusals.{IsBefore, MayStand, whole}
use Rattle.recovery.specs.Standing.{StandsFor}
use Rattle.storage.specs.Stored.{Rests, Stored, is_shut}
use Rattle.session.specs.Disk.{IsAllowed, IsSteady}
use Rattle.session.specs.World.{World}

-- the file of a store that rests on its disk stands for its commit
pub stands_at_rest : (s : Stored) (disk : DiskState) → IsCommit s.kept → Rests s disk → StandsFor disk.seen s.kept
stands_at_rest s disk is_whole rests = (s.slot, mark_of s.kept, s.other, rests.chooses, record { whole = is_whole; mark = refl; holds = rests.holds })

-- all is settled, and the file stands for the commit that is kept
pub ready_at_rest : (state : State World) → StandsFor state.disk.seen state.world.store.kept → Rests state.world.store state.disk → IsSteady state
ready_at_rest state stands rests = record {
  allowed = λ image is.
      let same = sym (image_of_settled state.disk image rests.settled is) in
      inl (record {
        stands = subst (λ (bytes : List ℕ). StandsFor bytes state.world.store.kept) same stands;
        before = λ unshut some older b. subst (λ (bytes : List ℕ). IsBefore bytes older) same b;
      });
  ready = record { sound = IsSound-settled state.disk rests.settled; rests = λ unshut. rests };
}

shut_from : (s : Stored) (next : Commit) → s.attempted ≡ Some next → is_shut s ≡ false → ⊥
shut_from s next e unshut = false≢true (sym unshut ∙ ap is_some e)

either_allowed : (state : State World) (next : Commit) → state.world.store.attempted ≡ Some next → (image : List ℕ) → MayStand state.world.store.kept next image → IsAllowed state image
either_allowed state next attempted image (inl stands) = inl (record { stands = stands; before = λ unshut. absurd (shut_from state.world.store next attempted unshut) })
either_allowed state next attempted image (inr both) = inr (record { next = next; attempted = attempted; stands = both.0; before = both.1 })

-- a commit failed under way, and either may stand
pub ready_when_shut : (state : State World) (next : Commit) → state.world.store.attempted ≡ Some next
    → ((image : List ℕ) → IsImage state.disk image → MayStand state.world.store.kept next image) → IsSound state.disk → IsSteady state
ready_when_shut state next attempted left sound = record {
  allowed = λ image is. either_allowed state next attempted image (left image is);
  ready = record { sound = sound; rests = λ unshut. absurd (shut_from state.world.store next attempted unshut) };
}

-- The views changed, or nothing: what is known of the file is the same.
pub record SameFile (old new : Stored) : Type 0 where
  pub kept : new.kept ≡ old.kept
  pub before : new.before ≡ old.before
  pub attempted : new.attempted ≡ old.attempted
  pub slot : new.slot ≡ old.slot
  pub other : new.other ≡ old.other
  pub mode : new.mode ≡ old.mode

allowed_same : (old new : State World) → SameFile old.world.store new.world.store → new.disk ≡ old.disk → (image : List ℕ) → IsAllowed old image → IsAllowed new image
allowed_same old new same disk image (inl kept) = inl (record {
  stands = subst (λ (c : Commit). StandsFor image c) (sym same.kept) kept.stands;
  before = λ unshut some older b.
      kept.before (sym (ap is_some same.attempted) ∙ unshut) (subst (λ (o : Option ℕ). IsSome o) same.before some) older (subst (λ (d : DiskState). IsBefore d.seen older) disk b);
})
allowed_same old new same disk image (inr attempted) = inr (record {
  next = attempted.next;
  attempted = same.attempted ∙ attempted.attempted;
  stands = attempted.stands;
  before = subst (λ (c : Commit). IsBefore image (whole c)) (sym same.kept) attempted.before;
})

rests_same : (old new : State World) → SameFile old.world.store new.world.store → new.disk ≡ old.disk → Rests old.world.store old.disk → Rests new.world.store new.disk
rests_same old new same disk rests = rw (same.kept, same.slot, same.other, disk) rests

pub ready_same : (old new : State World) → SameFile old.world.store new.world.store → new.disk ≡ old.disk → IsSteady old → IsSteady new
ready_same old new same disk ready = record {
  allowed = λ image is. allowed_same old new same disk image (ready.allowed image (subst (λ (d : DiskState). IsImage d image) disk is));
  ready = record {
    sound = subst IsSound (sym disk) ready.ready.sound;
    rests = λ unshut. rests_same old new same disk (ready.ready.rests (sym (ap is_some same.attempted) ∙ unshut));
  };
}
