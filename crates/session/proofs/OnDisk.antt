-- What comes of the commands that reach the disk.
use Rattle.std.proofs.Common.{◌≡◌, ℕ, ◌≤◌, Bool, true, false, List, [], ◌∷◌, Option, Some, None, Result, Ok, Err, refl, ap, sym, subst, ◌∙◌, inl, inr}
use Rattle.std.specs.Option.{is_some}
use Rattle.std.specs.Prelude.{◌⊎◌}
use Rattle.std.proofs.lemmas.Bool.{false≢true}
use Rattle.cmd_text.specs.Replies.{reply_bytes}
use Rattle.cmd_text.specs.declared.command.Command.{Command}
use Rattle.cmd_text.specs.declared.command.Command.TheVariants as commands
use Rattle.cmd_text.specs.declared.refusal.Refusal.{Refusal}
use Rattle.cmd_text.specs.declared.refusal.Refusal.TheVariants as refusals
use Rattle.cmd_text.specs.declared.reply.Reply.TheVariants.{Commit, Refused, Reopen, Revert}
use Rattle.commit_plan.specs.Plans.{Planned}
use Rattle.host_io.specs.Calls.{Looks, Rose}
use Rattle.host_io.specs.Disk.{DiskState, IsImage, IsSound, settled}
use Rattle.host_io.specs.Outside.{Goes, Moment, Outside}
use Rattle.host_io.proofs.Images.{IsSettled-settled, IsSound-settled, image_of_settled}
use Rattle.host_io.proofs.Moments.{steps, steps_looks, weaker}
use Rattle.lines.specs.Machine.{State}
use Rattle.lines.specs.Served.{state_of}
use Rattle.recovery.specs.Commits.{Commit as StoredCommit}
use Rattle.recovery.specs.Opening.{NamesCause}
use Rattle.recovery.specs.Refusals.{IsBefore, broken}
use Rattle.recovery.specs.Standing.{StandsFor}
use Rattle.recovery.specs.declared.error.OpenError.{OpenError}
use Rattle.recovery.specs.declared.error.OpenError.TheVariants as opening
use Rattle.storage.specs.Committing.{Commits}
use Rattle.storage.specs.Reverting.{NamesRefusal, Reverts}
use Rattle.storage.specs.Stored.{Rests, Stored, committed, failed, is_shut, reopened, with_views}
use Rattle.storage.specs.Syncing.{SyncsAtMost}
use Rattle.storage.specs.declared.error.RevertError.{RevertError}
use Rattle.storage.specs.declared.error.RevertError.TheVariants as reverting
use Rattle.view_store.specs.Views.{NamedTable}
use Rattle.viewers.specs.Meanings.{Meaning}
use Rattle.session.specs.Carried.{Carried, Comes}
use Rattle.session.specs.Commands.{Outcome, commit_due, commits, outcome_of, reopens, reverts, unless_due}
use Rattle.session.specs.Disk.{IsAllowed, IsSteady, SettlesAtMost}
use Rattle.session.specs.Going.{GoesOn}
use Rattle.session.specs.Moments.{IsMade, IsWithinCommand}
use Rattle.session.specs.Planning.{IsPlannedNext, IsUnplanned}
use Rattle.session.specs.Refusals.{first_of, refusal_of_opening, refusal_of_revert, unless}
use Rattle.session.specs.World.{World, with_store, without_followers}
use Rattle.session.proofs.Outcomes.{goes_always, open_goes, outcome_open, refused_comes, still}
use Rattle.session.proofs.Ready.{SameFile, ready_at_rest, ready_same, ready_when_shut}
use Rattle.recovery.proofs.Undamaged.{no_cause}

-- `commit`, where the session is not shut
pub open_commit : (viewers : List Meaning) (w : World) (note : List ℕ) (o : Option Refusal) → is_shut w.store ≡ false → commit_due w.store ≡ o → outcome_of viewers w (commands.Commit note) ≡ unless_due o w (commits note)
open_commit viewers w note o unshut due = outcome_open viewers w (commands.Commit note) (open_goes w.store false unshut) ∙ ap (λ d. unless_due d w (commits note)) due

-- the views changed, or nothing
pub views_same : (s new : Stored) (views : List NamedTable) → new ≡ with_views s views → SameFile s new
views_same s new views is = subst (SameFile s) (sym is) (record { kept = refl; before = refl; attempted = refl; slot = refl; other = refl; mode = refl })

module _ (known : Type 0) (viewers : List Meaning) (w : World) (note reply : List ℕ) (unshut : is_shut w.store ≡ false) where
  pub commit_refused : (outside : Outside) (refusal : Refusal) → IsUnplanned w.store note refusal → reply ≡ reply_bytes (Refused refusal)
      → Carried known viewers (commands.Commit note) (state_of w outside) reply (state_of w outside)
  commit_refused outside refusal (inl due) answer =
      inl (refused_comes known outside refusal w reply (outcome_of viewers w (commands.Commit note)) (open_commit viewers w note (Some refusal) unshut due) answer)
  commit_refused outside refusal (inr (inl cap)) answer =
      inl (subst (λ (o : Outcome). Comes known o (state_of w outside) reply (state_of w outside)) (sym (open_commit viewers w note None unshut cap.due)) (inr (inr (record {
        end = cap.end;
        ends = cap.ends;
        past = cap.past;
        gives = record { answer = answer ∙ ap (λ r. reply_bytes (Refused r)) cap.is; world = refl; disk = still w w outside };
      }))))
  commit_refused outside refusal (inr (inr memory)) answer =
      inr (record { takes = refl; answer = answer ∙ ap (λ r. reply_bytes (Refused r)) memory; world = refl; disk = still w w outside })

  module _ (planned : Planned) (is_planned : IsPlannedNext w.store note planned) (new : World) (from to : Outside) (later : from.disk_faults ≤ to.disk_faults) where
    pub commit_made : (number : ℕ) → number ≡ planned.next.number → reply ≡ reply_bytes (Commit number) → new ≡ with_store w (committed w.store planned.next)
        → {E : Type 0} → (known → Commits {E = E} w.store planned from to (Ok number)) → Carried known viewers (commands.Commit note) (state_of w from) reply (state_of new to)
    commit_made number is answer made commits_ =
        inl (subst (λ (o : Outcome). Comes known o (state_of w from) reply (state_of new to)) (sym (open_commit viewers w note None unshut is_planned.due)) (inl (record {
          planned = planned;
          due = is_planned.due;
          next = is_planned.next;
          within = is_planned.within;
          answer = answer ∙ ap (λ n. reply_bytes (Commit n)) is;
          world = made;
          stands = λ k. (commits_ k).stands;
          before = λ k. (commits_ k).before;
          writes = record { bytes = λ k. (commits_ k).file; later = later };
        })))

    pub commit_failed : {E : Type 0} → (error : E) → reply ≡ reply_bytes (Refused refusals.Disk) → new ≡ with_store w (failed w.store planned.next) → Rose from.disk_faults to.disk_faults
        → (known → Commits {T = ℕ} w.store planned from to (Err error)) → Carried known viewers (commands.Commit note) (state_of w from) reply (state_of new to)
    commit_failed error answer made rose commits_ =
        inl (subst (λ (o : Outcome). Comes known o (state_of w from) reply (state_of new to)) (sym (open_commit viewers w note None unshut is_planned.due)) (inr (inl (record {
          planned = planned;
          due = is_planned.due;
          next = is_planned.next;
          within = is_planned.within;
          answer = answer;
          world = made;
          rose = rose;
          writes = record { bytes = λ k. (commits_ k).changes; later = later };
        }))))

module _ (w : World) (note : List ℕ) (unshut : is_shut w.store ≡ false) (planned : Planned) (is_planned : IsPlannedNext w.store note planned) (new : World) (from to : Outside) where
  is_made : IsMade (state_of w from) (commands.Commit note) planned
  is_made = record { note = note; asked = refl; unshut = unshut; due = is_planned.due; next = is_planned.next; within = is_planned.within }

  commit_moments : {E : Type 0} (result : Result ℕ E) → Commits w.store planned from to result → Goes (IsWithinCommand (state_of w from) (commands.Commit note) from.now.said) from to
  commit_moments result made =
      weaker (λ at h. record {
        silent = h.silent;
        file = inr (record { planned = planned; made = is_made; changes = h.changes });
        images = λ image is. inr (record { planned = planned; made = is_made; stands = h.images image is });
      }) made.moments

  pub commit_goes : {E : Type 0} (number : ℕ) → new ≡ with_store w (committed w.store planned.next) → Rests new.store to.now.disk → Commits {E = E} w.store planned from to (Ok number)
      → GoesOn (commands.Commit note) (state_of w from) (state_of new to) from to
  commit_goes number made rests commits_ = record {
    moments = commit_moments (Ok number) commits_;
    said = commits_.said;
    input = commits_.input;
    ready = ready_at_rest (state_of new to) (subst (λ (x : World). StandsFor to.now.disk.seen x.store.kept) (sym made) commits_.stands) rests;
  }

  pub commit_goes_wrong : {E : Type 0} (error : E) → new ≡ with_store w (failed w.store planned.next) → Commits {T = ℕ} w.store planned from to (Err error)
      → GoesOn (commands.Commit note) (state_of w from) (state_of new to) from to
  commit_goes_wrong error made commits_ = record {
    moments = commit_moments (Err error) commits_;
    said = commits_.said;
    input = commits_.input;
    ready = subst (λ (x : World). IsSteady (state_of x to)) (sym made)
        (ready_when_shut (state_of (with_store w (failed w.store planned.next)) to) planned.next refl commits_.left commits_.sound);
  }

-- how the disk is after a file was opened anew
settled_by : (w new : World) (from to : Outside) (shut : Bool) → is_shut w.store ≡ shut → SyncsAtMost shut from to → (to.now.disk ≡ from.now.disk) ⊎ ((is_shut w.store ≡ true) × (to.now.disk ≡ settled from.now.disk.seen))
settled_by w new from to true e (inl looks) = inl (ap (λ (m : Moment). m.disk) looks.still.now)
settled_by w new from to true e (inr settles) = inr (e, settles.disk)
settled_by w new from to false e looks = inl (ap (λ (m : Moment). m.disk) looks.still.now)

seen_same : (from to : Outside) (shut : Bool) → SyncsAtMost shut from to → to.now.disk.seen ≡ from.now.disk.seen
seen_same from to true (inl looks) = ap (λ (m : Moment). m.disk.seen) looks.still.now
seen_same from to true (inr settles) = ap (λ (d : DiskState). d.seen) settles.disk
seen_same from to false looks = ap (λ (m : Moment). m.disk.seen) looks.still.now

-- a file that was read in a session stands for a commit
one_of_two : (state : State World) (image : List ℕ) → IsAllowed state image → (c : StoredCommit) × StandsFor image c
one_of_two state image (inl kept) = (state.world.store.kept, kept.stands)
one_of_two state image (inr attempted) = (attempted.next, attempted.stands)

stands_for_one : (state : State World) → IsSteady state → (c : StoredCommit) × StandsFor state.disk.seen c
stands_for_one state ready = one_of_two state state.disk.seen (ready.allowed state.disk.seen ready.ready.sound)

over : (w : World) (from to : Outside) → is_shut w.store ≡ true → IsAllowed (state_of w from) from.now.disk.seen → IsAllowed (state_of w to) from.now.disk.seen
over w from to shut (inl kept) = inl (record { stands = kept.stands; before = λ unshut. absurd (false≢true (sym unshut ∙ shut)) })
over w from to shut (inr attempted) = inr (record { next = attempted.next; attempted = attempted.attempted; stands = attempted.stands; before = attempted.before })

-- after what was pending is settled, the file that is read is what a crash leaves
ready_settled : (w : World) (from to : Outside) → is_shut w.store ≡ true → to.now.disk ≡ settled from.now.disk.seen → IsSteady (state_of w from) → IsSteady (state_of w to)
ready_settled w from to shut is ready = record {
  allowed = λ image of_it.
      let same : image ≡ from.now.disk.seen = image_of_settled (settled from.now.disk.seen) image (IsSettled-settled from.now.disk.seen) (subst (λ (d : DiskState). IsImage d image) is of_it) in
      subst (IsAllowed (state_of w to)) (sym same) (over w from to shut (ready.allowed from.now.disk.seen ready.ready.sound));
  ready = record {
    sound = subst IsSound (sym is) (IsSound-settled (settled from.now.disk.seen) (IsSettled-settled from.now.disk.seen));
    rests = λ unshut. absurd (false≢true (sym unshut ∙ shut));
  };
}

module _ (command : Command) (w : World) (from to : Outside) (ready : IsSteady (state_of w from)) where
  synced_moments : (shut : Bool) → SyncsAtMost shut from to → Goes (IsWithinCommand (state_of w from) command from.now.said) from to
  synced_moments true (inl looks) = steps_looks looks
  synced_moments false looks = steps_looks looks
  synced_moments true (inr settles) = steps settles.past (record {
    silent = settles.said;
    file = inl (ap (λ (d : DiskState). d.seen) settles.disk);
    images = λ image is.
        let same : image ≡ from.now.disk.seen = image_of_settled (settled from.now.disk.seen) image (IsSettled-settled from.now.disk.seen) (subst (λ (d : DiskState). IsImage d image) settles.disk is) in
        inl (subst (IsAllowed (state_of w from)) (sym same) (ready.allowed from.now.disk.seen ready.ready.sound));
  })

  synced_said : (shut : Bool) → SyncsAtMost shut from to → to.now.said ≡ from.now.said
  synced_said true (inl looks) = ap (λ (m : Moment). m.said) looks.still.now
  synced_said true (inr settles) = settles.said
  synced_said false looks = ap (λ (m : Moment). m.said) looks.still.now

  synced_input : (shut : Bool) → SyncsAtMost shut from to → to.input ≡ from.input
  synced_input true (inl looks) = looks.input
  synced_input true (inr settles) = settles.input
  synced_input false looks = looks.input

  -- nothing but the disk changed
  pub synced_goes : (shut : Bool) → is_shut w.store ≡ shut → SyncsAtMost shut from to → GoesOn command (state_of w from) (state_of w to) from to
  synced_goes shut e syncs = record {
    moments = synced_moments shut syncs;
    said = synced_said shut syncs;
    input = synced_input shut syncs;
    ready = elim (settled_by w w from to shut e syncs) [
      | inl same ↦ ready_same (state_of w from) (state_of w to) (record { kept = refl; before = refl; attempted = refl; slot = refl; other = refl; mode = refl }) same ready
      | inr settles ↦ ready_settled w from to settles.0 settles.1 ready
    ];
  }

  -- the file was opened anew
  pub reopened_goes : (new : World) (shut : Bool) → SyncsAtMost shut from to → StandsFor from.now.disk.seen new.store.kept → Rests new.store to.now.disk → GoesOn command (state_of w from) (state_of new to) from to
  reopened_goes new shut syncs stands rests = record {
    moments = synced_moments shut syncs;
    said = synced_said shut syncs;
    input = synced_input shut syncs;
    ready = ready_at_rest (state_of new to) (subst (λ (bytes : List ℕ). StandsFor bytes new.store.kept) (sym (seen_same from to shut syncs)) stands) rests;
  }

  -- what is known of the file is the same
  pub looked_goes : (new : World) → Looks from to → SameFile w.store new.store → GoesOn command (state_of w from) (state_of new to) from to
  looked_goes new looks same = record {
    moments = steps_looks looks;
    said = ap (λ (m : Moment). m.said) looks.still.now;
    input = looks.input;
    ready = ready_same (state_of w from) (state_of new to) same (ap (λ (m : Moment). m.disk) looks.still.now) ready;
  }

module _ (known : Type 0) (viewers : List Meaning) (w : World) (from to : Outside) (reply : List ℕ) (later : from.disk_faults ≤ to.disk_faults) where
  reopens_of : outcome_of viewers w commands.Reopen ≡ reopens
  reopens_of = outcome_open viewers w commands.Reopen (goes_always (is_shut w.store) true refl)

  settles_of : (known → SyncsAtMost (is_shut w.store) from to) → (new : World) → SettlesAtMost known (state_of w from) (state_of new to)
  settles_of syncs new = record { bytes = λ k. settled_by w new from to (is_shut w.store) refl (syncs k); later = later }

  pub reopen_made : (new : World) (number : ℕ) → new ≡ without_followers (with_store w (reopened w.store new.store.kept new.store.slot new.store.other)) → number ≡ new.store.kept.number → reply ≡ reply_bytes (Reopen number)
      → (known → StandsFor from.now.disk.seen new.store.kept) → (known → Rests new.store to.now.disk) → (known → SyncsAtMost (is_shut w.store) from to)
      → Carried known viewers commands.Reopen (state_of w from) reply (state_of new to)
  reopen_made new number made is answer stands rests syncs =
      inl (subst (λ (o : Outcome). Comes known o (state_of w from) reply (state_of new to)) (sym reopens_of) (inl (record {
        kept = new.store.kept;
        slot = new.store.slot;
        other = new.store.other;
        stands = stands;
        rests = rests;
        answer = answer ∙ ap (λ n. reply_bytes (Reopen n)) is;
        world = made;
        disk = settles_of syncs new;
      })))

  pub reopen_refused : (e : OpenError) → reply ≡ reply_bytes (Refused (refusal_of_opening e)) → (known → IsSteady (state_of w from)) → (known → NamesCause from.now.disk.seen e)
      → (known → SyncsAtMost (is_shut w.store) from to) → (e ≡ opening.Failed → Rose from.disk_faults to.disk_faults) → Carried known viewers commands.Reopen (state_of w from) reply (state_of w to)
  reopen_refused opening.Failed answer ready cause syncs rose =
      inl (subst (λ (o : Outcome). Comes known o (state_of w from) reply (state_of w to)) (sym reopens_of)
      (inr (inl (record { answer = answer; world = refl; rose = rose refl; disk = settles_of syncs w }))))
  reopen_refused opening.Memory answer ready cause syncs rose = inr (record { takes = refl; answer = answer; world = refl; disk = settles_of syncs w })
  reopen_refused opening.NotAStore answer ready cause syncs rose =
      inl (subst (λ (o : Outcome). Comes known o (state_of w from) reply (state_of w to)) (sym reopens_of) (inr (inr (record {
        place = 0;
        unknown = λ k. let one = stands_for_one (state_of w from) (ready k) in
            elim (no_cause from.now.disk.seen one.0 opening.NotAStore one.1 (cause k)) [
              | inl e ↦ let f : ◌≡◌ {A = OpenError} opening.NotAStore opening.Failed = e in cc
              | inr e ↦ let f : ◌≡◌ {A = OpenError} opening.NotAStore opening.Memory = e in cc
            ];
        answer = answer;
        world = refl;
        disk = settles_of syncs w;
      }))))
  reopen_refused (opening.Damaged place) answer ready cause syncs rose =
      inl (subst (λ (o : Outcome). Comes known o (state_of w from) reply (state_of w to)) (sym reopens_of) (inr (inr (record {
        place = place;
        unknown = λ k. let one = stands_for_one (state_of w from) (ready k) in
            elim (no_cause from.now.disk.seen one.0 (opening.Damaged place) one.1 (cause k)) [
              | inl e ↦ let f : ◌≡◌ {A = OpenError} (opening.Damaged place) opening.Failed = e in cc
              | inr e ↦ let f : ◌≡◌ {A = OpenError} (opening.Damaged place) opening.Memory = e in cc
            ];
        answer = answer;
        world = refl;
        disk = settles_of syncs w;
      }))))

  module _ (unshut : is_shut w.store ≡ false) where
    open_revert : (some : Bool) → is_some w.store.before ≡ some → outcome_of viewers w commands.Revert ≡ unless_due (first_of (unless some refusals.NoName ∷ [])) w reverts
    open_revert some e = outcome_open viewers w commands.Revert (open_goes w.store false unshut) ∙ ap (λ b. unless_due (first_of (unless b refusals.NoName ∷ [])) w reverts) e

    pub revert_none : is_some w.store.before ≡ false → reply ≡ reply_bytes (Refused refusals.NoName) → Carried known viewers commands.Revert (state_of w from) reply (state_of w from)
    revert_none none answer = inl (refused_comes known from refusals.NoName w reply (outcome_of viewers w commands.Revert) (open_revert false none) answer)

    module _ (some : is_some w.store.before ≡ true) (looks : known → Looks from to) where
      disk_same : known → to.now.disk ≡ from.now.disk
      disk_same k = ap (λ (m : Moment). m.disk) (looks k).still.now

      pub revert_made : (new : World) (store : Stored) (number : ℕ) → new ≡ without_followers (with_store w store) → Reverts known from.now.disk.seen w.store store number → reply ≡ reply_bytes (Revert number) → Carried known viewers commands.Revert (state_of w from) reply (state_of new to)
      revert_made new store number is made answer =
          inl (subst (λ (o : Outcome). Comes known o (state_of w from) reply (state_of new to)) (sym (open_revert true some)) (inl (record {
            older = made.older;
            before = made.before;
            answer = answer ∙ ap (λ n. reply_bytes (Revert n)) made.number_is;
            world = is ∙ ap (λ (s : Stored). without_followers (with_store w s)) made.views;
            disk = record { bytes = disk_same; later = later };
          })))

      finds_damage : (place : ℕ) → reply ≡ reply_bytes (Refused (refusals.Damaged place)) → (known → IsBefore from.now.disk.seen (broken place)) → Carried known viewers commands.Revert (state_of w from) reply (state_of w to)
      finds_damage place answer damaged =
          inl (subst (λ (o : Outcome). Comes known o (state_of w from) reply (state_of w to)) (sym (open_revert true some)) (inr (inl (record {
            place = place;
            damaged = damaged;
            answer = answer;
            world = refl;
            disk = record { bytes = disk_same; later = later };
          }))))

      pub revert_refused : (e : RevertError) → reply ≡ reply_bytes (Refused (refusal_of_revert e)) → (known → NamesRefusal w.store from.now.disk.seen e)
          → (e ≡ reverting.Failed → Rose from.disk_faults to.disk_faults) → Carried known viewers commands.Revert (state_of w from) reply (state_of w to)
      revert_refused reverting.NoBefore answer cause rose = finds_damage 0 answer (λ k. absurd (false≢true (sym (ap is_some (cause k)) ∙ some)))
      revert_refused (reverting.Damaged place) answer cause rose = finds_damage place answer cause
      revert_refused reverting.Failed answer cause rose =
          inl (subst (λ (o : Outcome). Comes known o (state_of w from) reply (state_of w to)) (sym (open_revert true some))
          (inr (inr (record { answer = answer; world = refl; rose = rose refl; disk = record { bytes = disk_same; later = later } }))))
      revert_refused reverting.Memory answer cause rose =
          inr (record { takes = refl; answer = answer; world = refl; disk = record { bytes = disk_same; later = later } })
