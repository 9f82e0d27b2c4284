-- Lines while no call of the disk fails.
use Rattle.std.proofs.Common.{◌≡◌, ℕ, ◌≤◌, ◌<◌, true, false, List, [], ◌∷◌, refl, ap, sym, subst, ◌∙◌, inl, inr, arith, ltb}
use Rattle.std.proofs.lemmas.Bool.Decides.{nat_tests}
use Rattle.std.specs.Option.{is_some}
use Rattle.std.specs.Prelude.{◌⊎◌}
use Rattle.cmd_text.specs.Lines.{Reads}
use Rattle.cmd_text.specs.declared.command.Command.{Command}
use Rattle.host_io.specs.Calls.{Rose}
use Rattle.lines.specs.Lines.{IsTooLong}
use Rattle.lines.specs.Machine.{Answers, Run, State, Turn}
use Rattle.storage.specs.Stored.{is_shut}
use Rattle.viewers.specs.Meanings.{Meaning}
use Rattle.session.specs.Answered.{IsGiven}
use Rattle.session.specs.Carried.{Carried, Comes, LeavesDiskBy}
use Rattle.session.specs.Commands.{Outcome, Reach, commits, gives, goes_when_shut, off_disk, opens_disk, outcome_in, outcome_of, reach_of, reads_disk, reopens, reverts, writes_disk}
use Rattle.session.specs.Disk.{LeavesDisk}
use Rattle.session.specs.Step.{Step, machine}
use Rattle.session.specs.Unfaulted.{AreAnswered, ComesWell, StepsWell}
use Rattle.session.specs.World.{World}
use Rattle.session.proofs.Outcomes.{given_same, open_goes, outcome_open}

below_or_not : (x y : ℕ) → (x < y) ⊎ (y ≤ x)
below_or_not x y = elim (ltb x y) as (λ b. ltb x y ≡ b → (x < y) ⊎ (y ≤ x)) [ true ↦ λ e. inl (grind (arith, nat_tests)) | false ↦ λ e. inr (grind (arith, nat_tests)) ] refl

-- a count that rose has risen whatever comes later
rose_later : (a b c : ℕ) → a ≤ b → b ≤ c → Rose a b → Rose a c
rose_later a b c first then (inl below) = inl (omega (arith, below, then))
rose_later a b c first then (inr last) = elim (below_or_not a c) [
  | inl below ↦ inl below
  | inr above ↦ inr (let same : c ≡ b = omega (arith, first, then, above) in same ∙ last)
]

-- a count that had risen before rises still
rose_before : (a b c : ℕ) → a ≤ b → b ≤ c → Rose b c → Rose a c
rose_before a b c first then (inl below) = inl (omega (arith, below, first))
rose_before a b c first then (inr last) = inr last

module _ (old new : State World) where
  leaves_faults : (reach : Reach) → LeavesDiskBy (Unit {0}) reach old new → old.disk_faults ≤ new.disk_faults
  leaves_faults opens_disk d = d.later
  leaves_faults reads_disk d = d.later
  leaves_faults off_disk d = let e = d.faults in omega (arith, e)
  leaves_faults writes_disk d = let e = d.faults in omega (arith, e)

  left_faults : LeavesDisk (Unit {0}) old new → old.disk_faults ≤ new.disk_faults
  left_faults d = let e = d.faults in omega (arith, e)

  comes_faults : (o : Outcome) (reply : List ℕ) → Comes (Unit {0}) o old reply new → old.disk_faults ≤ new.disk_faults
  comes_faults (gives said left) reply g = left_faults g.disk
  comes_faults (commits note) reply (inl a) = a.writes.later
  comes_faults (commits note) reply (inr (inl f)) = f.writes.later
  comes_faults (commits note) reply (inr (inr f)) = left_faults f.gives.disk
  comes_faults reopens reply (inl r) = r.disk.later
  comes_faults reopens reply (inr (inl f)) = f.disk.later
  comes_faults reopens reply (inr (inr f)) = f.disk.later
  comes_faults reverts reply (inl b) = b.disk.later
  comes_faults reverts reply (inr (inl f)) = f.disk.later
  comes_faults reverts reply (inr (inr f)) = f.disk.later

  carried_faults : (viewers : List Meaning) (command : Command) (reply : List ℕ) → Carried (Unit {0}) viewers command old reply new → old.disk_faults ≤ new.disk_faults
  carried_faults viewers command reply (inl comes) = comes_faults (outcome_of viewers old.world command) reply comes
  carried_faults viewers command reply (inr w) = leaves_faults (reach_of command) w.disk

  step_faults : (viewers : List Meaning) (line reply : List ℕ) → Step (Unit {0}) viewers old line reply new → old.disk_faults ≤ new.disk_faults
  step_faults viewers line reply (inl c) = carried_faults viewers c.command reply c.carried
  step_faults viewers line reply (inr (inl r)) = left_faults r.refuses.disk
  step_faults viewers line reply (inr (inr l)) = left_faults l.refuses.disk

  module _ (unshut : is_shut old.world.store ≡ false) (still : ¬ Rose old.disk_faults new.disk_faults) where
    -- the session stays unshut where its attempted commit is none still
    stays_open : (w : World) → new.world ≡ w → is_shut w.store ≡ false → is_shut new.world.store ≡ false
    stays_open w e h = ap (λ (x : World). is_shut x.store) e ∙ h

    comes_well : (o : Outcome) (reply : List ℕ) → Comes (Unit {0}) o old reply new → ComesWell o old reply new
    comes_well (gives said left) reply g = g
    comes_well (commits note) reply (inl a) = inl a
    comes_well (commits note) reply (inr (inl f)) = absurd (still f.rose)
    comes_well (commits note) reply (inr (inr f)) = inr f
    comes_well reopens reply (inl r) = r
    comes_well reopens reply (inr (inl f)) = absurd (still f.rose)
    comes_well reopens reply (inr (inr f)) = absurd (f.unknown tt)
    comes_well reverts reply (inl b) = inl b
    comes_well reverts reply (inr (inl f)) = inr f
    comes_well reverts reply (inr (inr f)) = absurd (still f.rose)

    well_open : (o : Outcome) (reply : List ℕ) → ((said : List ℕ) (left : World) → o ≡ gives said left → is_shut left.store ≡ false) → ComesWell o old reply new → is_shut new.world.store ≡ false
    well_open (gives said left) reply none g = stays_open left g.world (none said left refl)
    well_open (commits note) reply none (inl a) = stays_open _ a.world refl
    well_open (commits note) reply none (inr f) = stays_open _ f.gives.world unshut
    well_open reopens reply none r = stays_open _ r.world refl
    well_open reverts reply none (inl b) = stays_open _ b.world unshut
    well_open reverts reply none (inr f) = stays_open _ f.world unshut

-- what a session gives that is not shut leaves one that is not shut
gives_open : (viewers : List Meaning) (command : Command) (w : World) (said : List ℕ) (left : World) → is_shut w.store ≡ false → outcome_in viewers w command ≡ gives said left → is_shut left.store ≡ false
gives_open viewers command w said left unshut e =
    ap is_some (given_same viewers command w said left (subst (λ (o : Outcome). IsGiven o said left) (sym e) (refl, refl))).attempted ∙ unshut

module _ (viewers : List Meaning) (old new : State World) (unshut : is_shut old.world.store ≡ false) (still : ¬ Rose old.disk_faults new.disk_faults) where
  open_of : (command : Command) → outcome_of viewers old.world command ≡ outcome_in viewers old.world command
  open_of command = outcome_open viewers old.world command (open_goes old.world.store (goes_when_shut command) unshut)

  carried_well : (command : Command) (line reply : List ℕ) → Reads line command → Carried (Unit {0}) viewers command old reply new → StepsWell viewers old line reply new × (is_shut new.world.store ≡ false)
  carried_well command line reply reads (inl comes) =
      let well = comes_well old new unshut still (outcome_in viewers old.world command) reply (subst (λ (o : Outcome). Comes (Unit {0}) o old reply new) (open_of command) comes) in (
        inl (record { command = command; reads = reads; comes = inl well }),
        well_open old new unshut still (outcome_in viewers old.world command) reply (λ said left e. gives_open viewers command old.world said left unshut e) well,
      )
  carried_well command line reply reads (inr w) =
      (inl (record { command = command; reads = reads; comes = inr w }), stays_open old new unshut still old.world w.world unshut)

  step_well : (line reply : List ℕ) → Step (Unit {0}) viewers old line reply new → StepsWell viewers old line reply new × (is_shut new.world.store ≡ false)
  step_well line reply (inl c) = carried_well c.command line reply c.reads c.carried
  step_well line reply (inr (inl r)) = (inr (inl r), stays_open old new unshut still old.world r.refuses.world unshut)
  step_well line reply (inr (inr l)) = (inr (inr l), stays_open old new unshut still old.world l.refuses.world unshut)

  turn_well : (line reply : List ℕ) → Answers (machine viewers) old line reply new → (IsTooLong line ⊎ StepsWell viewers old line reply new) × (is_shut new.world.store ≡ false)
  turn_well line reply (inl long) = (inl long.0, ap (λ (s : State World). is_shut s.world.store) long.2 ∙ unshut)
  turn_well line reply (inr step) = let well = step_well line reply step.1 in (inr well.0, well.1)

turn_faults : (viewers : List Meaning) (old new : State World) (line reply : List ℕ) → Answers (machine viewers) old line reply new → old.disk_faults ≤ new.disk_faults
turn_faults viewers old new line reply (inl long) = let e = ap (λ (s : State World). s.disk_faults) long.2 in omega (arith, e)
turn_faults viewers old new line reply (inr step) = step_faults old new viewers line reply step.1

run_faults : (viewers : List Meaning) (old last : State World) (lines : List (List ℕ)) (turns : List (Turn World)) → Run (machine viewers) old lines turns last → old.disk_faults ≤ last.disk_faults
run_faults viewers old last [] [] run = let e = ap (λ (s : State World). s.disk_faults) run in omega (arith, e)
run_faults viewers old last [] (turn ∷ turns) run = absurd run
run_faults viewers old last (line ∷ lines) [] run = absurd run
run_faults viewers old last (line ∷ lines) (turn ∷ turns) run =
    let first = turn_faults viewers old turn.after line turn.reply run.1 in
    elim run.2 [
      | inl ended ↦ let e = ap (λ (s : State World). s.disk_faults) ended.2 in omega (arith, first, e)
      | inr more ↦ let rest = run_faults viewers turn.after last lines turns more.1 in omega (arith, first, rest)
    ]

pub answered_unfaulted : (viewers : List Meaning) (old last : State World) (lines : List (List ℕ)) (turns : List (Turn World)) → is_shut old.world.store ≡ false → Run (machine viewers) old lines turns last → (¬ Rose old.disk_faults last.disk_faults)
    → AreAnswered viewers old turns
answered_unfaulted viewers old last lines [] unshut run still = tt
answered_unfaulted viewers old last [] (turn ∷ turns) unshut run still = absurd run
answered_unfaulted viewers old last (line ∷ lines) (turn ∷ turns) unshut run still =
    let first = turn_faults viewers old turn.after line turn.reply run.1 in
    elim run.2 [
      | inl ended ↦
          let e = ap (λ (s : State World). s.disk_faults) ended.2 in
          let later : turn.after.disk_faults ≤ last.disk_faults = omega (arith, e) in
          let well = turn_well viewers old turn.after unshut (λ rose. still (rose_later old.disk_faults turn.after.disk_faults last.disk_faults first later rose)) line turn.reply run.1 in (
            record { unshut = well.1; well = subst (λ (l : List ℕ). IsTooLong l ⊎ StepsWell viewers old l turn.reply turn.after) (sym run.0) well.0 },
            subst (λ (ts : List (Turn World)). AreAnswered viewers turn.after ts) (sym ended.1) tt,
          )
      | inr more ↦
          let later = run_faults viewers turn.after last lines turns more.1 in
          let well = turn_well viewers old turn.after unshut (λ rose. still (rose_later old.disk_faults turn.after.disk_faults last.disk_faults first later rose)) line turn.reply run.1 in (
            record { unshut = well.1; well = subst (λ (l : List ℕ). IsTooLong l ⊎ StepsWell viewers old l turn.reply turn.after) (sym run.0) well.0 },
            answered_unfaulted viewers turn.after last lines turns well.1 more.1 (λ rose. still (rose_before old.disk_faults turn.after.disk_faults last.disk_faults first later rose)),
          )
    ]
