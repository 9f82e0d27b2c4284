-- Lines of a session that only reads.
use Rattle.std.proofs.Common.{◌≡◌, ℕ, false, List, [], ◌∷◌, All, None, refl, ap, sym, subst, ◌∙◌, inl, inr}
use Rattle.std.proofs.lemmas.Bool.{false≢true}
use Rattle.std.proofs.lemmas.List.Elements.{All-cons, All-nil, All-weaker}
use Rattle.std.specs.Option.{is_some}
use Rattle.std.specs.Prelude.{◌==◌, not}
use Rattle.cmd_text.specs.declared.command.Command.{Command}
use Rattle.cmd_text.specs.declared.refusal.Refusal.TheVariants.{LastNumber, ReadOnly}
use Rattle.commit_plan.specs.Plans.{last_number}
use Rattle.host_io.specs.Disk.{DiskState}
use Rattle.lines.specs.Machine.{Answers, Run, State, Turn}
use Rattle.storage.specs.Stored.{is_shut}
use Rattle.storage.specs.declared.mode.Mode.{Mode}
use Rattle.storage.specs.declared.mode.Mode.TheVariants.{Read}
use Rattle.viewers.specs.Meanings.{Meaning}
use Rattle.session.specs.Answered.{IsGiven}
use Rattle.session.specs.Carried.{Carried, Comes, LeavesDiskBy}
use Rattle.session.specs.Commands.{Outcome, Reach, commit_due, commits, gives, goes_when_shut, may_write, off_disk, opens_disk, outcome_in, reach_of, reads_disk, reopens, reverts, writes_disk}
use Rattle.session.specs.Disk.{SettlesAtMost}
use Rattle.session.specs.Refusals.{first_of, unless}
use Rattle.session.specs.Step.{Step, machine}
use Rattle.session.specs.World.{World}
use Rattle.session.proofs.Outcomes.{given_same, open_goes, outcome_open}
use Rattle.session.proofs.Ready.{SameFile}

-- a session that only reads, and that is not shut
record OnlyReads (w : World) : Type 0 where
  mode : w.store.mode ≡ Read
  unshut : is_shut w.store ≡ false

-- no commit is planned in it
never_commits : (w : World) → OnlyReads w → commit_due w.store ≡ None → ⊥
never_commits w reads none =
    let due = ap (λ (m : Mode). is_some (first_of (unless (may_write m) ReadOnly ∷ unless (not (w.store.kept.number == last_number)) LastNumber ∷ []))) reads.mode in
    false≢true (sym (ap is_some none) ∙ due)

module _ (old new : State World) (reads : OnlyReads old.world) where
  -- it goes on so, over the same disk
  record Stays : Type 0 where
    disk : new.disk ≡ old.disk
    goes_on : OnlyReads new.world

  stays : (w : World) → new.world ≡ w → SameFile old.world.store w.store → new.disk ≡ old.disk → Stays
  stays w is same disk = record {
    disk = disk;
    goes_on = subst OnlyReads (sym is) (record { mode = same.mode ∙ reads.mode; unshut = ap is_some same.attempted ∙ reads.unshut });
  }

  unchanged : SameFile old.world.store old.world.store
  unchanged = record { kept = refl; before = refl; attempted = refl; slot = refl; other = refl; mode = refl }

  not_settled : SettlesAtMost (Unit {0}) old new → new.disk ≡ old.disk
  not_settled d = elim (d.bytes tt) [
    | inl same ↦ same
    | inr settles ↦ absurd (false≢true (sym reads.unshut ∙ settles.0))
  ]

  left_by : (reach : Reach) → LeavesDiskBy (Unit {0}) reach old new → new.disk ≡ old.disk
  left_by opens_disk d = not_settled d
  left_by reads_disk d = d.bytes tt
  left_by off_disk d = d.bytes tt
  left_by writes_disk d = d.bytes tt

  comes_stays : (o : Outcome) (reply : List ℕ) → ((said : List ℕ) (left : World) → o ≡ gives said left → SameFile old.world.store left.store) → Comes (Unit {0}) o old reply new → Stays
  comes_stays (gives said left) reply same g = stays left g.world (same said left refl) (g.disk.bytes tt)
  comes_stays (commits note) reply same (inl a) = absurd (never_commits old.world reads a.due)
  comes_stays (commits note) reply same (inr (inl f)) = absurd (never_commits old.world reads f.due)
  comes_stays (commits note) reply same (inr (inr f)) = stays old.world f.gives.world unchanged (f.gives.disk.bytes tt)
  comes_stays reopens reply same (inl r) = record { disk = not_settled r.disk; goes_on = subst OnlyReads (sym r.world) (record { mode = reads.mode; unshut = refl }) }
  comes_stays reopens reply same (inr (inl f)) = stays old.world f.world unchanged (not_settled f.disk)
  comes_stays reopens reply same (inr (inr f)) = absurd (f.unknown tt)
  comes_stays reverts reply same (inl b) = record { disk = b.disk.bytes tt; goes_on = subst OnlyReads (sym b.world) (record { mode = reads.mode; unshut = reads.unshut }) }
  comes_stays reverts reply same (inr (inl f)) = stays old.world f.world unchanged (f.disk.bytes tt)
  comes_stays reverts reply same (inr (inr f)) = stays old.world f.world unchanged (f.disk.bytes tt)

  carried_stays : (viewers : List Meaning) (command : Command) (reply : List ℕ) → Carried (Unit {0}) viewers command old reply new → Stays
  carried_stays viewers command reply (inl comes) = comes_stays (outcome_in viewers old.world command) reply
      (λ said left e. given_same viewers command old.world said left (subst (λ (o : Outcome). IsGiven o said left) (sym e) (refl, refl)))
      (subst (λ (o : Outcome). Comes (Unit {0}) o old reply new) (outcome_open viewers old.world command (open_goes old.world.store (goes_when_shut command) reads.unshut)) comes)
  carried_stays viewers command reply (inr w) = stays old.world w.world unchanged (left_by (reach_of command) w.disk)

  step_stays : (viewers : List Meaning) (line reply : List ℕ) → Step (Unit {0}) viewers old line reply new → Stays
  step_stays viewers line reply (inl c) = carried_stays viewers c.command reply c.carried
  step_stays viewers line reply (inr (inl r)) = stays old.world r.refuses.world unchanged (r.refuses.disk.bytes tt)
  step_stays viewers line reply (inr (inr l)) = stays old.world l.refuses.world unchanged (l.refuses.disk.bytes tt)

  turn_stays : (viewers : List Meaning) (line reply : List ℕ) → Answers (machine viewers) old line reply new → Stays
  turn_stays viewers line reply (inl long) = stays old.world (ap (λ (s : State World). s.world) long.2) unchanged (ap (λ (s : State World). s.disk) long.2)
  turn_stays viewers line reply (inr step) = step_stays viewers line reply step.1

-- the disk after each turn is this one
abbrev AllOver : DiskState → List (Turn World) → Type 0
AllOver disk turns = All (λ turn. turn.after.disk ≡ disk) turns

run_stays : (viewers : List Meaning) (old last : State World) (lines : List (List ℕ)) (turns : List (Turn World)) → OnlyReads old.world → Run (machine viewers) old lines turns last → AllOver old.disk turns × (last.disk ≡ old.disk)
run_stays viewers old last [] [] reads run = (All-nil (λ (turn : Turn World). turn.after.disk ≡ old.disk), ap (λ (s : State World). s.disk) run)
run_stays viewers old last [] (turn ∷ turns) reads run = absurd run
run_stays viewers old last (line ∷ lines) [] reads run = absurd run
run_stays viewers old last (line ∷ lines) (turn ∷ turns) reads run =
    let here = turn_stays old turn.after reads viewers line turn.reply run.1 in
    elim run.2 [
      | inl ended ↦ (
        All-cons (λ (t : Turn World). t.after.disk ≡ old.disk) turn turns here.disk (subst (λ (l : List (Turn World)). AllOver old.disk l) (sym ended.1) (All-nil (λ (t : Turn World). t.after.disk ≡ old.disk))),
        ap (λ (s : State World). s.disk) ended.2 ∙ here.disk,
      )
      | inr more ↦
          let rest = run_stays viewers turn.after last lines turns here.goes_on more.1 in (
            All-cons (λ (t : Turn World). t.after.disk ≡ old.disk) turn turns here.disk (All-weaker (λ (t : Turn World). t.after.disk ≡ turn.after.disk) (λ (t : Turn World). t.after.disk ≡ old.disk) (λ t same. same ∙ here.disk) turns rest.0),
            rest.1 ∙ here.disk,
          )
    ]

pub leaves_the_file : (viewers : List Meaning) (old last : State World) (lines : List (List ℕ)) (turns : List (Turn World)) → old.world.store.mode ≡ Read → is_shut old.world.store ≡ false → Run (machine viewers) old lines turns last
    → All (λ turn. turn.after.disk ≡ old.disk) turns × (last.disk ≡ old.disk)
leaves_the_file viewers old last lines turns mode unshut run = run_stays viewers old last lines turns (record { mode = mode; unshut = unshut }) run
