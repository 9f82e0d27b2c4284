-- How a line steps.
use Rattle.std.proofs.Common.{◌≡◌, ℕ, true, List, [], refl, ap, subst, sym, ◌∙◌, inl, inr, ⊎_elim}
use Rattle.std.specs.Prelude.{◌⊎◌}
use Rattle.cmd_text.specs.Lines.{IsRefusedAs, Reads}
use Rattle.cmd_text.specs.OneWord.{IsOneWord}
use Rattle.cmd_text.specs.Replies.{reply_bytes}
use Rattle.cmd_text.specs.declared.command.Command.{Command}
use Rattle.cmd_text.specs.declared.command.Command.TheVariants as commands
use Rattle.cmd_text.specs.declared.error.CmdError.{CmdError}
use Rattle.cmd_text.specs.declared.error.CmdError.TheVariants as errors
use Rattle.cmd_text.specs.declared.reply.Reply.TheVariants.{Quit, Refused}
use Rattle.host_io.specs.Outside.{Outside}
use Rattle.host_io.proofs.Moments.{weaker}
use Rattle.lines.specs.Machine.{State}
use Rattle.storage.specs.Stored.{is_shut}
use Rattle.viewers.specs.Meanings.{Meaning}
use Rattle.session.specs.Carried.{Carried, Comes}
use Rattle.session.specs.Commands.{Outcome, takes_memory}
use Rattle.session.specs.Disk.{IsAllowed}
use Rattle.session.specs.Moments.{IsUnderWay}
use Rattle.session.specs.Going.{GoesOn, GoesOnLine}
use Rattle.session.specs.Lines.{is_blank, is_quit}
use Rattle.session.specs.Refusals.{refusal_of_reading}
use Rattle.session.specs.Step.{Step}
use Rattle.session.specs.World.{World}
use Rattle.session.proofs.Outcomes.{goes_always, outcome_open}
use Rattle.session.proofs.Readings.{blank_only, blank_reads, quit_reads}

-- a line that reads as one word is read without memory
takes_of : (line : List ℕ) → ((command : Command) → IsOneWord command → Reads line command → ⊥) → (command : Command) → Reads line command → takes_memory command ≡ true
takes_of line in_place commands.Nothing reads = absurd (in_place commands.Nothing tt reads)
takes_of line in_place commands.Rollback reads = absurd (in_place commands.Rollback (refl, tt) reads)
takes_of line in_place commands.Space reads = absurd (in_place commands.Space (refl, tt) reads)
takes_of line in_place commands.Quit reads = absurd (in_place commands.Quit (refl, tt) reads)
takes_of line in_place command reads = refl

nothing_commits : (note : List ℕ) → commands.Nothing ≡ commands.Commit note → ⊥
nothing_commits note e = let same : ◌≡◌ {A = Command} commands.Nothing (commands.Commit note) = e in cc

-- while a line of spaces is answered nothing is under way
pub quiet_of_blank : (state : State World) (line image : List ℕ) → is_blank line ≡ true → IsAllowed state image ⊎ IsUnderWay state line image → IsAllowed state image
quiet_of_blank state line image blank (inl allowed) = allowed
quiet_of_blank state line image blank (inr under_way) =
    absurd (nothing_commits under_way.commits.made.note (sym (blank_only line under_way.command blank under_way.reads) ∙ under_way.commits.made.asked))

-- what goes on in a command goes on in its line
pub line_goes : (old new : State World) (from to : Outside) (line : List ℕ) (command : Command) → Reads line command → GoesOn command old new from to → GoesOnLine line old new from to
line_goes old new from to line command reads goes = record {
  moments = weaker (λ at h. record {
    silent = h.silent;
    file = ⊎_elim (λ same. inl same) (λ file. inr (record { command = command; reads = reads; file_of = file })) h.file;
    images = λ image is. ⊎_elim (λ allowed. inl allowed) (λ commits. inr (record { command = command; reads = reads; commits = commits })) (h.images image is);
  }) goes.moments;
  said = goes.said;
  input = goes.input;
  ready = goes.ready;
}

module _ (known : Type 0) (viewers : List Meaning) where
  pub step_of_command : (old new : State World) (line reply : List ℕ) (command : Command) → Reads line command → Carried known viewers command old reply new → Step known viewers old line reply new
  step_of_command old new line reply command reads carried = inl (record { command = command; reads = reads; carried = carried })

  pub step_of_error : (state : State World) (line reply : List ℕ) (error : CmdError) → ((command : Command) → IsOneWord command → Reads line command → ⊥)
      → (error ≡ errors.Memory) ⊎ IsRefusedAs line error → reply ≡ reply_bytes (Refused (refusal_of_reading error)) → Step known viewers state line reply state
  step_of_error state line reply error in_place (inl memory) answer = inr (inr (record {
    takes = takes_of line in_place;
    refuses = record { answer = answer ∙ ap (λ e. reply_bytes (Refused (refusal_of_reading e))) memory; world = refl; disk = record { bytes = λ _. refl; faults = refl } };
  }))
  step_of_error state line reply error in_place (inr offends) answer =
      inr (inl (record { error = error; offends = offends; refuses = record { answer = answer; world = refl; disk = record { bytes = λ _. refl; faults = refl } } }))

  pub step_of_blank : (state : State World) (line reply : List ℕ) → is_blank line ≡ true → reply ≡ [] → Step known viewers state line reply state
  step_of_blank state line reply blank answer =
      step_of_command state state line reply commands.Nothing (blank_reads line blank)
      (inl (subst (λ (o : Outcome). Comes known o state reply state) (sym (outcome_open viewers state.world commands.Nothing (goes_always (is_shut state.world.store) true refl)))
      (record { answer = answer; world = refl; disk = record { bytes = λ _. refl; faults = refl } })))

  pub step_of_quit : (state : State World) (line reply : List ℕ) → is_quit line ≡ true → reply ≡ reply_bytes Quit → Step known viewers state line reply state
  step_of_quit state line reply quit answer =
      step_of_command state state line reply commands.Quit (quit_reads line quit)
      (inl (subst (λ (o : Outcome). Comes known o state reply state) (sym (outcome_open viewers state.world commands.Quit (goes_always (is_shut state.world.store) true refl)))
      (record { answer = answer; world = refl; disk = record { bytes = λ _. refl; faults = refl } })))
