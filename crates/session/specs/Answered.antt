-- What a command that reaches no disk is answered, and the reply to what its function gives.
use Rattle.std.specs.Prelude.{◌≡◌, ◌⊎◌, ◌+◌, ℕ, List, true, Result, Ok, Err}
use Rattle.cmd_text.specs.Replies.{reply_bytes}
use Rattle.cmd_text.specs.declared.command.Command.{Command}
use Rattle.cmd_text.specs.declared.command.Command.TheVariants as commands
use Rattle.cmd_text.specs.declared.refusal.Refusal.{Refusal}
use Rattle.cmd_text.specs.declared.refusal.Refusal.TheVariants.{Memory}
use Rattle.cmd_text.specs.declared.reply.Reply.{Reply}
use Rattle.cmd_text.specs.declared.reply.Reply.TheVariants.{Refused, Silent}
use Rattle.lines.specs.Lines.{max_line}
use Rattle.viewers.specs.Meanings.{Meaning}
use Rattle.session.specs.Commands.{Outcome, gives, commits, reopens, reverts, outcome_in, takes_memory}
use Rattle.session.specs.Saying.{FitsIn, IsUnbounded}
use Rattle.session.specs.World.{World}

-- the reply to what the function of a command gave: one of its value, or the refusal
abbrev pub reply_of : {T : Type 0} → (T → Reply) → Result T Refusal → Reply
reply_of told (Ok x) = told x
reply_of told (Err refusal) = Refused refusal

-- the reply and the world are those of the outcome
abbrev pub IsGiven : Outcome → List ℕ → World → Type 0
IsGiven (gives said left) reply new = (reply ≡ said) × (new ≡ left)
IsGiven (commits note) reply new = ⊥
IsGiven reopens reply new = ⊥
IsGiven reverts reply new = ⊥

-- What is due came of the command, or memory was wanting and nothing changed. The reply to a change fits the room of a reply.
pub record Answered (viewers : List Meaning) (command : Command) (old : World) (reply : Reply) (new : World) : Type 0 where
  pub answers : IsGiven (outcome_in viewers old command) (reply_bytes reply) new ⊎ ((reply ≡ Refused Memory) × (takes_memory command ≡ true) × (new ≡ old))
  pub fits : FitsIn (max_line + 1) reply
  pub kept : IsUnbounded reply → (takes_memory command ≡ true) × (new ≡ old)
  pub silent : reply ≡ Silent → command ≡ commands.Nothing
