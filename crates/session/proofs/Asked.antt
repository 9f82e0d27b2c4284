-- What a question is answered.
use Rattle.std.proofs.Common.{◌≡◌, ℕ, ◌≤◌, true, List, length, Result, Ok, Err, refl, ap, sym, subst, ◌∙◌, inl, inr, arith}
use Rattle.std.specs.Prelude.{◌⊎◌}
use Rattle.cmd_text.specs.Replies.{reply_bytes}
use Rattle.cmd_text.specs.declared.command.Command.{Command}
use Rattle.cmd_text.specs.declared.refusal.Refusal.TheVariants.{Memory}
use Rattle.cmd_text.specs.declared.reply.Reply.{Reply}
use Rattle.cmd_text.specs.declared.reply.Reply.TheVariants.{Lines, Refused, Row}
use Rattle.lines.specs.Lines.{max_line}
use Rattle.mk_value.specs.Buffer.{Buffer}
use Rattle.questions.specs.declared.error.QuestionError.{QuestionError}
use Rattle.questions.specs.declared.error.QuestionError.TheVariants as questions
use Rattle.viewers.specs.Meanings.{Meaning}
use Rattle.session.specs.Answered.{Answered, IsGiven}
use Rattle.session.specs.Commands.{Outcome, outcome_in, takes_memory, told}
use Rattle.session.specs.Questions.{refusal_of_question}
use Rattle.session.specs.Saying.{IsOneLine, IsUnbounded}
use Rattle.session.specs.World.{World}

bounded : (reply : Reply) → IsOneLine reply → IsUnbounded reply → ⊥
bounded (Lines count lines) line unbounded = line
bounded (Row text) line unbounded = line
bounded reply line unbounded = unbounded

-- a reply of one line that is no row
pub one_line : (viewers : List Meaning) (command : Command) (old new : World) (reply : Reply) → IsOneLine reply → length (reply_bytes reply) ≤ max_line
    → IsGiven (outcome_in viewers old command) (reply_bytes reply) new ⊎ ((reply ≡ Refused Memory) × (takes_memory command ≡ true) × (new ≡ old)) → Answered viewers command old reply new
one_line viewers command old new reply line short answers = record {
  answers = answers;
  fits = inr (omega (arith, short));
  kept = λ unbounded. absurd (bounded reply line unbounded);
  silent = λ is. absurd (subst IsOneLine is line);
}

-- what is due is given
pub given : {Y : Type 0} (viewers : List Meaning) (command : Command) (old new : World) (reply : List ℕ) (due : Result Y QuestionError) (done : Y → Outcome) (y : Y)
    → outcome_in viewers old command ≡ told due old done → due ≡ Ok y → IsGiven (done y) reply new → IsGiven (outcome_in viewers old command) reply new
given viewers command old new reply due done y is due_is h =
    subst (λ (o : Outcome). IsGiven o reply new) (sym (is ∙ ap (λ d. told d old done) due_is)) h

-- the refusal that is due is told, or memory was wanting
pub unanswered : {Y : Type 0} (viewers : List Meaning) (command : Command) (w : World) (reply : Reply) (due : Result Y QuestionError) (done : Y → Outcome) (e : QuestionError) → takes_memory command ≡ true
    → outcome_in viewers w command ≡ told due w done → (e ≡ questions.Memory) ⊎ (due ≡ Err e) → reply ≡ Refused (refusal_of_question e) → IsOneLine reply → length (reply_bytes reply) ≤ max_line → Answered viewers command w reply w
unanswered viewers command w reply due done e takes is (inl memory) reply_is line short =
    one_line viewers command w w reply line short (inr (reply_is ∙ ap (λ x. Refused (refusal_of_question x)) memory, takes, refl))
unanswered viewers command w reply due done e takes is (inr refused) reply_is line short =
    one_line viewers command w w reply line short
    (inl (subst (λ (o : Outcome). IsGiven o (reply_bytes reply) w) (sym (is ∙ ap (λ d. told d w done) refused)) (ap reply_bytes reply_is, refl)))

-- a reply of any length, which leaves the world as it is
pub of_lines : (viewers : List Meaning) (command : Command) (w : World) (count : ℕ) (lines : Buffer) → takes_memory command ≡ true
    → IsGiven (outcome_in viewers w command) (reply_bytes (Lines count lines)) w → Answered viewers command w (Lines count lines) w
of_lines viewers command w count lines takes answer = record { answers = inl answer; fits = inl tt; kept = λ _. (takes, refl); silent = λ is. cc }

pub of_row : (viewers : List Meaning) (command : Command) (w : World) (text : Buffer) → takes_memory command ≡ true → IsGiven (outcome_in viewers w command) (reply_bytes (Row text)) w → Answered viewers command w (Row text) w
of_row viewers command w text takes answer = record { answers = inl answer; fits = inl tt; kept = λ _. (takes, refl); silent = λ is. cc }
