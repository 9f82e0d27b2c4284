-- What a command that gives a number, or nothing, is answered by what its function gave.
use Rattle.std.proofs.Common.{◌≡◌, ℕ, ◌≤◌, true, List, length, Option, Result, Ok, Err, IfOk, OnErr, OnOk, inl, inr, ap, sym, subst, ◌∙◌}
use Rattle.cmd_text.specs.Replies.{reply_bytes}
use Rattle.cmd_text.specs.declared.command.Command.{Command}
use Rattle.cmd_text.specs.declared.refusal.Refusal.{Refusal}
use Rattle.cmd_text.specs.declared.reply.Reply.{Reply}
use Rattle.cmd_text.specs.declared.reply.Reply.TheVariants.{Count, Plain, Refused}
use Rattle.lines.specs.Lines.{max_line}
use Rattle.viewers.specs.Meanings.{Meaning}
use Rattle.session.specs.Answered.{Answered, IsGiven, reply_of}
use Rattle.session.specs.Commands.{Outcome, gives, outcome_in, takes_memory, unless_due}
use Rattle.session.specs.Refusals.{AnswersDue}
use Rattle.session.specs.Saying.{IsOneLine}
use Rattle.session.specs.World.{World}
use Rattle.session.proofs.Asked.{one_line}

-- a command is asked in a world, and leaves another
module _ (viewers : List Meaning) (command : Command) (w new : World) (takes : takes_memory command ≡ true) where
  refused_one : (due : Option Refusal) (done : Outcome) (x : Refusal) (reply : Reply) → outcome_in viewers w command ≡ unless_due due w done → AnswersDue {T = ℕ} due (Err x) → new ≡ w → reply ≡ Refused x
      → length (reply_bytes reply) ≤ max_line → Answered viewers command w reply new
  refused_one due done x reply is (inl h) same answer short =
      one_line viewers command w new reply (subst IsOneLine (sym answer) tt) short
      (inl (subst (λ (o : Outcome). IsGiven o (reply_bytes reply) new) (sym (is ∙ ap (λ d. unless_due d w done) h)) (ap reply_bytes answer, same)))
  refused_one due done x reply is (inr memory) same answer short =
      one_line viewers command w new reply (subst IsOneLine (sym answer) tt) short (inr (answer ∙ ap Refused memory, takes, same))

  -- a number is told
  pub count_answered : (due : Option Refusal) (n : ℕ) (left : World) (r : Result ℕ Refusal) (reply : Reply) → outcome_in viewers w command ≡ unless_due due w (gives (reply_bytes (Count n)) left) → AnswersDue due r
      → IfOk r (λ x. x ≡ n) → OnOk r (new ≡ left) → OnErr r (new ≡ w) → reply ≡ reply_of (λ x. Count x) r → length (reply_bytes reply) ≤ max_line → Answered viewers command w reply new
  count_answered due n left (Ok x) reply is h value ok err answer short =
      one_line viewers command w new reply (subst IsOneLine (sym answer) tt) short
      (inl (subst (λ (o : Outcome). IsGiven o (reply_bytes reply) new) (sym (is ∙ ap (λ d. unless_due d w (gives (reply_bytes (Count n)) left)) h))
      (ap reply_bytes answer ∙ ap (λ k. reply_bytes (Count k)) value, ok)))
  count_answered due n left (Err x) reply is h value ok err answer short = refused_one due (gives (reply_bytes (Count n)) left) x reply is h err answer short

  -- it is told that it was done
  pub done_answered : (due : Option Refusal) (left : World) (r : Result (Unit {0}) Refusal) (reply : Reply) → outcome_in viewers w command ≡ unless_due due w (gives (reply_bytes Plain) left) → AnswersDue due r
      → OnOk r (new ≡ left) → OnErr r (new ≡ w) → reply ≡ reply_of (λ _. Plain) r → length (reply_bytes reply) ≤ max_line → Answered viewers command w reply new
  done_answered due left (Ok x) reply is h ok err answer short =
      one_line viewers command w new reply (subst IsOneLine (sym answer) tt) short
      (inl (subst (λ (o : Outcome). IsGiven o (reply_bytes reply) new) (sym (is ∙ ap (λ d. unless_due d w (gives (reply_bytes Plain) left)) h)) (ap reply_bytes answer, ok)))
  done_answered due left (Err x) reply is h ok err answer short = refused_one due (gives (reply_bytes Plain) left) x reply is h err answer short
