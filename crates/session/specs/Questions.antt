-- What a question about an expression or a cursor is answered.
use Rattle.std.specs.Prelude.{◌≡◌, ◌⊎◌, ℕ, List, Option, Some, None, Result, Ok, Err}
use Rattle.cmd_text.specs.declared.refusal.Refusal.{Refusal}
use Rattle.cmd_text.specs.declared.refusal.Refusal.TheVariants.{Memory, NoName, Exists, Range, NoProp, Kind, Limit, Unsorted}
use Rattle.cmd_text.specs.declared.reply.Reply.{Reply}
use Rattle.cmd_text.specs.declared.reply.Reply.TheVariants.{Count, NotFound, Pair}
use Rattle.eval.specs.Names.{Named}
use Rattle.questions.specs.Kept.{asked_names}
use Rattle.questions.specs.declared.error.QuestionError.{QuestionError}
use Rattle.questions.specs.declared.error.QuestionError.TheVariants as questions
use Rattle.questions.specs.declared.located.Located.{Located}
use Rattle.viewers.specs.Meanings.{Meaning}
use Rattle.session.specs.World.{World, kept_names}

-- how it is told that a question has no answer
abbrev pub refusal_of_question : QuestionError → Refusal
refusal_of_question questions.NoName = NoName
refusal_of_question questions.Exists = Exists
refusal_of_question questions.NoProp = NoProp
refusal_of_question questions.Kind = Kind
refusal_of_question (questions.Range size) = Range size
refusal_of_question questions.Limit = Limit
refusal_of_question questions.Unsorted = Unsorted
refusal_of_question questions.Memory = Memory

-- what the names of a question stand for, where these viewers may be asked: views, behind them snapshots, watches, and computed watches
abbrev pub names_in : World → List Meaning → List Named
names_in w viewers = asked_names (kept_names w) viewers w.computed

-- a place where rows with the values stand, if there is one; and a place with a number of rows
abbrev pub place_reply : Option ℕ → Reply
place_reply None = NotFound
place_reply (Some place) = Count place

abbrev pub located_reply : Located → Reply
located_reply at = Pair at.position at.count

-- the answer, or the refusal as it is told; or memory was wanting
abbrev pub AnswersQuestion : {X Y : Type 0} → (X → Y) → Result Y QuestionError → Result X Refusal → Type 0
AnswersQuestion see due (Ok x) = due ≡ Ok (see x)
AnswersQuestion see due (Err refusal) = (refusal ≡ Memory) ⊎ ((e : QuestionError) × (due ≡ Err e) × (refusal ≡ refusal_of_question e))
