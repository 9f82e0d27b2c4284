-- What comes of lines that are answered in silence, as those of a sample are.
use Rattle.std.specs.Prelude.{◌≡◌, ℕ, ◌≤◌, Bool, true, false, List, [], ◌∷◌, ◌++◌, All, Result, Ok, Err, codes, nat_eq}
use Rattle.std.specs.List.{starts_with}
use Rattle.host_io.specs.Outside.{Outside}
use Rattle.lines.specs.Machine.{Machine, Run, State, Turn}
use Rattle.lines.specs.Served.{state_of}
use Rattle.mk_value.specs.Buffer.{Buffer}
use Rattle.sample.specs.Lines.{BeginsWithVerb}
use Rattle.streaming.specs.Silence.{GoesInSilence}

-- a reply that is a refusal
abbrev pub is_refusal : List ℕ → Bool
is_refusal reply = starts_with nat_eq reply (codes "err ")

abbrev pub AreAccepted : {W : Type 0} → List (Turn W) → Type 0
AreAccepted turns = All (λ turn. is_refusal turn.reply ≡ false) turns

-- each line was answered, and none was refused
pub record AcceptsAll {W : Type 0} (machine : Machine W) (old last : State W) (lines : List (List ℕ)) : Type 0 where
  pub turns : List (Turn W)
  pub answered : Run machine old lines turns last
  pub accepted : AreAccepted turns

-- The lines were answered up to the first that was refused, by this reply.
pub record RefusesOne {W : Type 0} (machine : Machine W) (old last : State W) (lines : List (List ℕ)) (reply : List ℕ) : Type 0 where
  pub front : List (List ℕ)
  pub later : List (List ℕ)
  pub lines_are : lines ≡ front ++ later
  pub before : List (Turn W)
  pub final : Turn W
  pub answered : Run machine old front (before ++ final ∷ []) last
  pub accepted : AreAccepted before
  pub refused : is_refusal final.reply ≡ true
  pub reply_is : reply ≡ final.reply

-- what came of the lines, by whether one was refused
abbrev pub ComesOf : {W T E : Type 0} → Machine W → State W → State W → List (List ℕ) → List ℕ → Result T E → Type 0
ComesOf machine old last lines reply (Ok value) = AcceptsAll machine old last lines
ComesOf machine old last lines reply (Err error) = RefusesOne machine old last lines reply

-- lines were answered, and nothing was said or taken
pub record AnswersAll {W T E : Type 0} (machine : Machine W) (lines : List (List ℕ)) (reply : List ℕ) (world after : W) (old new : Outside) (result : Result T E) : Type 0 where
  pub comes : ComesOf machine (state_of world old) (state_of after new) lines reply result
  pub silence : GoesInSilence old new

-- a line was answered by this reply, and nothing was said or taken
pub record AnswersOne {W : Type 0} (machine : Machine W) (line reply : List ℕ) (world after : W) (old new : Outside) : Type 0 where
  pub answers : machine.answers (state_of world old) line reply (state_of after new)
  pub silence : GoesInSilence old new

-- no line that begins with a verb ends the session
pub record GoesOnAfterVerbs {W : Type 0} (machine : Machine W) : Type 0 where
  pub goes_on : (line : List ℕ) → BeginsWithVerb line → machine.ends line ≡ false

-- the room of a line of a sample, which is empty
pub record IsLineRoom (room : Buffer) : Type 0 where
  pub empty : room.bytes ≡ []
  pub spare : 80 ≤ room.spare
