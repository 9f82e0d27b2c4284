-- Lines that are answered in silence, one after another.
use Rattle.std.proofs.Common.{◌≡◌, ℕ, ◌≤◌, true, false, List, [], ◌∷◌, ◌++◌, length, refl, sym, ◌∙◌, subst, inr, append_assoc, arith}
use Rattle.std.proofs.lemmas.Bool.{false≢true}
use Rattle.std.proofs.lemmas.List.{append-nil}
use Rattle.std.proofs.lemmas.List.Elements.{All-append, All-cons, All-nil}
use Rattle.host_io.specs.Outside.{Outside}
use Rattle.lines.specs.Lines.{max_line}
use Rattle.lines.specs.Machine.{Answers, HasEnded, Machine, Run, Turn}
use Rattle.lines.specs.Served.{state_of}
use Rattle.lines.proofs.Turns.{Run-push, goes_on-push}
use Rattle.streaming.specs.Silence.{GoesInSilence}
use Rattle.shell.specs.Sampled.{AcceptsAll, AnswersOne, AreAccepted, RefusesOne, is_refusal}
use Rattle.shell.proofs.Saying.{silence_joins, silence_of, silent_none}

-- Where the lines stand: those in front were answered and accepted, and these are left.
pub record Reaches {W : Type 0} (machine : Machine W) (start : W) (begin : Outside) (world : W) (outside : Outside) (lines left : List (List ℕ)) : Type 0 where
  pub front : List (List ℕ)
  pub lines_are : lines ≡ front ++ left
  pub turns : List (Turn W)
  pub answered : Run machine (state_of start begin) front turns (state_of world outside)
  pub goes_on : ¬ HasEnded machine turns
  pub accepted : AreAccepted turns
  pub silence : GoesInSilence begin outside

pub reaches_none : {W : Type 0} (machine : Machine W) (start : W) (begin : Outside) (lines : List (List ℕ)) → Reaches machine start begin start begin lines lines
reaches_none {W} machine start begin lines = record {
  front = [];
  lines_are = refl;
  turns = [];
  answered = refl;
  goes_on = λ ended. ended;
  accepted = All-nil (λ (turn : Turn W). is_refusal turn.reply ≡ false);
  silence = silence_of begin begin (silent_none begin);
}

module _ {W : Type 0} (machine : Machine W) (start : W) (begin : Outside) (world after : W) (old new : Outside) (lines left : List (List ℕ)) (line reply : List ℕ)
    (short : length line ≤ max_line) (answers : AnswersOne machine line reply world after old new) (so : Reaches machine start begin world old lines (line ∷ left)) where
  turn : Turn W
  turn = record { line = line; reply = reply; after = state_of after new }

  answered_short : Answers machine (state_of world old) line reply (state_of after new)
  answered_short = inr ((λ long. omega (arith, long, short)), answers.answers)

  one_more : Run machine (state_of start begin) (so.front ++ line ∷ []) (so.turns ++ (record { line = line; reply = reply; after = state_of after new }) ∷ []) (state_of after new)
  one_more =
      Run-push machine (state_of start begin) (state_of world old) so.front so.turns line (record { line = line; reply = reply; after = state_of after new }) so.answered so.goes_on refl answered_short

  line_more : lines ≡ (so.front ++ line ∷ []) ++ left
  line_more = so.lines_are ∙ sym (append_assoc so.front (line ∷ []) left)

  -- a line that is accepted
  pub reaches_more : machine.ends line ≡ false → is_refusal reply ≡ false → Reaches machine start begin after new lines left
  reaches_more goes accepted =
      let P : Turn W → Type 0 = λ t. is_refusal t.reply ≡ false in
      let last : Turn W = record { line = line; reply = reply; after = state_of after new } in
      record {
        front = so.front ++ line ∷ [];
        lines_are = line_more;
        turns = so.turns ++ last ∷ [];
        answered = one_more;
        goes_on = goes_on-push machine so.turns last so.goes_on (λ ends. false≢true (sym goes ∙ ends.1));
        accepted = All-append P so.turns (last ∷ []) so.accepted (All-cons P last [] accepted (All-nil P));
        silence = silence_joins begin old new so.silence answers.silence;
      }

  -- the first that is refused
  pub refuses_one : is_refusal reply ≡ true → RefusesOne machine (state_of start begin) (state_of after new) lines reply
  refuses_one refused = record {
    front = so.front ++ line ∷ [];
    later = left;
    lines_are = line_more;
    before = so.turns;
    final = record { line = line; reply = reply; after = state_of after new };
    answered = one_more;
    accepted = so.accepted;
    refused = refused;
    reply_is = refl;
  }

-- no line is left
pub accepts_all : {W : Type 0} (machine : Machine W) (start : W) (begin : Outside) (world : W) (outside : Outside) (lines left : List (List ℕ)) → left ≡ []
    → Reaches machine start begin world outside lines left → AcceptsAll machine (state_of start begin) (state_of world outside) lines
accepts_all {W} machine start begin world outside lines left none so =
    let all : so.front ≡ lines = sym (append-nil so.front) ∙ sym (subst (λ (l : List (List ℕ)). lines ≡ so.front ++ l) none so.lines_are) in
    record {
      turns = so.turns;
      answered = subst (λ (l : List (List ℕ)). Run machine (state_of start begin) l so.turns (state_of world outside)) all so.answered;
      accepted = so.accepted;
    }
