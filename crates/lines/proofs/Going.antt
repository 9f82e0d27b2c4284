-- A run, one step after another, and its ends.
use Rattle.std.proofs.Common.{◌≡◌, ℕ, suc, ◌+◌, ◌-◌, ◌<◌, ◌≤◌, List, [], ◌∷◌, ◌++◌, length, take, Result, Ok, Err, refl, sym, ap, ◌∙◌, subst, ◌⊎◌, inl, inr, append_assoc, length-append, length-take, arith}
use Rattle.std.proofs.lemmas.List.{append-nil, take_all}
use Rattle.host_io.specs.Outside.{Moment, Outside, Left, LeftAt, moment, moments}
use Rattle.host_io.specs.Calls.{CountsTake, StandsStill}
use Rattle.lines.specs.declared.session.Flow.{Flow}
use Rattle.lines.specs.declared.session.Flow.TheVariants.{Goes as GoesOn, Ends}
use Rattle.lines.specs.declared.serving.End.TheVariants.{Done, SayFault, TooMuch}
use Rattle.lines.specs.Later.{Advances}
use Rattle.lines.specs.Lines.{newline, max_line, HasNoNewline, last_line, AreLinesOf, AreEndedLinesOf}
use Rattle.lines.specs.Machine.{Machine, State, Turn, Run, IsLast, replies, HasEnded}
use Rattle.lines.specs.Crash.{MayStand, IsReady, IsCrashSafe}
use Rattle.lines.specs.Served.{state_of, Serves}
use Rattle.lines.specs.Steps.{AnswersLine, SoFar}
use Rattle.lines.proofs.Splitting.{Splits-empty, Splits-span, Splits-newline, Splits-ended, some_split, take_more_held}
use Rattle.lines.proofs.Turns.{Run-push, Run-later, HasEnded-push, goes_on-push, replies-push, state_after, state_after-run}
use Rattle.host_io.proofs.Moments.{Left-goes, only_now}
use Rattle.lines.proofs.Later.{Advances-joins, Advances-none, Advances-take}
use Rattle.lines.proofs.Standing.{MayStand-before, MayStand-within}

-- a run that begins
pub SoFar-start : {W : Type 0} (machine : Machine W) (start : W) (begin : Outside) → IsReady machine (state_of start begin)
    → SoFar machine start begin start begin [] [] 0
SoFar-start machine start begin ready = record {
  looked = [];
  came = refl;
  counted = refl;
  lines = [];
  rest = [];
  splits = Splits-empty;
  held = refl;
  turns = [];
  answered = refl;
  goes_on = λ ended. ended;
  spoke = sym (append-nil begin.now.said);
  later = Advances-none begin;
  most = λ image n left. let first = (only_now begin image n left).1 in omega arith;
  crash = λ image n left. ready.allowed image (only_now begin image n left).0;
}

-- bytes are taken
pub SoFar-take : {W T E : Type 0} (machine : Machine W) (start : W) (begin : Outside) (world : W) (old new : Outside) (room bytes : List ℕ) (count : ℕ) (result : Result T E)
    → SoFar machine start begin world old room [] count → old.input ≡ bytes ++ new.input → StandsStill old new → CountsTake old new result
    → SoFar machine start begin world new room bytes count
SoFar-take {W} machine start begin world old new room bytes count result so came still counts =
    let faults = counts.disk in
    let same : moments new ≡ moments old = rw (still.now, still.past) refl in
    let L : List ℕ → ℕ → List Moment → Type 0 = λ image n list. LeftAt (moment begin) list image n in
    let same_state : state_of world new ≡ state_of world old = rw (still.now, faults) refl in
    let R : State W → Type 0 = λ state. Run machine (state_of start begin) so.lines so.turns state in
    let said : new.now.said ≡ old.now.said = ap (λ (at : Moment). at.said) still.now in
    record {
      looked = so.looked;
      came = so.came ∙ ap (λ (x : List ℕ). so.looked ++ x) came;
      counted = so.counted;
      lines = so.lines;
      rest = so.rest;
      splits = so.splits;
      held = so.held;
      turns = so.turns;
      answered = subst R (sym same_state) so.answered;
      goes_on = so.goes_on;
      spoke = said ∙ so.spoke;
      later = Advances-joins begin old new so.later (Advances-take old new still counts);
      most = λ image n left. let h = so.most image n (subst (L image n) same left) in rw said h;
      crash = λ image n left. so.crash image n (subst (L image n) same left);
    }

-- bytes of a line that does not end in them are looked at
pub SoFar-span : {W : Type 0} (machine : Machine W) (start : W) (begin : Outside) (world : W) (outside : Outside) (room room' span ahead : List ℕ) (count : ℕ)
    → SoFar machine start begin world outside room (span ++ ahead) count → HasNoNewline span → room' ≡ take (max_line + 1) (room ++ span)
    → SoFar machine start begin world outside room' ahead (count + length span)
SoFar-span machine start begin world outside room room' span ahead count so none held = record {
  looked = so.looked ++ span;
  came = so.came ∙ (ap (λ (x : List ℕ). so.looked ++ x) (append_assoc span ahead outside.input) ∙ sym (append_assoc so.looked span (ahead ++ outside.input)));
  counted = length-append so.looked span ∙ ap (λ (n : ℕ). n + length span) so.counted;
  lines = so.lines;
  rest = so.rest ++ span;
  splits = Splits-span so.looked span so.lines so.rest so.splits none;
  held = held ∙ (ap (λ (x : List ℕ). take (max_line + 1) (x ++ span)) so.held ∙ take_more_held (max_line + 1) so.rest span);
  turns = so.turns;
  answered = so.answered;
  goes_on = so.goes_on;
  spoke = so.spoke;
  later = so.later;
  most = so.most;
  crash = so.crash;
}

-- a run after one more turn, whose reply was said up to a part
pub record Turned {W : Type 0} (machine : Machine W) (start : W) (begin : Outside) (after : W) (new : Outside) (lines : List (List ℕ)) (before : List (Turn W)) (turn : Turn W) (part : ℕ) : Type 0 where
  pub answered : Run machine (state_of start begin) lines (before ++ turn ∷ []) (state_of after new)
  pub spoke : new.now.said ≡ begin.now.said ++ (replies before ++ take part turn.reply)
  pub later : Advances begin new
  pub most : part ≡ length turn.reply → (image : List ℕ) (n : ℕ) → Left (moment begin) new image n → n ≤ length new.now.said
  pub crash : IsCrashSafe machine (state_of start begin) (before ++ turn ∷ []) (moment begin) (length begin.now.said) new

pub turned : {W E : Type 0} (machine : Machine W) (start : W) (begin : Outside) (world after : W) (old new : Outside) (room ahead : List ℕ) (count : ℕ) (result : Result Flow E)
    → (so : SoFar machine start begin world old room ahead count) → (answer : AnswersLine machine so.rest world after old new result)
    → Turned machine start begin after new (so.lines ++ so.rest ∷ []) so.turns answer.turn answer.part
turned {W} machine start begin world after old new room ahead count result so answer =
    let turn = answer.turn in
    let so_said = ap length so.spoke ∙ length-append begin.now.said (replies so.turns) in
    let R : State W → Type 0 = λ state. Run machine (state_of start begin) (so.lines ++ so.rest ∷ []) (so.turns ++ turn ∷ []) state in
    let state_is : state_after (state_of start begin) so.turns ≡ state_of world old = state_after-run machine (state_of start begin) (state_of world old) so.lines so.turns so.answered in
    let B : List ℕ → State W → Type 0 = λ image s. machine.allowed s image → MayStand machine s (turn ∷ []) 0 image in
    let M : List ℕ → ℕ → State W → Type 0 = λ image part s. MayStand machine s (turn ∷ []) part image in
    let N : List ℕ → ℕ → Type 0 = λ image m. MayStand machine (state_of start begin) (so.turns ++ turn ∷ []) m image in
    record {
      answered = subst R answer.left (Run-push machine (state_of start begin) (state_of world old) so.lines so.turns so.rest turn so.answered so.goes_on answer.asked answer.answers);
      spoke = answer.spoke ∙ (ap (λ (x : List ℕ). x ++ take answer.part turn.reply) so.spoke ∙ append_assoc begin.now.said (replies so.turns) (take answer.part turn.reply));
      later = Advances-joins begin old new so.later answer.later;
      most = λ whole image n left.
          let said = ap length answer.spoke ∙ length-append old.now.said (take answer.part turn.reply) in
          let all = length-take answer.part turn.reply in
          elim (Left-goes (moment begin) image n answer.moments left) [
            | inl past ↦ let before = so.most image n past in omega arith
            | inr now ↦ let here = now.holds.said in let short = now.holds.within in let is = now.said in omega arith
          ];
      crash = λ image n left. elim (Left-goes (moment begin) image n answer.moments left) [
        | inl past ↦
            let short = so.most image n past in
            MayStand-before machine (state_of start begin) so.turns turn (n - length begin.now.said) image (subst (B image) (sym state_is) (answer.before image)) (omega arith) (so.crash image n past)
        | inr now ↦
            let here = now.holds.said in let is = now.said in
            let place : length (replies so.turns) + now.holds.part ≡ n - length begin.now.said = omega arith in
            subst (N image) place (MayStand-within machine (state_of start begin) so.turns turn now.holds.part image (subst (M image now.holds.part) (sym state_is) (now.holds.images image now.is_image)))
      ];
    }

-- the line ends, and the run goes on
pub SoFar-turn : {W E : Type 0} (machine : Machine W) (start : W) (begin : Outside) (world after : W) (old new : Outside) (room ahead : List ℕ) (count : ℕ)
    → (so : SoFar machine start begin world old room (newline ∷ ahead) count) → AnswersLine {E = E} machine so.rest world after old new (Ok GoesOn)
    → SoFar machine start begin after new [] ahead (count + 1)
SoFar-turn {W} machine start begin world after old new room ahead count so answer =
    let turn = answer.turn in
    let done = turned machine start begin world after old new room (newline ∷ ahead) count _ so answer in
    let other : ¬ IsLast machine turn.line = λ last.
    let L : List ℕ → Type 0 = λ line. IsLast machine line in
    let stays : GoesOn ≡ Ends = answer.ends.1 (subst L answer.asked last) in cc in
    record {
      looked = so.looked ++ newline ∷ [];
      came = so.came ∙ (ap (λ (x : List ℕ). so.looked ++ (newline ∷ (ahead ++ x))) (sym answer.input) ∙ sym (append_assoc so.looked (newline ∷ []) (ahead ++ new.input)));
      counted = length-append so.looked (newline ∷ []) ∙ ap (λ (n : ℕ). n + 1) so.counted;
      lines = so.lines ++ so.rest ∷ [];
      rest = [];
      splits = Splits-newline so.looked so.lines so.rest so.splits;
      held = refl;
      turns = so.turns ++ turn ∷ [];
      answered = done.answered;
      goes_on = goes_on-push machine so.turns turn so.goes_on other;
      spoke = let all : length turn.reply ≤ answer.part = let ok = answer.ok in omega arith in
          done.spoke ∙ ap (λ (x : List ℕ). begin.now.said ++ x) (ap (λ (x : List ℕ). replies so.turns ++ x) (take_all answer.part turn.reply all) ∙ sym (replies-push so.turns turn));
      later = done.later;
      most = done.most answer.ok;
      crash = done.crash;
    }

-- the last reply was said whole, and the run is over
Serves-done : {W : Type 0} (machine : Machine W) (budget : ℕ) (start : W) (begin : Outside) (after : W) (new : Outside) (lines later : List (List ℕ)) (before : List (Turn W)) (turn : Turn W) (part : ℕ) (taken : List ℕ)
    → Turned machine start begin after new lines before turn part → part ≡ length turn.reply
    → begin.input ≡ taken ++ new.input → length taken ≤ budget → Run machine (state_of start begin) (lines ++ later) (before ++ turn ∷ []) (state_of after new)
    → ((new.input ≡ []) × AreLinesOf taken (lines ++ later)) ⊎ (HasEnded machine (before ++ turn ∷ []) × AreEndedLinesOf taken (lines ++ later))
    → Serves machine budget Done start after begin new
Serves-done machine budget start begin after new lines later before turn part taken done all came within answered whole = record {
  taken = taken;
  came = came;
  said = replies (before ++ turn ∷ []);
  spoke = let most : length turn.reply ≤ part = omega arith in
      done.spoke ∙ ap (λ (x : List ℕ). begin.now.said ++ x) (ap (λ (x : List ℕ). replies before ++ x) (take_all part turn.reply most) ∙ sym (replies-push before turn));
  turns = before ++ turn ∷ [];
  ends = record { within = within; lines = lines ++ later; whole = whole; answered = answered; spoken = refl };
  later = done.later;
  crash = done.crash;
}

-- the last reply was said in part
Serves-unsaid : {W : Type 0} (machine : Machine W) (budget : ℕ) (start : W) (begin : Outside) (after : W) (new : Outside) (lines later : List (List ℕ)) (before : List (Turn W)) (turn : Turn W) (part : ℕ) (taken : List ℕ)
    → Turned machine start begin after new lines before turn part → part < length turn.reply
    → begin.input ≡ taken ++ new.input → length taken ≤ budget
    → ((new.input ≡ []) × AreLinesOf taken (lines ++ later)) ⊎ AreEndedLinesOf taken (lines ++ later)
    → Serves machine budget SayFault start after begin new
Serves-unsaid machine budget start begin after new lines later before turn part taken done short came within whole = record {
  taken = taken;
  came = came;
  said = replies before ++ take part turn.reply;
  spoke = done.spoke;
  turns = before ++ turn ∷ [];
  ends = record {
    within = within;
    lines = lines;
    later = later;
    whole = whole;
    answered = done.answered;
    before = before;
    final = turn;
    split = refl;
    part = part;
    short = short;
    spoken = refl;
  };
  later = done.later;
  crash = done.crash;
}

-- all bytes that were taken, where a line has ended and others may stand behind it
came_line : {W : Type 0} (machine : Machine W) (start : W) (begin : Outside) (world : W) (old new : Outside) (room ahead : List ℕ) (count : ℕ)
    → (so : SoFar machine start begin world old room (newline ∷ ahead) count) → new.input ≡ old.input
    → begin.input ≡ (so.looked ++ newline ∷ ahead) ++ new.input
came_line machine start begin world old new room ahead count so same =
    so.came ∙ (ap (λ (x : List ℕ). so.looked ++ (newline ∷ (ahead ++ x))) (sym same) ∙ sym (append_assoc so.looked (newline ∷ ahead) new.input))

within_line : {W : Type 0} (machine : Machine W) (budget : ℕ) (start : W) (begin : Outside) (world : W) (old : Outside) (room ahead : List ℕ) (count : ℕ)
    → (so : SoFar machine start begin world old room (newline ∷ ahead) count) → count + (1 + length ahead) ≤ budget
    → length (so.looked ++ newline ∷ ahead) ≤ budget
within_line machine budget start begin world old room ahead count so fits =
    let sizes = length-append so.looked (newline ∷ ahead) in let counted = so.counted in omega arith

-- the line ends, and with it the session
pub Serves-ended : {W E : Type 0} (machine : Machine W) (budget : ℕ) (start : W) (begin : Outside) (world after : W) (old new : Outside) (room ahead : List ℕ) (count : ℕ)
    → (so : SoFar machine start begin world old room (newline ∷ ahead) count) → AnswersLine {E = E} machine so.rest world after old new (Ok Ends)
    → count + (1 + length ahead) ≤ budget → Serves machine budget Done start after begin new
Serves-ended {W} machine budget start begin world after old new room ahead count so answer fits =
    let turn = answer.turn in
    let done = turned machine start begin world after old new room (newline ∷ ahead) count _ so answer in
    let behind = some_split ahead in
    let L : List ℕ → Type 0 = λ line. IsLast machine line in
    let ended = HasEnded-push machine so.turns turn (subst L (sym answer.asked) (answer.ends.0 refl)) in
    Serves-done machine budget start begin after new (so.lines ++ so.rest ∷ []) behind.lines so.turns turn answer.part (so.looked ++ newline ∷ ahead) done answer.ok
    (came_line machine start begin world old new room ahead count so answer.input)
    (within_line machine budget start begin world old room ahead count so fits)
    (Run-later machine (state_of start begin) (state_of after new) (so.lines ++ so.rest ∷ []) behind.lines (so.turns ++ turn ∷ []) done.answered ended)
    (inr (ended, (behind.rest, Splits-ended so.looked ahead so.lines behind.lines so.rest behind.rest so.splits behind.splits)))

-- the line ends, and its reply is not said whole
pub Serves-broken : {W E : Type 0} (machine : Machine W) (budget : ℕ) (start : W) (begin : Outside) (world after : W) (old new : Outside) (room ahead : List ℕ) (count : ℕ) (error : E)
    → (so : SoFar machine start begin world old room (newline ∷ ahead) count) → AnswersLine machine so.rest world after old new (Err error)
    → count + (1 + length ahead) ≤ budget → Serves machine budget SayFault start after begin new
Serves-broken machine budget start begin world after old new room ahead count error so answer fits =
    let done = turned machine start begin world after old new room (newline ∷ ahead) count _ so answer in
    let behind = some_split ahead in
    Serves-unsaid machine budget start begin after new (so.lines ++ so.rest ∷ []) behind.lines so.turns answer.turn answer.part (so.looked ++ newline ∷ ahead) done answer.err
    (came_line machine start begin world old new room ahead count so answer.input)
    (within_line machine budget start begin world old room ahead count so fits)
    (inr (behind.rest, Splits-ended so.looked ahead so.lines behind.lines so.rest behind.rest so.splits behind.splits))

-- the bytes of a rest that is not empty are a line where the input has ended
last_line-some : (rest : List ℕ) → ¬ (rest ≡ []) → last_line rest ≡ rest ∷ []
last_line-some [] some = absurd (some refl)
last_line-some (byte ∷ rest) some = refl

came_all : {W : Type 0} (machine : Machine W) (start : W) (begin : Outside) (world : W) (old new : Outside) (room : List ℕ) (count : ℕ)
    → (so : SoFar machine start begin world old room [] count) → new.input ≡ old.input → begin.input ≡ so.looked ++ new.input
came_all machine start begin world old new room count so same = so.came ∙ ap (λ (x : List ℕ). so.looked ++ x) (sym same)

-- the lines of an input that has ended within a line
AreLinesOf-last : {W : Type 0} (machine : Machine W) (start : W) (begin : Outside) (world : W) (outside : Outside) (room : List ℕ) (count : ℕ)
    → (so : SoFar machine start begin world outside room [] count) → ¬ (room ≡ []) → AreLinesOf so.looked ((so.lines ++ so.rest ∷ []) ++ [])
AreLinesOf-last machine start begin world outside room count so some =
    let rest_some : ¬ (so.rest ≡ []) = λ none. some (so.held ∙ ap (λ (x : List ℕ). take (max_line + 1) x) none) in
    (so.lines, so.rest, so.splits, append-nil (so.lines ++ so.rest ∷ []) ∙ ap (λ (x : List (List ℕ)). so.lines ++ x) (sym (last_line-some so.rest rest_some)))

-- the input ends within a line
pub Serves-last : {W E : Type 0} (machine : Machine W) (budget : ℕ) (start : W) (begin : Outside) (world after : W) (old new : Outside) (room : List ℕ) (count : ℕ) (flow : Flow)
    → (so : SoFar machine start begin world old room [] count) → AnswersLine {E = E} machine so.rest world after old new (Ok flow)
    → old.input ≡ [] → ¬ (room ≡ []) → count ≤ budget → Serves machine budget Done start after begin new
Serves-last machine budget start begin world after old new room count flow so answer over some fits =
    let done = turned machine start begin world after old new room [] count _ so answer in
    let lines = so.lines ++ so.rest ∷ [] in
    let R : List (List ℕ) → Type 0 = λ list. Run machine (state_of start begin) list (so.turns ++ answer.turn ∷ []) (state_of after new) in
    Serves-done machine budget start begin after new lines [] so.turns answer.turn answer.part so.looked done answer.ok
    (came_all machine start begin world old new room count so answer.input)
    (let counted = so.counted in omega arith)
    (subst R (sym (append-nil lines)) done.answered)
    (inl (answer.input ∙ over, AreLinesOf-last machine start begin world old room count so some))

pub Serves-last_broken : {W E : Type 0} (machine : Machine W) (budget : ℕ) (start : W) (begin : Outside) (world after : W) (old new : Outside) (room : List ℕ) (count : ℕ) (error : E)
    → (so : SoFar machine start begin world old room [] count) → AnswersLine machine so.rest world after old new (Err error)
    → old.input ≡ [] → ¬ (room ≡ []) → count ≤ budget → Serves machine budget SayFault start after begin new
Serves-last_broken machine budget start begin world after old new room count error so answer over some fits =
    let done = turned machine start begin world after old new room [] count _ so answer in
    Serves-unsaid machine budget start begin after new (so.lines ++ so.rest ∷ []) [] so.turns answer.turn answer.part so.looked done answer.err
    (came_all machine start begin world old new room count so answer.input)
    (let counted = so.counted in omega arith)
    (inl (answer.input ∙ over, AreLinesOf-last machine start begin world old room count so some))

-- an empty room holds nothing of a line
rest_none : (most : ℕ) (rest : List ℕ) → [] ≡ take (suc most) rest → rest ≡ []
rest_none most [] none = refl
rest_none most (byte ∷ rest) none = cc

-- the input ends behind a newline
pub Serves-over : {W : Type 0} (machine : Machine W) (budget : ℕ) (start : W) (begin : Outside) (world : W) (outside : Outside) (room : List ℕ) (count : ℕ)
    → SoFar machine start begin world outside room [] count → outside.input ≡ [] → room ≡ [] → count ≤ budget
    → Serves machine budget Done start world begin outside
Serves-over machine budget start begin world outside room count so over none fits =
    let empty = rest_none max_line so.rest (sym none ∙ so.held) in
    record {
      taken = so.looked;
      came = so.came;
      said = replies so.turns;
      spoke = so.spoke;
      turns = so.turns;
      ends = record {
        within = let counted = so.counted in omega arith;
        lines = so.lines;
        whole = inl (over, (so.lines, so.rest, so.splits, sym (ap (λ (x : List ℕ). so.lines ++ last_line x) empty ∙ append-nil so.lines)));
        answered = so.answered;
        spoken = refl;
      };
      later = so.later;
      crash = so.crash;
    }

-- one byte more than the budget comes
pub Serves-beyond : {W : Type 0} (machine : Machine W) (budget : ℕ) (start : W) (begin : Outside) (world : W) (outside : Outside) (room : List ℕ) (byte : ℕ)
    → SoFar machine start begin world outside room (byte ∷ []) budget → Serves machine budget TooMuch start world begin outside
Serves-beyond machine budget start begin world outside room byte so = record {
  taken = so.looked ++ byte ∷ [];
  came = so.came ∙ sym (append_assoc so.looked (byte ∷ []) outside.input);
  said = replies so.turns;
  spoke = so.spoke;
  turns = so.turns;
  ends = record {
    front = so.looked;
    byte = byte;
    more = refl;
    full = so.counted;
    lines = so.lines;
    whole = (so.rest, so.splits);
    answered = so.answered;
    spoken = refl;
    goes_on = so.goes_on;
  };
  later = so.later;
  crash = so.crash;
}
