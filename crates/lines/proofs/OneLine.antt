-- One line: it is answered, and its answer is said.
use Rattle.std.proofs.Common.{◌≡◌, ℕ, ◌+◌, ◌<◌, ◌≤◌, ◌↔◌, true, List, [], ◌∷◌, ◌++◌, length, take, Result, IfOk, OnOk, OnErr, refl, sym, ap, ◌∙◌, subst, inl, inr, length-append, length-take, arith}
use Rattle.std.proofs.lemmas.List.{take_all, length-take-le}
use Rattle.std.proofs.lemmas.Bool.{cases_lt}
use Rattle.std.proofs.lemmas.Result.{IfOk-weaker}
use Rattle.host_io.specs.Disk.{DiskState, IsImage}
use Rattle.host_io.specs.Outside.{Moment, Outside, Goes}
use Rattle.host_io.specs.Calls.{CountsSay}
use Rattle.lines.specs.declared.session.Flow.{Flow}
use Rattle.lines.specs.declared.session.Flow.TheVariants.{Goes as GoesOn, Ends}
use Rattle.lines.specs.Lines.{max_line, IsTooLong}
use Rattle.lines.specs.Machine.{Machine, State, Turn, Answers, IsLast, limit_reply}
use Rattle.lines.specs.Crash.{MayStand, MayStandWithin, IsReady, IsWithin, KeepsImages}
use Rattle.lines.specs.Served.{state_of}
use Rattle.lines.specs.Spoken.{IsSaying, SaysAll}
use Rattle.lines.specs.Steps.{IsTurning, AnswersLine}
use Rattle.host_io.proofs.Moments.{begins, joins, weaker}
use Rattle.lines.proofs.Later.{Goes-now}

-- a room that is not full holds the whole line
pub whole_line : (held line : List ℕ) → held ≡ take (max_line + 1) line → length held ≤ max_line → held ≡ line
whole_line held line is short =
    let sizes = ap length is ∙ length-take (max_line + 1) line in
    is ∙ take_all (max_line + 1) line (omega arith)

pub long_line : (held line : List ℕ) → held ≡ take (max_line + 1) line → max_line < length held → IsTooLong line
long_line held line is long =
    let sizes = ap length is ∙ length-take (max_line + 1) line in
    omega arith

-- a moment while a line is being answered
pub record IsHolding {W : Type 0} (machine : Machine W) (state : State W) (line said : List ℕ) (at : Moment) : Type 0 where
  pub silent : at.said ≡ said
  pub images : (image : List ℕ) → IsImage at.disk image → MayStandWithin machine state line image

-- a line was answered, and nothing was said yet
pub record Answered {W : Type 0} (machine : Machine W) (line reply : List ℕ) (world after : W) (old mid : Outside) : Type 0 where
  pub answers : Answers machine (state_of world old) line reply (state_of after mid)
  pub ready : IsReady machine (state_of after mid)
  pub moments : Goes (IsHolding machine (state_of world old) line old.now.said) old mid
  pub quiet : reply ≡ [] → (image : List ℕ) → MayStandWithin machine (state_of world old) line image → machine.allowed (state_of after mid) image
  pub said : mid.now.said ≡ old.now.said
  pub input : mid.input ≡ old.input
  pub disk_faults : old.disk_faults ≤ mid.disk_faults
  pub take_faults : mid.take_faults ≡ old.take_faults
  pub say_faults : mid.say_faults ≡ old.say_faults

-- what may stand where nothing of the reply has been said
stands_first : {W : Type 0} (machine : Machine W) (line reply : List ℕ) (state after : State W) (image : List ℕ)
    → (reply ≡ [] → MayStandWithin machine state line image → machine.allowed after image) → MayStandWithin machine state line image
    → MayStand machine state ((record { line = line; reply = reply; after = after }) ∷ []) 0 image
stands_first machine line [] state after image quiet stands = inl (omega arith, quiet refl stands)
stands_first machine line (byte ∷ reply) state after image quiet stands = inr (omega arith, stands)

-- what may stand where a front of the reply has been said
stands_later : {W : Type 0} (machine : Machine W) (line reply : List ℕ) (state after : State W) (part : ℕ) (image : List ℕ)
    → machine.allowed after image → MayStandWithin machine state line image
    → MayStand machine state ((record { line = line; reply = reply; after = after }) ∷ []) part image
stands_later machine line reply state after part image next stands = elim (cases_lt part (length reply)) [
  | inl short ↦ inr (short, stands)
  | inr whole ↦ inl (whole, next)
]

within_now : {W : Type 0} (machine : Machine W) (line reply : List ℕ) (world after : W) (old mid : Outside)
    → IsReady machine (state_of world old) → Answered machine line reply world after old mid → IsHolding machine (state_of world old) line old.now.said mid.now
within_now machine line reply world after old mid ready answered =
    Goes-now (IsHolding machine (state_of world old) line old.now.said) old mid answered.moments
    (record { silent = refl; images = λ image is. inl (ready.allowed image is) })

-- the moments while it is answered, and while the answer is said
turning : {W T E : Type 0} (machine : Machine W) (line reply : List ℕ) (world after : W) (old mid new : Outside) (result : Result T E) (turn : Turn W)
    → turn ≡ record { line = line; reply = reply; after = state_of after mid }
    → IsReady machine (state_of world old) → Answered machine line reply world after old mid → SaysAll reply mid new result
    → Goes (IsTurning machine (state_of world old) turn old.now) old new
turning {W} machine line reply world after old mid new result turn is ready answered says =
    let this : Turn W = record { line = line; reply = reply; after = state_of after mid } in
    let now = within_now machine line reply world after old mid ready answered in
    let by_answer : (at : Moment) → IsHolding machine (state_of world old) line old.now.said at → IsTurning machine (state_of world old) this old.now at =
    λ at within. record {
      part = 0;
      within = omega arith;
      said = let sizes = ap length within.silent in omega arith;
      images = λ image here. stands_first machine line reply (state_of world old) (state_of after mid) image (λ none. answered.quiet none image) (within.images image here);
    } in
    let by_saying : (at : Moment) → IsSaying reply mid.now at → IsTurning machine (state_of world old) this old.now at =
    λ at saying. record {
      part = saying.part;
      within = saying.within;
      said = let sizes = ap length saying.said ∙ length-append mid.now.said (take saying.part reply) in
          let same = ap length answered.said in
          let part = length-take-le saying.part reply saying.within in
          omega arith;
      images = λ image here.
          let P : DiskState → Type 0 = λ disk. IsImage disk image in
          let image_of = subst P saying.disk here in
          stands_later machine line reply (state_of world old) (state_of after mid) saying.part image (answered.ready.allowed image image_of) (now.images image image_of);
    } in
    let Q : Turn W → Type 0 = λ t. Goes (IsTurning machine (state_of world old) t old.now) old new in
    subst Q (sym is) (joins (weaker by_answer answered.moments) (weaker by_saying says.moments))

-- the line is answered and its answer said, whole or in part
pub answers_line : {W T E : Type 0} (machine : Machine W) (line reply : List ℕ) (world after : W) (old mid new : Outside) (result : Result T E) (outcome : Result Flow E)
    → IsReady machine (state_of world old) → Answered machine line reply world after old mid
    → (says : SaysAll reply mid new result) → CountsSay mid new result
    → OnOk outcome (says.part ≡ length reply) → OnErr outcome (says.part < length reply) → IfOk outcome (λ flow. (flow ≡ Ends) ↔ IsLast machine line)
    → AnswersLine machine line world after old new outcome
answers_line {W} machine line reply world after old mid new result outcome ready answered says counts ok err ends =
    let disk = says.disk in
    let faults = counts.disk in
    let same : state_of after mid ≡ state_of after new = rw (disk, faults) refl in
    let moments = turning machine line reply world after old mid new result _ refl ready answered says in
    record {
      turn = record { line = line; reply = reply; after = state_of after mid };
      asked = refl;
      answers = answered.answers;
      left = same;
      ends = ends;
      part = says.part;
      spoke = says.spoke ∙ ap (λ (x : List ℕ). x ++ take says.part reply) answered.said;
      ok = ok;
      err = err;
      input = says.input ∙ answered.input;
      moments = moments;
      later = record {
        moments = weaker (λ at turn. let said = turn.said in omega arith) moments;
        disk_faults = let first = answered.disk_faults in omega arith;
        take_faults = let first = answered.take_faults in let then = counts.takes in omega arith;
        say_faults = let first = answered.say_faults in let then = counts.says.later in omega arith;
      };
      before = λ image allowed. stands_first machine line reply (state_of world old) (state_of after mid) image (λ none. answered.quiet none image) (inl allowed);
    }

-- a line that is too long
pub Answered-limit : {W : Type 0} (machine : Machine W) (line : List ℕ) (world : W) (outside : Outside)
    → IsTooLong line → IsReady machine (state_of world outside) → Answered machine line limit_reply world world outside outside
Answered-limit machine line world outside long ready = record {
  answers = inl (long, refl, refl);
  ready = ready;
  moments = begins outside;
  quiet = λ none. absurd (let sizes : 12 ≡ 0 = ap length none in omega arith);
  said = refl;
  input = refl;
  disk_faults = omega arith;
  take_faults = refl;
  say_faults = refl;
}

-- a line that is too long doesn't end the session
pub goes_on-limit : {W : Type 0} (machine : Machine W) (line : List ℕ) → IsTooLong line → (GoesOn ≡ Ends) ↔ IsLast machine line
goes_on-limit machine line long = (λ is. cc, λ last. absurd (last.0 long))

-- whether a line that was looked at does
pub ends-short : {W : Type 0} (machine : Machine W) (line : List ℕ) (flow : Flow) → (¬ IsTooLong line) → ((flow ≡ Ends) ↔ (machine.ends line ≡ true)) → (flow ≡ Ends) ↔ IsLast machine line
ends-short machine line flow short ends = (λ is. (short, ends.0 is), λ last. ends.1 last.1)

-- a line that the session answered
pub answers_short : {W T E : Type 0} (machine : Machine W) (held line reply bytes : List ℕ) (world after : W) (old mid new : Outside) (result : Result T E) (outcome : Result Flow E)
    → held ≡ take (max_line + 1) line → length held ≤ max_line → IsReady machine (state_of world old)
    → machine.answers (state_of world old) held reply (state_of after mid) → IsReady machine (state_of after mid)
    → Goes (IsWithin machine (state_of world old) held old.now.said) old mid → (reply ≡ [] → KeepsImages machine (state_of world old) held (state_of after mid))
    → mid.now.said ≡ old.now.said → mid.input ≡ old.input
    → old.disk_faults ≤ mid.disk_faults → mid.take_faults ≡ old.take_faults → mid.say_faults ≡ old.say_faults
    → bytes ≡ reply → (says : SaysAll bytes mid new result) → CountsSay mid new result
    → OnOk outcome (says.part ≡ length bytes) → OnErr outcome (says.part < length bytes) → IfOk outcome (λ flow. (flow ≡ Ends) ↔ (machine.ends held ≡ true))
    → AnswersLine machine line world after old new outcome
answers_short {W} {T} {E} machine held line reply bytes world after old mid new result outcome is short ready answers ready' moments quiet said input disk_faults take_faults say_faults same says counts ok err ends =
    let fits : ¬ IsTooLong held = λ long. omega arith in
    let answered : Answered machine held reply world after old mid = record {
      answers = inr (fits, answers);
      ready = ready';
      moments = weaker (λ at within. record {
        silent = within.silent;
        images = λ image here. elim (within.images image here) [
          | inl before ↦ inl before
          | inr going ↦ inr (fits, going)
        ];
      }) moments;
      quiet = λ none image stands. quiet none image (elim stands [
        | inl before ↦ inl before
        | inr going ↦ inr going.1
      ]);
      said = said;
      input = input;
      disk_faults = disk_faults;
      take_faults = take_faults;
      say_faults = say_faults;
    } in
    let Q : List ℕ → Type 0 = λ line'. AnswersLine machine line' world after old new outcome in
    let R : List ℕ → Type 0 = λ reply'. (says' : SaysAll reply' mid new result) → OnOk outcome (says'.part ≡ length reply') → OnErr outcome (says'.part < length reply') → AnswersLine machine held world after old new outcome in
    subst Q (whole_line held line is short)
    (subst R (sym same) (λ says' ok' err'. answers_line machine held reply world after old mid new result outcome ready answered says' counts ok' err'
    (IfOk-weaker outcome (λ flow. (flow ≡ Ends) ↔ (machine.ends held ≡ true)) (λ flow. (flow ≡ Ends) ↔ IsLast machine held) (λ flow e. ends-short machine held flow fits e) ends)) says ok err)
