-- Lines that the program says by itself, and what their saying means for a run.
use Rattle.std.proofs.Common.{◌≡◌, ◌≢◌, ℕ, ◌<◌, true, false, List, [], length, take, drop, Result, Ok, Err, is_err, refl, sym, ap, ◌∙◌, subst, inl, inr, arith}
use Rattle.std.proofs.lemmas.List.{take-append-drop, take_all, length-take-le}
use Rattle.host_io.specs.Outside.{Goes, Moment, Outside}
use Rattle.host_io.specs.Calls.{CountsDisk, CountsFaults, CountsSay, Looks, Rose, StandsStill}
use Rattle.host_io.proofs.Moments.{begins_still, joins, weaker}
use Rattle.lines.specs.Spoken.{SaysAll}
use Rattle.lines.specs.Lines.{max_budget}
use Rattle.lines.specs.Served.{Serves, state_of}
use Rattle.lines.specs.declared.serving.End.{End}
use Rattle.lines.specs.declared.serving.End.TheVariants.{Done, TakeFault, SayFault, TooMuch}
use Rattle.session.specs.Disk.{IsSteady}
use Rattle.session.specs.Step.{machine}
use Rattle.session.specs.Starting.{IsStartRefusal}
use Rattle.session.specs.World.{World}
use Rattle.session.specs.declared.starting.StartError.{StartError}
use Rattle.session.specs.declared.starting.StartError.TheVariants as error
use Rattle.storage.specs.Spaces.{Reports}
use Rattle.storage.specs.declared.mode.Mode.{Mode}
use Rattle.storage.specs.declared.space.Report.{Report}
use Rattle.streaming.specs.Saving.{IsSavedOf}
use Rattle.viewers.specs.Meanings.{Meaning}
use Rattle.shell.specs.Faults.{IsFault, fault_of}
use Rattle.shell.specs.Said.{IsSilent, SaysOnly, Speaks, fault_line, greeting_line}
use Rattle.streaming.specs.Silence.{GoesInSilence}
use Rattle.shell.specs.declared.fault.FileFault.{FileFault}
use Rattle.shell.specs.declared.fault.FileFault.TheVariants.{Empty, NotAStore, Damaged}
use Rattle.shell.specs.Statuses.{status_of}
use Rattle.shell.specs.declared.status.Status.{Status}
use Rattle.shell.specs.declared.status.Status.TheVariants as status
use Rattle.shell.specs.Ran.{GreetsInPart, IsServed, Opens, RanChecking, RanFrom, RanSaving, RanServing, RefusesFile, SaysLine, SaysReport, ServesAs, ServesFrom, Starts}
use Rattle.shell.proofs.Crashing.{safe_greeting, safe_greeting_since, safe_in_part, safe_serving, safe_serving_since}

-- what was said of a line is a front of it
pub speaks_part : {T E : Type 0} (line : List ℕ) (old new : Outside) (result : Result T E)
    → (says : SaysAll line old new result) → CountsSay old new result → Speaks line (take says.part line) old new
speaks_part line old new result says counts = record {
  prefix = (drop says.part line, sym (take-append-drop says.part line));
  spoke = says.spoke;
  disk = says.disk;
  input = says.input;
  moments = says.moments;
  disk_faults = counts.disk;
  take_faults = counts.takes;
  say_faults = counts.says.later;
}

-- a line that was said to its end was said whole
pub speaks_whole : {T E : Type 0} (line : List ℕ) (old new : Outside) (result : Result T E)
    → is_err result ≡ false → SaysAll line old new result → CountsSay old new result → Speaks line line old new
speaks_whole line old new (Ok value) fine says counts =
    let all : take says.part line ≡ line = take_all says.part line (omega (arith, says.ok)) in
    subst (λ (front : List ℕ). Speaks line front old new) all (speaks_part line old new (Ok value) says counts)
speaks_whole line old new (Err error) fine says counts = absurd (cc)

-- no call was made
pub silent_none : (outside : Outside) → IsSilent outside outside
silent_none outside = record { now = refl; past = refl; input = refl; disk_faults = omega arith; take_faults = refl; say_faults = refl }

-- one look after another
pub silent_joins : (old mid new : Outside) → IsSilent old mid → IsSilent mid new → IsSilent old new
silent_joins old mid new first then =
    let a = first.disk_faults in let b = then.disk_faults in
    record {
      now = then.now ∙ first.now;
      past = then.past ∙ first.past;
      input = then.input ∙ first.input;
      disk_faults = omega arith;
      take_faults = then.take_faults ∙ first.take_faults;
      say_faults = then.say_faults ∙ first.say_faults;
    }

-- a call that looks at the disk, and calls that do
pub silent_look : {T E : Type 0} {result : Result T E} (old new : Outside) → Looks old new → CountsDisk old new result → IsSilent old new
silent_look old new looks counts = record {
  now = looks.still.now;
  past = looks.still.past;
  input = looks.input;
  disk_faults = counts.disk.later;
  take_faults = counts.takes;
  say_faults = counts.says;
}

pub silent_looks : (failed : Type 0) (old new : Outside) → Looks old new → CountsFaults failed old new → IsSilent old new
silent_looks failed old new looks counts = record {
  now = looks.still.now;
  past = looks.still.past;
  input = looks.input;
  disk_faults = counts.later;
  take_faults = counts.takes;
  say_faults = counts.says;
}

pub silence_of : (old new : Outside) → IsSilent old new → GoesInSilence old new
silence_of old new silent = record {
  said = ap (λ (m : Moment). m.said) silent.now;
  input = silent.input;
  moments = begins_still (record { now = silent.now; past = silent.past });
  disk_faults = silent.disk_faults;
  take_faults = silent.take_faults;
  say_faults = silent.say_faults;
}

-- one silence after another
pub silence_joins : (old mid new : Outside) → GoesInSilence old mid → GoesInSilence mid new → GoesInSilence old new
silence_joins old mid new first then =
    let a = first.disk_faults in let b = then.disk_faults in
    record {
      said = then.said ∙ first.said;
      input = then.input ∙ first.input;
      moments = joins first.moments (weaker (λ (at : Moment) (same : at.said ≡ mid.now.said). same ∙ first.said) then.moments);
      disk_faults = omega arith;
      take_faults = then.take_faults ∙ first.take_faults;
      say_faults = then.say_faults ∙ first.say_faults;
    }

pub says_only : {T E : Type 0} (line : List ℕ) (old new : Outside) (result : Result T E)
    → SaysAll line old new result → CountsSay old new result → SaysOnly line old new
says_only line old new (Ok value) says counts = record {
  looked = old;
  looks = silent_none old;
  said = line;
  part = speaks_whole line old new (Ok value) refl says counts;
  whole = inl refl;
}
says_only line old new (Err error) says counts = record {
  looked = old;
  looks = silent_none old;
  said = take says.part line;
  part = speaks_part line old new (Err error) says counts;
  whole = inr (counts.says.cause refl);
}

-- a line that was said after a look at the disk
pub says_only-after : (line : List ℕ) (old looked new : Outside) → IsSilent old looked → SaysOnly line looked new → SaysOnly line old new
says_only-after line old looked new silent says = record {
  looked = says.looked;
  looks = silent_joins old looked says.looked silent says.looks;
  said = says.said;
  part = says.part;
  whole = elim says.whole [ inl whole ↦ inl whole | inr rose ↦ inr (subst (λ (n : ℕ). Rose n new.say_faults) silent.say_faults rose) ];
}

greeting_some : (number : ℕ) → 0 < length (greeting_line number)
greeting_some number = omega arith

-- a greeting that the output did not take whole
pub greets_in_part : {T E : Type 0} (world : World) (opened new : Outside) (result : Result T E)
    → is_err result ≡ true → SaysAll (greeting_line world.store.kept.number) opened new result → CountsSay opened new result → IsSteady (state_of world opened) → GreetsInPart world opened opened new
greets_in_part world opened new (Ok value) failed says counts steady = absurd (cc)
greets_in_part world opened new (Err error) failed says counts steady =
    let line = greeting_line world.store.kept.number in
    let part = speaks_part line opened new (Err error) says counts in
    record {
      said = take says.part line;
      part = part;
      short = omega (arith, length-take-le says.part line says.within, says.err);
      greets = safe_in_part line (take says.part line) world opened new steady part;
    }

-- a run that was greeted and served
serves_from : {T E : Type 0} (viewers : List Meaning) (end : End) (world : World) (opened greeted new : Outside) (last : World) (result : Result T E)
    → is_err result ≡ false → SaysAll (greeting_line world.store.kept.number) opened greeted result → CountsSay opened greeted result → IsSteady (state_of world opened)
    → Serves (machine viewers) max_budget end world last greeted new → ServesFrom viewers world end opened opened new
serves_from viewers end world opened greeted new last result fine says counts steady serves =
    let number = world.store.kept.number in
    let line = greeting_line number in
    let speaks = speaks_whole line opened greeted result fine says counts in
    record {
      greeted = greeted;
      greeting = speaks;
      last = last;
      serves = serves;
      greets = safe_greeting viewers end line world last opened greeted new (greeting_some number) speaks serves steady;
      crash = safe_serving viewers end line world last opened greeted new (greeting_some number) speaks serves;
    }

-- the status of lines that were served says what their end says
pub serves_as : (viewers : List Meaning) (end : End) (budget : ℕ) (world after : World) (old new : Outside) → Serves (machine viewers) budget end world after old new → ServesAs viewers (status_of end) budget world after old new
serves_as viewers Done budget world after old new serves = serves
serves_as viewers TakeFault budget world after old new serves = serves
serves_as viewers SayFault budget world after old new serves = serves
serves_as viewers TooMuch budget world after old new serves = serves

pub ran_from : {T E : Type 0} (viewers : List Meaning) (status : Status) (world : World) (opened greeted new : Outside) (last : World) (result : Result T E)
    → is_err result ≡ false → SaysAll (greeting_line world.store.kept.number) opened greeted result → CountsSay opened greeted result → IsSteady (state_of world opened)
    → ServesAs viewers status max_budget world last greeted new → RanFrom viewers world status opened opened new
ran_from viewers status.Done world opened greeted new last result fine says counts steady serves = serves_from viewers Done world opened greeted new last result fine says counts steady serves
ran_from viewers status.TakeFault world opened greeted new last result fine says counts steady serves = serves_from viewers TakeFault world opened greeted new last result fine says counts steady serves
ran_from viewers status.TooMuch world opened greeted new last result fine says counts steady serves = serves_from viewers TooMuch world opened greeted new last result fine says counts steady serves
ran_from viewers status.SayFault world opened greeted new last result fine says counts steady serves = inr (serves_from viewers SayFault world opened greeted new last result fine says counts steady serves)
ran_from viewers status.Usage world opened greeted new last result fine says counts steady serves = absurd serves
ran_from viewers status.Refused world opened greeted new last result fine says counts steady serves = absurd serves
ran_from viewers status.Memory world opened greeted new last result fine says counts steady serves = absurd serves
ran_from viewers status.DiskFault world opened greeted new last result fine says counts steady serves = absurd serves

-- a run that was greeted, seen from before its file was opened
serves_since : (viewers : List Meaning) (end : End) (world : World) (old opened new : Outside) → GoesInSilence old opened → ServesFrom viewers world end opened opened new → ServesFrom viewers world end old opened new
serves_since viewers end world old opened new silence from =
    let number = world.store.kept.number in
    let line = greeting_line number in
    let goes : Goes (λ at. Unit {0}) opened new = joins (weaker (λ at held. tt) from.greeting.moments) (weaker (λ at held. tt) from.serves.later.moments) in
    record {
      greeted = from.greeted;
      greeting = from.greeting;
      last = from.last;
      serves = from.serves;
      greets = safe_greeting_since old opened new silence goes (state_of world opened) (length line) from.greets;
      crash = safe_serving_since old opened new silence goes viewers (state_of world opened) from.serves.turns (length line) (greeting_some number) from.crash;
    }

greets_since : (world : World) (old opened new : Outside) → GoesInSilence old opened → GreetsInPart world opened opened new → GreetsInPart world old opened new
greets_since world old opened new silence part = record {
  said = part.said;
  part = part.part;
  short = part.short;
  greets = safe_greeting_since old opened new silence part.part.moments (state_of world opened) (length (greeting_line world.store.kept.number)) part.greets;
}

pub ran_since : (viewers : List Meaning) (status : Status) (world : World) (old opened new : Outside) → GoesInSilence old opened → RanFrom viewers world status opened opened new → RanFrom viewers world status old opened new
ran_since viewers status.Done world old opened new silence ran = serves_since viewers Done world old opened new silence ran
ran_since viewers status.TakeFault world old opened new silence ran = serves_since viewers TakeFault world old opened new silence ran
ran_since viewers status.TooMuch world old opened new silence ran = serves_since viewers TooMuch world old opened new silence ran
ran_since viewers status.SayFault world old opened new silence ran = elim ran [
  | inl part ↦ inl (greets_since world old opened new silence part)
  | inr served ↦ inr (serves_since viewers SayFault world old opened new silence served)
]
ran_since viewers status.Usage world old opened new silence ran = absurd ran
ran_since viewers status.Refused world old opened new silence ran = absurd ran
ran_since viewers status.Memory world old opened new silence ran = absurd ran
ran_since viewers status.DiskFault world old opened new silence ran = absurd ran

pub opens_of : (old new : Outside) → IsSilent old new → Opens old new
opens_of old new silent = record { silence = silence_of old new silent; untouched = λ some. record { now = silent.now; past = silent.past } }

-- a file that was opened in silence
pub opened_by : (failed : Type 0) (old opened : Outside) → CountsFaults failed old opened → opened.now.said ≡ old.now.said → opened.input ≡ old.input → Goes (λ at. at.said ≡ old.now.said) old opened
    → (old.now.disk.seen ≢ [] → StandsStill old opened) → Opens old opened
opened_by failed old opened counts said input moments untouched = record {
  silence = record { said = said; input = input; moments = moments; disk_faults = counts.later; take_faults = counts.takes; say_faults = counts.says };
  untouched = untouched;
}

-- a run that was served began with what the file stands for
pub ran_serving : (viewers : List Meaning) (mode : Mode) (cap : ℕ) (status : Status) (old opened new : Outside) (world : World) → Starts mode cap old opened world → IsServed status → RanFrom viewers world status opened opened new
    → RanServing viewers mode cap status old new
ran_serving viewers mode cap status.Done old opened new world starts served ran = record { opened = opened; world = world; starts = starts; ran = ran_since viewers status.Done world old opened new starts.opens.silence ran }
ran_serving viewers mode cap status.TakeFault old opened new world starts served ran = record { opened = opened; world = world; starts = starts; ran = ran_since viewers status.TakeFault world old opened new starts.opens.silence ran }
ran_serving viewers mode cap status.TooMuch old opened new world starts served ran = record { opened = opened; world = world; starts = starts; ran = ran_since viewers status.TooMuch world old opened new starts.opens.silence ran }
ran_serving viewers mode cap status.SayFault old opened new world starts served ran = record { opened = opened; world = world; starts = starts; ran = ran_since viewers status.SayFault world old opened new starts.opens.silence ran }
ran_serving viewers mode cap status.Usage old opened new world starts served ran = absurd served
ran_serving viewers mode cap status.Refused old opened new world starts served ran = absurd served
ran_serving viewers mode cap status.Memory old opened new world starts served ran = absurd served
ran_serving viewers mode cap status.DiskFault old opened new world starts served ran = absurd served

-- a file that is refused, by why no session was started
pub refuses_file : (failed : Type 0) (mode : Mode) (error : StartError) (fault : FileFault) (old looked new : Outside) → fault_of error ≡ Ok fault → IsStartRefusal mode old looked error → CountsFaults failed old looked
    → SaysOnly (fault_line fault) looked new → RefusesFile mode old new
refuses_file failed mode error.Empty fault old looked new is cause counts says =
    let same : Empty ≡ fault = let f : ◌≡◌ {A = Result FileFault Status} (Ok Empty) (Ok fault) = is in cc in
    (fault, subst (IsFault mode old.now.disk.seen) same (cause.0, cause.1), says_only-after (fault_line fault) old looked new (silent_looks failed old looked cause.2 counts) says)
refuses_file failed mode error.NotAStore fault old looked new is cause counts says =
    let same : NotAStore ≡ fault = let f : ◌≡◌ {A = Result FileFault Status} (Ok NotAStore) (Ok fault) = is in cc in
    (fault, subst (IsFault mode old.now.disk.seen) same (cause.0, cause.1), says_only-after (fault_line fault) old looked new (silent_looks failed old looked cause.2 counts) says)
refuses_file failed mode (error.Damaged place) fault old looked new is cause counts says =
    let same : Damaged place ≡ fault = let f : ◌≡◌ {A = Result FileFault Status} (Ok (Damaged place)) (Ok fault) = is in cc in
    (fault, subst (IsFault mode old.now.disk.seen) same (cause.0, cause.1), says_only-after (fault_line fault) old looked new (silent_looks failed old looked cause.2 counts) says)
refuses_file failed mode error.Failed fault old looked new is cause counts says = absurd (let f : ◌≡◌ {A = Result FileFault Status} (Err status.DiskFault) (Ok fault) = is in cc)
refuses_file failed mode error.Memory fault old looked new is cause counts says = absurd (let f : ◌≡◌ {A = Result FileFault Status} (Err status.Memory) (Ok fault) = is in cc)

-- the status of a run in which the store was not opened
pub unopened : (failed : Type 0) (viewers : List Meaning) (mode : Mode) (cap : ℕ) (error : StartError) (s : Status) (old new : Outside) → fault_of error ≡ Err s → IsStartRefusal mode old new error → CountsFaults failed old new → Opens old new
    → RanServing viewers mode cap s old new
unopened failed viewers mode cap error.Failed s old new is cause counts opens =
    let same : status.DiskFault ≡ s = let f : ◌≡◌ {A = Result FileFault Status} (Err status.DiskFault) (Err s) = is in cc in subst (λ (x : Status). RanServing viewers mode cap x old new) same opens
unopened failed viewers mode cap error.Memory s old new is cause counts opens =
    let same : status.Memory ≡ s = let f : ◌≡◌ {A = Result FileFault Status} (Err status.Memory) (Err s) = is in cc in
    subst (λ (x : Status). RanServing viewers mode cap x old new) same (silent_looks failed old new cause counts)
unopened failed viewers mode cap error.Empty s old new is cause counts opens = absurd (let f : ◌≡◌ {A = Result FileFault Status} (Ok Empty) (Err s) = is in cc)
unopened failed viewers mode cap error.NotAStore s old new is cause counts opens = absurd (let f : ◌≡◌ {A = Result FileFault Status} (Ok NotAStore) (Err s) = is in cc)
unopened failed viewers mode cap (error.Damaged place) s old new is cause counts opens = absurd (let f : ◌≡◌ {A = Result FileFault Status} (Ok (Damaged place)) (Err s) = is in cc)

-- the status of a run that only looks at a store and did not open it: what holds where the disk failed and where memory was wanting
pub unread : (P : Status → Type 0) (error : StartError) (s : Status) → fault_of error ≡ Err s → P status.DiskFault → P status.Memory → P s
unread P error.Failed s is failed lacking = let same : status.DiskFault ≡ s = let f : ◌≡◌ {A = Result FileFault Status} (Err status.DiskFault) (Err s) = is in cc in subst P same failed
unread P error.Memory s is failed lacking = let same : status.Memory ≡ s = let f : ◌≡◌ {A = Result FileFault Status} (Err status.Memory) (Err s) = is in cc in subst P same lacking
unread P error.Empty s is failed lacking = absurd (let f : ◌≡◌ {A = Result FileFault Status} (Ok Empty) (Err s) = is in cc)
unread P error.NotAStore s is failed lacking = absurd (let f : ◌≡◌ {A = Result FileFault Status} (Ok NotAStore) (Err s) = is in cc)
unread P (error.Damaged place) s is failed lacking = absurd (let f : ◌≡◌ {A = Result FileFault Status} (Ok (Damaged place)) (Err s) = is in cc)

-- a line that was said, or that the output did not take whole
pub said_line : {T E : Type 0} (line : List ℕ) (old new : Outside) (value : T) → SaysAll {E = E} line old new (Ok value) → CountsSay {E = E} old new (Ok value) → SaysLine line status.Done old new
said_line line old new value says counts = speaks_whole line old new (Ok value) refl says counts

pub unsaid_line : {E : Type 0} (line : List ℕ) (old new : Outside) (error : E) → SaysAll {T = Unit {0}} line old new (Err error) → CountsSay {T = Unit {0}} old new (Err error) → SaysLine line status.SayFault old new
unsaid_line line old new error says counts = (
  take says.part line,
  speaks_part line old new (Err error) says counts,
  omega (arith, length-take-le says.part line says.within, says.err),
)

-- saying a line leaves the state of the disk
pub said_state : (line : List ℕ) (status' : Status) (world : World) (old new : Outside) → SaysLine line status' old new → state_of world new ≡ state_of world old
said_state line status.Done world old new says = let disk = says.disk in let faults = says.disk_faults in rw (disk, faults) refl
said_state line status.SayFault world old new says = let disk = says.1.disk in let faults = says.1.disk_faults in rw (disk, faults) refl
said_state line status.Usage world old new says = absurd says
said_state line status.Refused world old new says = absurd says
said_state line status.TakeFault world old new says = absurd says
said_state line status.Memory world old new says = absurd says
said_state line status.TooMuch world old new says = absurd says
said_state line status.DiskFault world old new says = absurd says

-- a report that was said after the file had been looked at
pub checked : (s : Status) (old looked new : Outside) (report : Report) → IsSilent old looked → Reports old.now.disk.seen report → SaysReport report s looked new → RanChecking s old new
checked status.Done old looked new report silent reports says = record { report = report; reports = reports; looked = looked; looks = silent; says = says }
checked status.SayFault old looked new report silent reports says = record { report = report; reports = reports; looked = looked; looks = silent; says = says }
checked status.Usage old looked new report silent reports says = absurd says
checked status.Refused old looked new report silent reports says = absurd says
checked status.TakeFault old looked new report silent reports says = absurd says
checked status.Memory old looked new report silent reports says = absurd says
checked status.TooMuch old looked new report silent reports says = absurd says
checked status.DiskFault old looked new report silent reports says = absurd says

-- a stream that was said after the file had been looked at
pub saved : (s : Status) (old looked new : Outside) (stream : List ℕ) → IsSilent old looked → IsSavedOf old.now.disk.seen stream → SaysLine stream s looked new → RanSaving s old new
saved status.Done old looked new stream silent is says = record { stream = stream; saved = is; looked = looked; looks = silent; says = says }
saved status.SayFault old looked new stream silent is says = record { stream = stream; saved = is; looked = looked; looks = silent; says = says }
saved status.Usage old looked new stream silent is says = absurd says
saved status.Refused old looked new stream silent is says = absurd says
saved status.TakeFault old looked new stream silent is says = absurd says
saved status.Memory old looked new stream silent is says = absurd says
saved status.TooMuch old looked new stream silent is says = absurd says
saved status.DiskFault old looked new stream silent is says = absurd says
