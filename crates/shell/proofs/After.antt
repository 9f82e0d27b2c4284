-- What comes of a file after a look at it.
use Rattle.std.proofs.Common.{◌≡◌, ◌≢◌, ℕ, ◌+◌, List, [], length, ap, sym, subst, ◌∙◌, inl, inr}
use Rattle.host_io.specs.Outside.{Moment, Outside, moment}
use Rattle.lines.specs.Served.{state_of}
use Rattle.lines.specs.declared.serving.End.{End}
use Rattle.lines.specs.declared.serving.End.TheVariants as ends
use Rattle.session.specs.Starting.{StartsAs}
use Rattle.session.specs.World.{World}
use Rattle.storage.specs.Spaces.{Reports}
use Rattle.storage.specs.declared.mode.Mode.{Mode}
use Rattle.storage.specs.declared.mode.Mode.TheVariants.{Read}
use Rattle.viewers.specs.Meanings.{Meaning}
use Rattle.streaming.specs.Saving.{IsSavedOf}
use Rattle.shell.specs.Crashes.{IsSafeGreeting, IsSafeSample, IsSafeServing}
use Rattle.shell.specs.Faults.{IsFault}
use Rattle.shell.specs.Ran.{Answers, Checks, GreetsInPart, Opens, RanAs, RanChecking, RanFrom, RanSampling, RanSaving, RanServing, RefusesFile, Samples, SamplesFrom, Saves, ServesFrom}
use Rattle.shell.specs.Said.{IsSilent, fault_line, greeting_line}
use Rattle.shell.specs.declared.fault.FileFault.TheVariants.{NotEmpty}
use Rattle.shell.specs.declared.status.Status.{Status}
use Rattle.shell.specs.declared.status.Status.TheVariants.{Done, Usage, Refused, TakeFault, SayFault, Memory, TooMuch, DiskFault}
use Rattle.shell.proofs.Saying.{opens_of, says_only-after, silence_joins, silence_of, silent_joins}
use Rattle.command_line.specs.declared.job.Task.{Task}
use Rattle.command_line.specs.declared.job.Task.TheVariants.{Serve, Check, Sample, Save, Load}

module _ (old looked new : Outside) (silent : IsSilent old looked) where
  same_seen : looked.now.disk.seen ≡ old.now.disk.seen
  same_seen = ap (λ (m : Moment). m.disk.seen) silent.now

  same_moment : moment looked ≡ moment old
  same_moment = ap length silent.past

  same_said : length looked.now.said ≡ length old.now.said
  same_said = ap (λ (m : Moment). length m.said) silent.now

  pub refuses_after : (mode : Mode) → RefusesFile mode looked new → RefusesFile mode old new
  refuses_after mode (fault, cause, said) = (fault, subst (λ (bytes : List ℕ). IsFault mode bytes fault) same_seen cause, says_only-after (fault_line fault) old looked new silent said)

  pub opens_after : (opened : Outside) → Opens looked opened → Opens old opened
  opens_after opened opens = record {
    silence = silence_joins old looked opened (silence_of old looked silent) opens.silence;
    untouched = λ some.
        let then = opens.untouched (subst (λ (bytes : List ℕ). bytes ≢ []) (sym same_seen) some) in
        record { now = then.now ∙ silent.now; past = then.past ∙ silent.past };
  }

  greeting_after : (world : World) (opened : Outside) (more : ℕ) → IsSafeGreeting (state_of world opened) (moment looked) (length looked.now.said) (moment opened) (length looked.now.said + more) new
      → IsSafeGreeting (state_of world opened) (moment old) (length old.now.said) (moment opened) (length old.now.said + more) new
  greeting_after world opened more safe =
      subst (λ (said : ℕ). IsSafeGreeting (state_of world opened) (moment old) said (moment opened) (said + more) new) same_said
      (subst (λ (since : ℕ). IsSafeGreeting (state_of world opened) since (length looked.now.said) (moment opened) (length looked.now.said + more) new) same_moment safe)

  serves_after : (viewers : List Meaning) (end : End) (world : World) (opened : Outside) → ServesFrom viewers world end looked opened new → ServesFrom viewers world end old opened new
  serves_after viewers end world opened from =
      let more = length (greeting_line world.store.kept.number) in
      let state = state_of world opened in
      record {
        greeted = from.greeted;
        greeting = from.greeting;
        last = from.last;
        serves = from.serves;
        greets = greeting_after world opened more from.greets;
        crash = subst (λ (said : ℕ). IsSafeServing viewers state from.serves.turns (moment old) (said + more) new) same_said
            (subst (λ (since : ℕ). IsSafeServing viewers state from.serves.turns since (length looked.now.said + more) new) same_moment from.crash);
      }

  greets_after : (world : World) (opened : Outside) → GreetsInPart world looked opened new → GreetsInPart world old opened new
  greets_after world opened part = record {
    said = part.said;
    part = part.part;
    short = part.short;
    greets = greeting_after world opened (length (greeting_line world.store.kept.number)) part.greets;
  }

  ran_from_after : (viewers : List Meaning) (status : Status) (world : World) (opened : Outside) → RanFrom viewers world status looked opened new → RanFrom viewers world status old opened new
  ran_from_after viewers Done world opened ran = serves_after viewers ends.Done world opened ran
  ran_from_after viewers TakeFault world opened ran = serves_after viewers ends.TakeFault world opened ran
  ran_from_after viewers TooMuch world opened ran = serves_after viewers ends.TooMuch world opened ran
  ran_from_after viewers SayFault world opened ran = elim ran [
    | inl part ↦ inl (greets_after world opened part)
    | inr served ↦ inr (serves_after viewers ends.SayFault world opened served)
  ]
  ran_from_after viewers Usage world opened ran = ran
  ran_from_after viewers Refused world opened ran = ran
  ran_from_after viewers Memory world opened ran = ran
  ran_from_after viewers DiskFault world opened ran = ran

  pub answers_after : (viewers : List Meaning) (mode : Mode) (cap : ℕ) (status : Status) → Answers viewers mode cap status looked new → Answers viewers mode cap status old new
  answers_after viewers mode cap status a = record {
    opened = a.opened;
    world = a.world;
    starts = record {
      opens = opens_after a.opened a.starts.opens;
      starts = subst (λ (bytes : List ℕ). StartsAs mode cap bytes (state_of a.world a.opened)) same_seen a.starts.starts;
    };
    ran = ran_from_after viewers status a.world a.opened a.ran;
  }

  pub checks_after : (status : Status) → Checks status looked new → Checks status old new
  checks_after status c = record {
    report = c.report;
    reports = subst (λ (bytes : List ℕ). Reports bytes c.report) same_seen c.reports;
    looked = c.looked;
    looks = silent_joins old looked c.looked silent c.looks;
    says = c.says;
  }

  pub samples_from_after : (viewers : List Meaning) (number edits : ℕ) (world : World) (status : Status) (opened : Outside) → SamplesFrom viewers number edits world status looked opened new
      → SamplesFrom viewers number edits world status old opened new
  samples_from_after viewers number edits world status opened s = record {
    answered = s.answered;
    last = s.last;
    line = s.line;
    outcome = s.outcome;
    silence = s.silence;
    says = s.says;
    told = subst (λ (said : ℕ). IsSafeSample (state_of s.last new) (moment old) said new) same_said
        (subst (λ (since : ℕ). IsSafeSample (state_of s.last new) since (length looked.now.said) new) same_moment s.told);
    crash = s.crash;
  }

  pub samples_after : (viewers : List Meaning) (number edits : ℕ) (mode : Mode) (cap : ℕ) (status : Status) → Samples viewers number edits mode cap status looked new → Samples viewers number edits mode cap status old new
  samples_after viewers number edits mode cap status s = record {
    empty = sym same_seen ∙ s.empty;
    opened = s.opened;
    world = s.world;
    starts = record {
      opens = opens_after s.opened s.starts.opens;
      starts = subst (λ (bytes : List ℕ). StartsAs mode cap bytes (state_of s.world s.opened)) same_seen s.starts.starts;
    };
    sampled = samples_from_after viewers number edits s.world status s.opened s.sampled;
  }

  pub saves_after : (status : Status) → Saves status looked new → Saves status old new
  saves_after status s = record {
    stream = s.stream;
    saved = subst (λ (bytes : List ℕ). IsSavedOf bytes s.stream) same_seen s.saved;
    looked = s.looked;
    looks = silent_joins old looked s.looked silent s.looks;
    says = s.says;
  }

pub ran_sampling_after : (old looked new : Outside) → IsSilent old looked → (viewers : List Meaning) (number edits : ℕ) (mode : Mode) (cap : ℕ) (status : Status) → RanSampling viewers number edits mode cap status looked new
    → RanSampling viewers number edits mode cap status old new
ran_sampling_after old looked new silent viewers number edits mode cap Usage ran = ran
ran_sampling_after old looked new silent viewers number edits mode cap Refused ran = ((λ none. ran.0 (same_seen old looked new silent ∙ none)), says_only-after (fault_line NotEmpty) old looked new silent ran.1)
ran_sampling_after old looked new silent viewers number edits mode cap Memory ran = silent_joins old looked new silent ran
ran_sampling_after old looked new silent viewers number edits mode cap DiskFault ran = opens_after old looked new silent new ran
ran_sampling_after old looked new silent viewers number edits mode cap Done ran = samples_after old looked new silent viewers number edits mode cap Done ran
ran_sampling_after old looked new silent viewers number edits mode cap TakeFault ran = ran
ran_sampling_after old looked new silent viewers number edits mode cap TooMuch ran = ran
ran_sampling_after old looked new silent viewers number edits mode cap SayFault ran = samples_after old looked new silent viewers number edits mode cap SayFault ran

pub ran_serving_after : (viewers : List Meaning) (mode : Mode) (cap : ℕ) (status : Status) (old looked new : Outside) → IsSilent old looked → RanServing viewers mode cap status looked new → RanServing viewers mode cap status old new
ran_serving_after viewers mode cap Usage old looked new silent ran = ran
ran_serving_after viewers mode cap Refused old looked new silent ran = refuses_after old looked new silent mode ran
ran_serving_after viewers mode cap Memory old looked new silent ran = silent_joins old looked new silent ran
ran_serving_after viewers mode cap DiskFault old looked new silent ran = opens_after old looked new silent new ran
ran_serving_after viewers mode cap Done old looked new silent ran = answers_after old looked new silent viewers mode cap Done ran
ran_serving_after viewers mode cap TakeFault old looked new silent ran = answers_after old looked new silent viewers mode cap TakeFault ran
ran_serving_after viewers mode cap TooMuch old looked new silent ran = answers_after old looked new silent viewers mode cap TooMuch ran
ran_serving_after viewers mode cap SayFault old looked new silent ran = answers_after old looked new silent viewers mode cap SayFault ran

pub ran_checking_after : (status : Status) (old looked new : Outside) → IsSilent old looked → RanChecking status looked new → RanChecking status old new
ran_checking_after Usage old looked new silent ran = ran
ran_checking_after Refused old looked new silent ran = refuses_after old looked new silent Read ran
ran_checking_after Memory old looked new silent ran = silent_joins old looked new silent ran
ran_checking_after DiskFault old looked new silent ran = silent_joins old looked new silent ran
ran_checking_after Done old looked new silent ran = checks_after old looked new silent Done ran
ran_checking_after TakeFault old looked new silent ran = ran
ran_checking_after TooMuch old looked new silent ran = ran
ran_checking_after SayFault old looked new silent ran = checks_after old looked new silent SayFault ran

pub ran_saving_after : (status : Status) (old looked new : Outside) → IsSilent old looked → RanSaving status looked new → RanSaving status old new
ran_saving_after Usage old looked new silent ran = ran
ran_saving_after Refused old looked new silent ran = refuses_after old looked new silent Read ran
ran_saving_after Memory old looked new silent ran = silent_joins old looked new silent ran
ran_saving_after DiskFault old looked new silent ran = silent_joins old looked new silent ran
ran_saving_after Done old looked new silent ran = saves_after old looked new silent Done ran
ran_saving_after TakeFault old looked new silent ran = ran
ran_saving_after TooMuch old looked new silent ran = ran
ran_saving_after SayFault old looked new silent ran = saves_after old looked new silent SayFault ran

-- a job for which memory was wanting before the file was attached, or whose file was not attached
pub lacks_memory : (viewers : List Meaning) (task : Task) (mode : Mode) (cap : ℕ) (old new : Outside) → IsSilent old new → RanAs viewers task mode cap Memory old new
lacks_memory viewers Serve mode cap old new silent = silent
lacks_memory viewers Check mode cap old new silent = silent
lacks_memory viewers (Sample number edits) mode cap old new silent = silent
lacks_memory viewers Save mode cap old new silent = silent
lacks_memory viewers Load mode cap old new silent = inl silent

pub not_attached : (viewers : List Meaning) (task : Task) (mode : Mode) (cap : ℕ) (old new : Outside) → IsSilent old new → RanAs viewers task mode cap DiskFault old new
not_attached viewers Serve mode cap old new silent = opens_of old new silent
not_attached viewers Check mode cap old new silent = silent
not_attached viewers (Sample number edits) mode cap old new silent = opens_of old new silent
not_attached viewers Save mode cap old new silent = silent
not_attached viewers Load mode cap old new silent = inl silent
