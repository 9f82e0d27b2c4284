-- What comes of a sample, and that it is made in a store that may be written.
use Rattle.std.proofs.Common.{◌≡◌, ◌≢◌, ℕ, true, false, List, [], Result, Ok, Err, is_err, OnOk, subst}
use Rattle.command_line.specs.Words.{AsksFor}
use Rattle.command_line.specs.declared.job.Job.{Job}
use Rattle.command_line.specs.declared.job.Task.{Task}
use Rattle.command_line.specs.declared.job.Task.TheVariants.{Serve, Check, Sample, Save, Load}
use Rattle.command_line.proofs.Tasks.{sample_writes}
use Rattle.host_io.specs.Calls.{CountsFaults}
use Rattle.host_io.specs.Outside.{Goes, Outside}
use Rattle.host_io.proofs.Moments.{joins, weaker}
use Rattle.lines.specs.Machine.{Machine, State}
use Rattle.lines.specs.Served.{state_of}
use Rattle.session.specs.Starting.{IsStartRefusal}
use Rattle.session.specs.World.{World}
use Rattle.session.specs.declared.starting.StartError.{StartError}
use Rattle.session.specs.declared.starting.StartError.TheVariants as error
use Rattle.storage.specs.declared.mode.Mode.{Mode}
use Rattle.storage.specs.declared.mode.Mode.TheVariants.{Read}
use Rattle.viewers.specs.Meanings.{Meaning}
use Rattle.shell.specs.Faults.{fault_of}
use Rattle.shell.specs.Ran.{IsWritten, Opens, RanSampling, SamplesFrom, SaysLine, Starts}
use Rattle.streaming.specs.Silence.{GoesInSilence}
use Rattle.shell.specs.Sampled.{AcceptsAll, ComesOf, RefusesOne}
use Rattle.shell.specs.declared.fault.FileFault.{FileFault}
use Rattle.shell.specs.declared.status.Status.{Status}
use Rattle.shell.specs.declared.status.Status.TheVariants as status
use Rattle.shell.proofs.Crashing.{safe_sample_since}
use Rattle.shell.proofs.Saying.{silent_looks}

module _ {W T E : Type 0} (machine : Machine W) (old last : State W) (lines : List (List ℕ)) (reply : List ℕ) where
  pub refused_of : (result : Result T E) → is_err result ≡ true → ComesOf machine old last lines reply result → RefusesOne machine old last lines reply
  refused_of (Ok value) failed comes = absurd (cc)
  refused_of (Err error) failed comes = comes

  pub accepted_of : (result : Result T E) → is_err result ≡ false → ComesOf machine old last lines reply result → AcceptsAll machine old last lines
  accepted_of (Ok value) fine comes = comes
  accepted_of (Err error) fine comes = absurd (cc)

pub of_ok : {T E P : Type 0} (result : Result T E) → is_err result ≡ false → OnOk result P → P
of_ok (Ok value) fine holds = holds
of_ok (Err error) fine holds = absurd (cc)

pub written : (words : List (List ℕ)) (job : Job) (task : Task) → job.task ≡ task → AsksFor words job → IsWritten task job.mode
written words job Serve is asks = tt
written words job Check is asks = tt
written words job Save is asks = tt
written words job Load is asks = tt
written words job (Sample number edits) is asks = sample_writes words job number edits asks is

module _ (viewers : List Meaning) (number edits : ℕ) (mode : Mode) (cap : ℕ) where
  goes_while_said : (line : List ℕ) (s : Status) (old new : Outside) → SaysLine line s old new → Goes (λ at. Unit {0}) old new
  goes_while_said line status.Done old new says = weaker (λ at held. tt) says.moments
  goes_while_said line status.SayFault old new says = weaker (λ at held. tt) says.1.moments
  goes_while_said line status.Usage old new says = absurd says
  goes_while_said line status.Refused old new says = absurd says
  goes_while_said line status.TakeFault old new says = absurd says
  goes_while_said line status.Memory old new says = absurd says
  goes_while_said line status.TooMuch old new says = absurd says
  goes_while_said line status.DiskFault old new says = absurd says

  -- a sample, seen from before its file was opened
  samples_since : (s : Status) (old opened new : Outside) (world : World) → GoesInSilence old opened → SamplesFrom viewers number edits world s opened opened new → SamplesFrom viewers number edits world s old opened new
  samples_since s old opened new world silence from =
      let goes : Goes (λ at. Unit {0}) opened new = joins (weaker (λ at held. tt) from.silence.moments) (goes_while_said from.line s from.answered new from.says) in
      record {
        answered = from.answered;
        last = from.last;
        line = from.line;
        outcome = from.outcome;
        silence = from.silence;
        says = from.says;
        told = safe_sample_since old opened new silence goes (state_of from.last new) from.told;
        crash = from.crash;
      }

  -- a sample whose line was said, whole or in part
  pub ran_sampling : (s : Status) (old opened new : Outside) (world : World) → old.now.disk.seen ≡ [] → Starts mode cap old opened world → SamplesFrom viewers number edits world s opened opened new
      → RanSampling viewers number edits mode cap s old new
  ran_sampling status.Done old opened new world empty starts sampled = record { empty = empty; opened = opened; world = world; starts = starts; sampled = samples_since status.Done old opened new world starts.opens.silence sampled }
  ran_sampling status.SayFault old opened new world empty starts sampled = record { empty = empty; opened = opened; world = world; starts = starts; sampled = samples_since status.SayFault old opened new world starts.opens.silence sampled }
  ran_sampling status.Usage old opened new world empty starts sampled = absurd sampled.says
  ran_sampling status.Refused old opened new world empty starts sampled = absurd sampled.says
  ran_sampling status.TakeFault old opened new world empty starts sampled = absurd sampled.says
  ran_sampling status.Memory old opened new world empty starts sampled = absurd sampled.says
  ran_sampling status.TooMuch old opened new world empty starts sampled = absurd sampled.says
  ran_sampling status.DiskFault old opened new world empty starts sampled = absurd sampled.says

  -- the status of a run in which no store was made
  pub unsampled : (failed : Type 0) (error : StartError) (s : Status) (old new : Outside) → fault_of error ≡ Err s → IsStartRefusal mode old new error → CountsFaults failed old new → Opens old new → RanSampling viewers number edits mode cap s old new
  unsampled failed error.Failed s old new is cause counts opens =
      let same : status.DiskFault ≡ s = let f : ◌≡◌ {A = Result FileFault Status} (Err status.DiskFault) (Err s) = is in cc in
      subst (λ (x : Status). RanSampling viewers number edits mode cap x old new) same opens
  unsampled failed error.Memory s old new is cause counts opens =
      let same : status.Memory ≡ s = let f : ◌≡◌ {A = Result FileFault Status} (Err status.Memory) (Err s) = is in cc in
      subst (λ (x : Status). RanSampling viewers number edits mode cap x old new) same (silent_looks failed old new cause counts)
  unsampled failed error.Empty s old new is cause counts opens = absurd (let f : ◌≡◌ {A = Result FileFault Status} (fault_of error.Empty) (Err s) = is in cc)
  unsampled failed error.NotAStore s old new is cause counts opens = absurd (let f : ◌≡◌ {A = Result FileFault Status} (fault_of error.NotAStore) (Err s) = is in cc)
  unsampled failed (error.Damaged place) s old new is cause counts opens = absurd (let f : ◌≡◌ {A = Result FileFault Status} (fault_of (error.Damaged place)) (Err s) = is in cc)

  -- an empty file that may be written has no fault
  pub no_fault : (error : StartError) (fault : FileFault) (old new : Outside) → fault_of error ≡ Ok fault → mode ≢ Read → old.now.disk.seen ≡ [] → IsStartRefusal mode old new error → ⊥
  no_fault error.Empty fault old new is writes empty cause = writes cause.0
  no_fault error.NotAStore fault old new is writes empty cause = cause.0 empty
  no_fault (error.Damaged place) fault old new is writes empty cause = cause.0 empty
  no_fault error.Failed fault old new is writes empty cause = let f : ◌≡◌ {A = Result FileFault Status} (Err status.DiskFault) (Ok fault) = is in cc
  no_fault error.Memory fault old new is writes empty cause = let f : ◌≡◌ {A = Result FileFault Status} (Err status.Memory) (Ok fault) = is in cc
