-- What comes of a store that is made of the input.
use Rattle.std.proofs.Common.{◌≡◌, ◌≢◌, ℕ, ◌<◌, List, [], length, Result, Ok, Err, refl, ap, sym, subst, ◌∙◌, inl, inr}
use Rattle.host_io.specs.Calls.{StandsStill}
use Rattle.host_io.specs.Disk.{DiskState, IsImage, settled}
use Rattle.host_io.specs.Outside.{Goes, Left, Moment, Outside, moment}
use Rattle.host_io.proofs.Images.{image_of_settled}
use Rattle.host_io.proofs.Moments.{Left-since, begins_still, joins, weaker}
use Rattle.lines.specs.Lines.{max_budget}
use Rattle.lines.specs.Spoken.{IsSaying}
use Rattle.recovery.specs.Commits.{Commit}
use Rattle.recovery.specs.Standing.{StandsFor}
use Rattle.streaming.specs.Loading.{Loads, LoadsViews}
use Rattle.streaming.specs.declared.error.LoadFault.{LoadFault}
use Rattle.streaming.specs.declared.error.LoadFault.TheVariants as load_fault
use Rattle.shell.specs.Faults.{fault_of_load}
use Rattle.shell.specs.Ran.{LoadsFile, RanLoading, RefusesInput, SaysLine, StopsLoading}
use Rattle.shell.specs.Said.{IsSilent, SaysOnly, fault_line, load_line}
use Rattle.shell.specs.declared.fault.FileFault.{FileFault}
use Rattle.shell.specs.declared.fault.FileFault.TheVariants.{NotEmpty}
use Rattle.shell.specs.declared.status.Status.{Status}
use Rattle.shell.specs.declared.status.Status.TheVariants.{Done, Usage, Refused, TakeFault, SayFault, Memory, TooMuch, DiskFault}
use Rattle.shell.proofs.Crashing.{left_after}
use Rattle.shell.proofs.Saying.{says_only-after, silent_joins, silent_none}

-- while a line is said the disk stays, and so the commit that stands in it
still_stands : (line file : List ℕ) (c : Commit) (old new : Outside) → old.now.disk ≡ settled file → StandsFor old.now.disk.seen c → Goes (IsSaying line old.now) old new
    → (image : List ℕ) (n : ℕ) → Left (moment old) new image n → StandsFor image c
still_stands line file c old new is stands goes image n left =
    let P : DiskState → Type 0 = λ disk. IsImage disk image in
    let Q : DiskState → Type 0 = λ disk. StandsFor disk.seen c in
    let in_file : StandsFor file c = subst Q is stands in
    let left_is : IsImage old.now.disk image = elim (Left-since image n goes left) [
      | inl now ↦ now.0
      | inr by ↦ subst P by.holds.disk by.is_image
    ] in
    subst (λ (bytes : List ℕ). StandsFor bytes c) (sym (image_of_settled (settled file) image (record { synced = refl; pending = refl; longest = refl }) (subst P is left_is))) in_file

-- a store that was made of the input, and then a line that is said of it
loads_file : (cap : ℕ) (status : Status) (old made new : Outside) (count : ℕ) → old.now.disk.seen ≡ [] → LoadsViews max_budget cap old made (Ok count) → SaysLine (load_line count 1) status made new
    → Goes (IsSaying (load_line count 1) made.now) made new → LoadsFile cap status old new
loads_file cap status old made new count empty loads says goes =
    let makes = loads.comes.0 in
    let took = loads.takes.takes in
    let silent : Goes (λ at. at.said ≡ old.now.said) old made =
    joins (begins_still took.still) (weaker (λ (at : Moment) (same : at.said ≡ loads.took.now.said). same ∙ ap (λ (m : Moment). m.said) took.still.now) makes.silence.moments) in
    let crash : (image : List ℕ) (n : ℕ) → Left (moment made) new image n → StandsFor image makes.first.next = still_stands (load_line count 1) _ makes.first.next made new makes.disk makes.stands goes in
    record {
      empty = empty;
      looked = old;
      looks = silent_none old;
      count = count;
      made = made;
      loads = loads;
      says = says;
      told = λ image n left begun. crash image n (left_after old made new image n silent goes left begun);
      crash = crash;
    }

pub ran_loaded : (cap : ℕ) (status : Status) (old made new : Outside) (count : ℕ) → old.now.disk.seen ≡ [] → LoadsViews max_budget cap old made (Ok count) → SaysLine (load_line count 1) status made new
    → Goes (IsSaying (load_line count 1) made.now) made new → RanLoading cap status old new
ran_loaded cap Done old made new count empty loads says goes = loads_file cap Done old made new count empty loads says goes
ran_loaded cap SayFault old made new count empty loads says goes = loads_file cap SayFault old made new count empty loads says goes
ran_loaded cap Usage old made new count empty loads says goes = absurd says
ran_loaded cap Refused old made new count empty loads says goes = absurd says
ran_loaded cap TakeFault old made new count empty loads says goes = absurd says
ran_loaded cap Memory old made new count empty loads says goes = absurd says
ran_loaded cap TooMuch old made new count empty loads says goes = absurd says
ran_loaded cap DiskFault old made new count empty loads says goes = absurd says

module _ (cap : ℕ) (old stopped : Outside) (empty : old.now.disk.seen ≡ []) where
  stops : (cause : LoadFault) → Loads max_budget cap old stopped (Err cause) → StopsLoading cap cause old stopped
  stops cause loads = record { empty = empty; looked = old; looks = silent_none old; stops = loads }

  -- an input of which no store is made, by the line that names why
  pub refuses_input : (cause : LoadFault) (fault : FileFault) (new : Outside) → fault_of_load cause ≡ Ok fault → Loads max_budget cap old stopped (Err cause) → SaysOnly (fault_line fault) stopped new → RanLoading cap Refused old new
  refuses_input cause fault new names loads says = inr (record { cause = cause; fault = fault; names = names; stopped = stopped; stops = stops cause loads; says = says })

  same_status : (one other : Status) → ◌≡◌ {A = Result FileFault Status} (Err one) (Err other) → one ≡ other
  same_status one other is = cc

  -- or by the status alone
  pub ends_input : (cause : LoadFault) (status : Status) → fault_of_load cause ≡ Err status → Loads max_budget cap old stopped (Err cause) → RanLoading cap status old stopped
  ends_input load_fault.TooMuch status is loads = subst (λ (s : Status). RanLoading cap s old stopped) (same_status TooMuch status is) (stops load_fault.TooMuch loads)
  ends_input load_fault.TakeFailed status is loads = subst (λ (s : Status). RanLoading cap s old stopped) (same_status TakeFault status is) (stops load_fault.TakeFailed loads)
  ends_input load_fault.DiskFailed status is loads = subst (λ (s : Status). RanLoading cap s old stopped) (same_status DiskFault status is) (inr (stops load_fault.DiskFailed loads))
  ends_input load_fault.Memory status is loads = subst (λ (s : Status). RanLoading cap s old stopped) (same_status Memory status is) (inr (stops load_fault.Memory loads))
  ends_input (load_fault.BadStream place) status is loads = absurd (let f : ◌≡◌ {A = Result FileFault Status} (fault_of_load (load_fault.BadStream place)) (Err status) = is in cc)
  ends_input (load_fault.Full end limit) status is loads = absurd (let f : ◌≡◌ {A = Result FileFault Status} (fault_of_load (load_fault.Full end limit)) (Err status) = is in cc)

-- What comes of it after a look at the file.
module _ (old looked new : Outside) (silent : IsSilent old looked) (cap : ℕ) where
  same_seen : looked.now.disk.seen ≡ old.now.disk.seen
  same_seen = ap (λ (m : Moment). m.disk.seen) silent.now

  stops_after : (cause : LoadFault) (stopped : Outside) → StopsLoading cap cause looked stopped → StopsLoading cap cause old stopped
  stops_after cause stopped s = record { empty = sym same_seen ∙ s.empty; looked = s.looked; looks = silent_joins old looked s.looked silent s.looks; stops = s.stops }

  loads_after : (status : Status) → LoadsFile cap status looked new → LoadsFile cap status old new
  loads_after status l = record {
    empty = sym same_seen ∙ l.empty;
    looked = l.looked;
    looks = silent_joins old looked l.looked silent l.looks;
    count = l.count;
    made = l.made;
    loads = l.loads;
    says = l.says;
    told = λ image n left begun.
        l.told image n (subst (λ (since : ℕ). Left since new image n) (sym (ap length silent.past)) left) (subst (λ (m : ℕ). m < n) (sym (ap (λ (m : Moment). length m.said) silent.now)) begun);
    crash = l.crash;
  }

  pub ran_loading_after : (status : Status) → RanLoading cap status looked new → RanLoading cap status old new
  ran_loading_after Usage ran = ran
  ran_loading_after Refused (inl (some, says)) = inl ((λ none. some (same_seen ∙ none)), says_only-after (fault_line NotEmpty) old looked new silent says)
  ran_loading_after Refused (inr r) = inr (record { cause = r.cause; fault = r.fault; names = r.names; stopped = r.stopped; stops = stops_after r.cause r.stopped r.stops; says = r.says })
  ran_loading_after Memory (inl silent-2) = inl (silent_joins old looked new silent silent-2)
  ran_loading_after Memory (inr stopped) = inr (stops_after load_fault.Memory new stopped)
  ran_loading_after DiskFault (inl silent-2) = inl (silent_joins old looked new silent silent-2)
  ran_loading_after DiskFault (inr stopped) = inr (stops_after load_fault.DiskFailed new stopped)
  ran_loading_after Done ran = loads_after Done ran
  ran_loading_after SayFault ran = loads_after SayFault ran
  ran_loading_after TakeFault ran = stops_after load_fault.TakeFailed new ran
  ran_loading_after TooMuch ran = stops_after load_fault.TooMuch new ran
