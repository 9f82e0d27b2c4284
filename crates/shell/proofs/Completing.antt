-- A run in which nothing goes wrong is done, or wanted memory.
use Rattle.std.proofs.Common.{◌≡◌, ◌≢◌, ℕ, ◌≤◌, ◌⊎◌, false, List, [], ◌∷◌, ◌++◌, length, length-append, append-nil, refl, ap, sym, subst, ◌∙◌, inl, inr, Option, Some, None, Result, Ok, Err, arith}
use Rattle.std.proofs.lemmas.Option.{none-some}
use Rattle.command_line.specs.Asking.{IsSameJob, name_of}
use Rattle.command_line.specs.Words.{AsksFor, AsksForPlain}
use Rattle.command_line.specs.declared.job.Job.{Job}
use Rattle.command_line.specs.declared.job.Task.{Task}
use Rattle.command_line.specs.declared.job.Task.TheVariants.{Serve, Check, Sample, Save, Load}
use Rattle.host_io.specs.Calls.{Rose}
use Rattle.host_io.specs.Outside.{Outside}
use Rattle.host_io.proofs.Faults.{Rose-last}
use Rattle.lines.specs.Lines.{max_budget}
use Rattle.lines.specs.Machine.{State}
use Rattle.lines.specs.Served.{state_of}
use Rattle.mk_value.specs.Buffer.{Buffer}
use Rattle.recovery.proofs.Undamaged.{no_cause}
use Rattle.recovery.specs.Commits.{Commit}
use Rattle.recovery.specs.Standing.{StandsFor}
use Rattle.recovery.specs.declared.error.OpenError.{OpenError}
use Rattle.recovery.specs.declared.error.OpenError.TheVariants as opening
use Rattle.sample.specs.Lines.{sample_lines}
use Rattle.session.specs.Starting.{StartsAs}
use Rattle.session.specs.Unfaulted.{AnswersUnfaulted, AreAnswered}
use Rattle.session.specs.World.{World}
use Rattle.storage.specs.Stored.{is_shut}
use Rattle.storage.specs.declared.mode.Mode.{Mode}
use Rattle.storage.specs.declared.mode.Mode.TheVariants.{Read}
use Rattle.viewers.specs.Meanings.{Meaning}
use Rattle.commit_plan.specs.Plans.{EndsAt}
use Rattle.free_space.specs.Sites.{first_place}
use Rattle.storage.specs.NewStore.{new_commit}
use Rattle.stream_codec.specs.Fields.{IsCutOffAt, IsWrongAt}
use Rattle.stream_codec.specs.Stream.{IsStream}
use Rattle.streaming.specs.Loading.{Loads, LoadsViews, MayLoad}
use Rattle.streaming.specs.Taking.{TakesBadStream}
use Rattle.streaming.specs.declared.error.LoadFault.{LoadFault}
use Rattle.streaming.specs.declared.error.LoadFault.TheVariants as load_fault
use Rattle.view_store.specs.Views.{NamedTable}
use Rattle.shell.specs.Complete.{AnswersWell, AreSampleAnswered}
use Rattle.shell.specs.Faults.{IsFault, fault_of_load}
use Rattle.shell.specs.Ran.{GoesWell, IsSampleLine, MayOpen, MayTake, Ran, RanAs, RefusesInput}
use Rattle.shell.specs.declared.fault.FileFault.{FileFault}
use Rattle.shell.specs.declared.fault.FileFault.TheVariants.{Empty, NotEmpty, NotAStore, Damaged, BadStream, Full, BadBase, NoAside, OtherBase}
use Rattle.shell.specs.declared.status.Status.{Status}
use Rattle.shell.specs.declared.status.Status.TheVariants.{Done, Usage, Refused, TakeFault, SayFault, Memory, TooMuch, DiskFault}

-- a file that stands for a commit has no fault
pub stands_well : (mode : Mode) (file : List ℕ) (c : Commit) (fault : FileFault) → StandsFor file c → IsFault mode file fault → ⊥
stands_well mode file c Empty stands cause = let long = stands.3.headed.long in let none = ap length cause.1 in absurd (omega (arith, long, none))
stands_well mode file c NotEmpty stands cause = cause
stands_well mode file c (BadStream place) stands cause = cause
stands_well mode file c (Full end cap) stands cause = cause
stands_well mode file c BadBase stands cause = cause
stands_well mode file c (NoAside place) stands cause = cause
stands_well mode file c (OtherBase kept given) stands cause = cause
stands_well mode file c NotAStore stands cause = elim (no_cause file c opening.NotAStore stands cause.1) [
  | inl e ↦ let f : ◌≡◌ {A = OpenError} opening.NotAStore opening.Failed = e in cc
  | inr e ↦ let f : ◌≡◌ {A = OpenError} opening.NotAStore opening.Memory = e in cc
]
stands_well mode file c (Damaged place) stands cause = elim (no_cause file c (opening.Damaged place) stands cause.1) [
  | inl e ↦ let f : ◌≡◌ {A = OpenError} (opening.Damaged place) opening.Failed = e in cc
  | inr e ↦ let f : ◌≡◌ {A = OpenError} (opening.Damaged place) opening.Memory = e in cc
]

empty_well : (mode : Mode) (file : List ℕ) (fault : FileFault) → file ≡ [] → mode ≢ Read → IsFault mode file fault → ⊥
empty_well mode file Empty none writes cause = writes cause.0
empty_well mode file NotEmpty none writes cause = cause
empty_well mode file (BadStream place) none writes cause = cause
empty_well mode file (Full end cap) none writes cause = cause
empty_well mode file BadBase none writes cause = cause
empty_well mode file (NoAside place) none writes cause = cause
empty_well mode file (OtherBase kept given) none writes cause = cause
empty_well mode file NotAStore none writes cause = cause.0 none
empty_well mode file (Damaged place) none writes cause = cause.0 none

-- what is known of all streams: one has no wrong field, ends within none, and is that of one root; and a field that is wrong stays so
pub record StreamLaws : Type 0 where
  pub wrong : (bytes : List ℕ) (views : List NamedTable) (place : ℕ) → IsStream bytes views → IsWrongAt bytes place → ⊥
  pub cut : (bytes : List ℕ) (views : List NamedTable) (place : ℕ) → IsStream bytes views → IsCutOffAt bytes place → ⊥
  pub one : (bytes : List ℕ) (views others : List NamedTable) → IsStream bytes views → IsStream bytes others → views ≡ others
  pub stays : (bytes more : List ℕ) (place : ℕ) → IsWrongAt bytes place → IsWrongAt (bytes ++ more) place

-- an input that may be loaded is not refused
module _ (laws : StreamLaws) (cap : ℕ) (input : List ℕ) (may : MayLoad max_budget cap input) where
  no_bad_stream : (place : ℕ) (old new : Outside) → old.input ≡ input → TakesBadStream max_budget place old new → ⊥
  no_bad_stream place old new is bad = elim bad.bad [
    | inl wrong ↦ laws.wrong input may.views place may.stream (subst (λ (bytes : List ℕ). IsWrongAt bytes place) (sym bad.takes.came ∙ is) (laws.stays (bad.front ++ bad.last) new.input place wrong))
    | inr (over, cut) ↦
        let taken = bad.front ++ bad.last in
        let all : taken ≡ input = sym (append-nil taken) ∙ ap (λ (l : List ℕ). taken ++ l) (sym over) ∙ sym bad.takes.came ∙ is in
        laws.cut input may.views place may.stream (subst (λ (bytes : List ℕ). IsCutOffAt bytes place) all cut)
  ]

  no_full : (end limit : ℕ) (old new : Outside) → old.input ≡ input → LoadsViews max_budget cap old new (Err (load_fault.Full end limit)) → ⊥
  no_full end limit old new is loads =
      let takes = loads.takes in
      let all : takes.taken ≡ input = sym (append-nil takes.taken) ∙ ap (λ (l : List ℕ). takes.taken ++ l) (sym takes.over) ∙ sym takes.takes.came ∙ is in
      let same : loads.views ≡ may.views = laws.one input loads.views may.views (subst (λ (bytes : List ℕ). IsStream bytes loads.views) all takes.stream) may.stream in
      let ends : EndsAt first_place new_commit may.views [] end = subst (λ (views : List NamedTable). EndsAt first_place new_commit views [] end) same loads.comes.ends in
      let is_end = ends may.follows.spans may.planned.next may.follows.follows in
      let past = loads.comes.past in let within = may.within in omega (arith, is_end, past, within)

  no_refusal : (cause : LoadFault) (fault : FileFault) (old new : Outside) → fault_of_load cause ≡ Ok fault → old.input ≡ input → Loads max_budget cap old new (Err cause) → ⊥
  no_refusal (load_fault.BadStream place) fault old new names is loads = no_bad_stream place old new is loads
  no_refusal (load_fault.Full end limit) fault old new names is loads = no_full end limit old new is loads
  no_refusal load_fault.TooMuch fault old new names is loads = let f : ◌≡◌ {A = Result FileFault Status} (Err TooMuch) (Ok fault) = names in cc
  no_refusal load_fault.TakeFailed fault old new names is loads = let f : ◌≡◌ {A = Result FileFault Status} (Err TakeFault) (Ok fault) = names in cc
  no_refusal load_fault.DiskFailed fault old new names is loads = let f : ◌≡◌ {A = Result FileFault Status} (Err DiskFault) (Ok fault) = names in cc
  no_refusal load_fault.Memory fault old new names is loads = let f : ◌≡◌ {A = Result FileFault Status} (Err Memory) (Ok fault) = names in cc

refused_well : StreamLaws → (cap : ℕ) (old new : Outside) → MayLoad max_budget cap old.input → RefusesInput cap old new → ⊥
refused_well laws cap old new may refused = no_refusal laws cap old.input may refused.cause refused.fault refused.stops.looked refused.stopped refused.names refused.stops.looks.input refused.stops.stops

opens_well : StreamLaws → (viewers : List Meaning) (task : Task) (mode : Mode) (cap : ℕ) (old new : Outside) → MayOpen task mode old.now.disk.seen → MayTake task cap old.input → RanAs viewers task mode cap Refused old new → ⊥
opens_well laws viewers Serve mode cap old new (inl empty) any (fault, cause, says) = empty_well mode old.now.disk.seen fault empty.0 empty.1 cause
opens_well laws viewers Serve mode cap old new (inr stands) any (fault, cause, says) = stands_well mode old.now.disk.seen stands.0 fault stands.1 cause
opens_well laws viewers (Sample number edits) mode cap old new empty any ran = ran.0 empty
opens_well laws viewers Check mode cap old new stands any (fault, cause, says) = stands_well Read old.now.disk.seen stands.0 fault stands.1 cause
opens_well laws viewers Save mode cap old new stands any (fault, cause, says) = stands_well Read old.now.disk.seen stands.0 fault stands.1 cause
opens_well laws viewers Load mode cap old new empty may (inl some) = some.0 empty
opens_well laws viewers Load mode cap old new empty may (inr refused) = refused_well laws cap old new may refused

-- the budget was not passed
pub within_budget : (viewers : List Meaning) (task : Task) (mode : Mode) (cap : ℕ) (old new : Outside) → length old.input ≤ max_budget → RanAs viewers task mode cap TooMuch old new → ⊥
within_budget viewers Check mode cap old new short ran = ran
within_budget viewers (Sample number edits) mode cap old new short ran = ran
within_budget viewers Save mode cap old new short ran = ran
within_budget viewers Load mode cap old new short ran =
    let much = ran.stops in
    let same : ran.looked.input ≡ old.input = ran.looks.input in
    let came = ap length (sym same ∙ much.takes.came) in
    let taken = length-append (much.front ++ much.byte ∷ []) new.input in
    let parts = length-append much.front (much.byte ∷ []) in
    let full = much.full in omega (arith, came, taken, parts, full, short)
within_budget viewers Serve mode cap old new short ran =
    let from = ran.ran in
    let serves = from.serves in
    let same : from.greeted.input ≡ old.input = from.greeting.input ∙ ran.starts.opens.silence.input in
    let came = ap length (sym same ∙ serves.came) in
    let taken = length-append serves.taken new.input in
    let more = ap length serves.ends.more in
    let parts = length-append serves.ends.front (serves.ends.byte ∷ []) in
    let full = serves.ends.full in omega (arith, came, taken, more, parts, full, short)

pub completes : StreamLaws → (viewers : List Meaning) (words : List (List ℕ)) (status : Status) (old new : Outside) → ((one other : Job) → AsksFor words one → AsksFor words other → IsSameJob one other)
    → Ran viewers words status old new → (status ≡ TakeFault → Rose old.take_faults new.take_faults) → (status ≡ SayFault → Rose old.say_faults new.say_faults)
    → (status ≡ DiskFault → Rose old.disk_faults new.disk_faults) → GoesWell words old new → (status ≡ Done) ⊎ (status ≡ Memory)
completes laws viewers words Done old new one ran takes says disk well = inl refl
completes laws viewers words Memory old new one ran takes says disk well = inr refl
completes laws viewers words Usage old new one ran takes says disk well = absurd (ran.0 (well.job, well.right, well.plain))
completes laws viewers words TakeFault old new one ran takes says disk well = absurd (well.takes (takes refl))
completes laws viewers words SayFault old new one ran takes says disk well = absurd (well.says (says refl))
completes laws viewers words DiskFault old new one ran takes says disk well = absurd (well.disk (disk refl))
completes laws viewers words Refused old new one ran takes says disk well =
    let same = one well.job ran.job well.right ran.asks in
    absurd (opens_well laws viewers ran.job.task ran.job.mode ran.job.cap old new
    (subst (λ (m : Mode). MayOpen ran.job.task m old.now.disk.seen) same.mode (subst (λ (t : Task). MayOpen t well.job.mode old.now.disk.seen) same.task well.opens))
    (subst (λ (n : ℕ). MayTake ran.job.task n old.input) same.cap (subst (λ (t : Task). MayTake t well.job.cap old.input) same.task well.comes)) ran.ran)
completes laws viewers words TooMuch old new one ran takes says disk well = absurd (within_budget viewers ran.job.task ran.job.mode ran.job.cap old new well.short ran.ran)

-- words that name a base ask for no job without one
pub names_base : (words : List (List ℕ)) (job : Job) (base : Buffer) → ((one other : Job) → AsksFor words one → AsksFor words other → IsSameJob one other) → AsksFor words job → job.aside ≡ Some base → ¬ AsksForPlain words
names_base words job base one asks some (other, asks_too, none) = none-some base.bytes (sym (ap name_of none) ∙ sym (one job other asks asks_too).aside ∙ ap name_of some)

-- what came of a job, by its status
pub ran_job : (viewers : List Meaning) (words : List (List ℕ)) (job : Job) (status : Status) (old new : Outside) → AsksFor words job → job.aside ≡ None → status ≢ Usage → RanAs viewers job.task job.mode job.cap status old new → Ran viewers words status old new
ran_job viewers words job Usage old new asks plain right ran = absurd (right refl)
ran_job viewers words job Memory old new asks plain right ran = inr (record { job = job; asks = asks; plain = plain; ran = ran })
ran_job viewers words job Done old new asks plain right ran = record { job = job; asks = asks; plain = plain; ran = ran }
ran_job viewers words job Refused old new asks plain right ran = record { job = job; asks = asks; plain = plain; ran = ran }
ran_job viewers words job TakeFault old new asks plain right ran = record { job = job; asks = asks; plain = plain; ran = ran }
ran_job viewers words job SayFault old new asks plain right ran = record { job = job; asks = asks; plain = plain; ran = ran }
ran_job viewers words job TooMuch old new asks plain right ran = record { job = job; asks = asks; plain = plain; ran = ran }
ran_job viewers words job DiskFault old new asks plain right ran = record { job = job; asks = asks; plain = plain; ran = ran }

-- a store that was made or opened is not shut
started_unshut : (mode : Mode) (cap : ℕ) (file : List ℕ) (state : State World) → StartsAs mode cap file state → is_shut state.world.store ≡ false
started_unshut mode cap [] state starts = ap (λ (w : World). is_shut w.store) starts.store
started_unshut mode cap (byte ∷ bytes) state starts = ap (λ (w : World). is_shut w.store) starts.store

sampled_well : AnswersUnfaulted → (viewers : List Meaning) (number edits : ℕ) (old last : State World) (line : List ℕ) → is_shut old.world.store ≡ false → (¬ Rose old.disk_faults last.disk_faults)
    → (outcome : IsSampleLine viewers number edits old last line) → AreSampleAnswered viewers number edits old last line outcome
sampled_well law viewers number edits old last line unshut still (inl all) = law viewers old last (sample_lines number edits) all.0.turns unshut all.0.answered still
sampled_well law viewers number edits old last line unshut still (inr one) = law viewers old last one.front (one.before ++ one.final ∷ []) unshut one.answered still

-- what each line of a run got, by what it did
pub answers_well : AnswersUnfaulted → (viewers : List Meaning) (task : Task) (mode : Mode) (cap : ℕ) (old new : Outside) → (¬ Rose old.disk_faults new.disk_faults) → (ran : RanAs viewers task mode cap Done old new)
    → AnswersWell viewers task mode cap old new ran
answers_well law viewers Serve mode cap old new still ran =
    let from = ran.ran in
    let serves = from.serves in
    let opened = ran.starts.opens.silence.disk_faults in
    let greeted = from.greeting.disk_faults in
    let unshut = started_unshut mode cap old.now.disk.seen (state_of ran.world ran.opened) ran.starts.starts in
    let same : state_of ran.world from.greeted ≡ state_of ran.world ran.opened = let disk = from.greeting.disk in rw (disk, greeted) refl in
    subst (λ (state : State World). AreAnswered viewers state serves.turns) same
    (law viewers (state_of ran.world from.greeted) (state_of from.last new) serves.ends.lines serves.turns unshut serves.ends.answered
    (λ rose. still (Rose-last old.disk_faults from.greeted.disk_faults new.disk_faults (omega arith) rose)))
answers_well law viewers Check mode cap old new still ran = tt
answers_well law viewers Save mode cap old new still ran = tt
answers_well law viewers Load mode cap old new still ran = tt
answers_well law viewers (Sample number edits) mode cap old new still ran =
    let from = ran.sampled in
    let opened = ran.starts.opens.silence.disk_faults in
    let said = from.says.disk_faults in
    let unshut = started_unshut mode cap old.now.disk.seen (state_of ran.world ran.opened) ran.starts.starts in
    sampled_well law viewers number edits (state_of ran.world ran.opened) (state_of from.last from.answered) from.line unshut
    (λ rose. still (Rose-last old.disk_faults ran.opened.disk_faults new.disk_faults opened (subst (λ (n : ℕ). Rose ran.opened.disk_faults n) (sym said) rose))) from.outcome
