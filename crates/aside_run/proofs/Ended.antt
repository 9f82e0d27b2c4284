-- What a run over an aside file ends with.
use Rattle.std.proofs.Common.{◌≡◌, ◌≢◌, ℕ, ◌+◌, ◌<◌, ◌≤◌, ◌^◌, ◌⊎◌, List, [], length, refl, sym, ap, ◌∙◌, subst, inl, inr, Result, Ok, Err, arith, slice_index}
use Rattle.std.proofs.lemmas.Bool.{cases_lt}
use Rattle.host_io.specs.Calls.{CountsFaults, Looks, Rose}
use Rattle.host_io.specs.Disk.{settled}
use Rattle.host_io.specs.Outside.{Goes, Moment, Outside, moment}
use Rattle.aside_disk.specs.declared.error.AsideError.{AsideError}
use Rattle.aside_disk.specs.declared.error.AsideError.TheVariants as aside
use Rattle.aside_disk.specs.declared.log.Log.{Log}
use Rattle.aside_disk.specs.Logical.{IsAsideOf, Logical, entries_of, record_of}
use Rattle.aside_disk.specs.Refusals.{IsNoAside}
use Rattle.aside_disk.specs.Opening.{Opens, opened_at}
use Rattle.aside_disk.specs.Records.{applied}
use Rattle.aside_disk.specs.Shown.{Seen, bare, shown, source_of}
use Rattle.aside_disk.specs.Standing.{IsOver, IsWornOut, first_seen}
use Rattle.aside_disk.specs.Tie.{Tie}
use Rattle.aside_disk.proofs.Sources.{same_base, same_began, same_number, same_since}
use Rattle.storage.specs.declared.mode.Mode.{Mode}
use Rattle.viewers.specs.Meanings.{Meaning}
use Rattle.shell.specs.Ran.{Opens as ShellOpens, RanServing}
use Rattle.shell.specs.Said.{fault_line}
use Rattle.shell.specs.declared.fault.FileFault.TheVariants.{NoAside, OtherBase}
use Rattle.shell.proofs.Saying.{says_only-after, silence_joins, silence_of, silent_joins, silent_looks}
use Rattle.streaming.specs.Silence.{GoesInSilence}
use Rattle.shell.specs.declared.status.Status.{Status}
use Rattle.aside_run.specs.Bases.{StandsFirst}
use Rattle.aside_run.specs.RanOver.{OpensNoAside, ServesOver}
use Rattle.aside_run.specs.Seen.{BeginsOver, EndsOver}
use Rattle.aside_run.specs.Steps.{EndsWith, ServesLog, WearsOut}
use Rattle.aside_run.proofs.Begun.{begins_after, logical_opened, logical_some, opened_at_looks, opened_stands}
use Rattle.aside_run.proofs.Faults.{shown_rose}
use Rattle.aside_run.proofs.Saved.{ties_safe}

-- the outside that is shown has the moments that its ties speak of
tie_shown : {means : List ℕ → List ℕ → Type 0} {since : ℕ} {lower : Outside} (seen : Seen) (own : ℕ) → Tie means since 0 lower (bare seen) → Tie means since 0 lower (shown lower seen own)
tie_shown seen own tie = record {
  lower_began = tie.lower_began;
  upper_began = tie.upper_began;
  said = tie.said;
  now = tie.now;
  left = λ image n left. let shows = tie.left image n left in record { file = shows.file; means_it = shows.means_it; left = shows.left };
}

module _ {tells : Type 0} (name since number : ℕ) (base : List ℕ) (lower : Outside) (seen : Seen) (own : ℕ) (over : IsOver tells name lower seen own) (source : seen.source ≡ source_of name since 0 number base) where
  same : source_of name over.lower_since over.upper_since over.number over.base ≡ source_of name since 0 number base
  same = sym over.source ∙ source

  pub ties : tells → Tie (Logical base number) since 0 lower (shown lower seen own)
  ties t = tie_shown seen own (subst (λ (b : List ℕ). Tie (Logical b number) since 0 lower (bare seen)) (same_base same)
      (subst (λ (k : ℕ). Tie (Logical over.base k) since 0 lower (bare seen)) (same_number same)
      (subst (λ (k : ℕ). Tie (Logical over.base over.number) since k lower (bare seen)) (same_began same)
      (subst (λ (k : ℕ). Tie (Logical over.base over.number) k over.upper_since lower (bare seen)) (same_since same) (over.tie t)))))

  pub worn : tells → 0 < own → IsWornOut base lower.now.disk.seen
  worn t some = subst (λ (b : List ℕ). IsWornOut b lower.now.disk.seen) (same_base same) (over.worn t some)

  -- a fault of the disk that is shown came from the one under it, or the file is worn out
  pub fault_under : (faults : ℕ) (opened : Outside) (first : Seen) → faults ≤ opened.disk_faults → Rose (shown opened first 0).disk_faults (shown lower seen own).disk_faults
      → Rose faults lower.disk_faults ⊎ WearsOut tells faults base lower.now.disk.seen
  fault_under faults opened first low rose = elim (cases_lt faults (2 ^ 64)) [
    | inl small ↦ elim (shown_rose faults opened lower first seen own low small rose) [
      | inl under ↦ inl under
      | inr some ↦ inr (λ counted t. worn t some)
    ]
    | inr large ↦ inr (λ counted t. absurd (omega (arith, counted, large)))
  ]

  pub ends_over : tells → (faults : ℕ) (opened : Outside) (first : Seen) → faults ≤ opened.disk_faults → EndsOver base number since faults lower (shown opened first 0) (shown lower seen own)
  ends_over t faults opened first low = record {
    tie = ties t;
    input = refl;
    take_faults = refl;
    say_faults = refl;
    disk_faults = λ small rose. elim (shown_rose faults opened lower first seen own low small rose) [ inl under ↦ inl under | inr some ↦ inr (worn t some) ];
  }

pub begins_over : (name number end : ℕ) (base : List ℕ) (opened : Outside)
    → BeginsOver (applied base (entries_of opened.now.disk.seen end)) opened (shown opened (first_seen name number base end opened) 0)
begins_over name number end base opened = record { disk = refl; past = refl; said = refl; input = refl; take_faults = refl; say_faults = refl }

-- what holds of the outside that is shown holds of the one with which an aside disk begins
pub shown_first : (P : Outside → Type 0) (lower opened : Outside) (seen : Seen) (own name number end : ℕ) (base : List ℕ) → lower ≡ opened → seen ≡ first_seen name number base end opened → own ≡ 0
    → P (shown lower seen own) → P (shown opened (first_seen name number base end opened) 0)
shown_first P lower opened seen own name number end base same begins none holds =
    subst (λ (k : ℕ). P (shown opened (first_seen name number base end opened) k)) none
    (subst (λ (s : Seen). P (shown opened s own)) begins (subst (λ (o : Outside). P (shown o seen own)) same holds))

-- lines that were served over a log
pub serves_log : {tells : Type 0} (viewers : List Meaning) (mode : Mode) (cap : ℕ) (status : Status) (name number end : ℕ) (base : List ℕ) (opened lower : Outside) (named : ℕ) (seen : Seen) (own : ℕ)
    → (over : IsOver tells named lower seen own) → seen.source ≡ source_of named (moment opened) 0 number base → tells
    → RanServing viewers mode cap status (shown opened (first_seen name number base end opened) 0) (shown lower seen own)
    → ServesLog viewers mode cap status base number (applied base (entries_of opened.now.disk.seen end)) opened lower
serves_log viewers mode cap status name number end base opened lower named seen own over source t ran = record {
  begin = shown opened (first_seen name number base end opened) 0;
  begins = begins_over name number end base opened;
  end = shown lower seen own;
  ends = λ faults low. ends_over named (moment opened) number base lower seen own over source t faults opened (first_seen name number base end opened) low;
  ran = ran;
}

-- lines that were served over a log, seen from before it was opened
pub serves_over : (viewers : List Meaning) (mode : Mode) (cap : ℕ) (status : Status) (base : List ℕ) (number : ℕ) (log : Log) (old mid opened new : Outside)
    → base ≢ [] → length base < 2 ^ 63 → number < 2 ^ 64 → Looks old mid → (failed failed_too : Type 0) → CountsFaults failed old mid → Opens (record_of base number) mid opened (Ok log) → CountsFaults failed_too mid opened
    → moment opened ≡ opened_at mid → ServesLog viewers mode cap status base number (applied base (entries_of opened.now.disk.seen log.end)) opened new
    → ServesOver viewers mode cap status base number old new
serves_over viewers mode cap status base number log old mid opened new some long fits looks failed failed_too attached opens counts since serves =
    let file = applied base (entries_of opened.now.disk.seen log.end) in
    let begins : BeginsOver file old serves.begin = begins_after file old mid opened serves.begin looks attached.takes attached.says opens.1 opens.2 counts.takes counts.says serves.begins in
    let at : moment opened ≡ opened_at old = since ∙ opened_at_looks old mid looks in
    let a = attached.later in let b = counts.later in
    let ends : EndsOver base number (opened_at old) old.disk_faults new serves.begin serves.end =
    subst (λ (k : ℕ). EndsOver base number k old.disk_faults new serves.begin serves.end) at (serves.ends old.disk_faults (omega (arith, a, b))) in
    record {
      file = file;
      stands = subst (λ (m : Moment). StandsFirst base number m.disk.seen file) looks.still.now (opened_stands base number log mid opened long fits opens);
      begin = serves.begin;
      begins = begins;
      end = serves.end;
      ends = ends;
      ran = serves.ran;
      crash = ties_safe file serves.begin begins.disk begins.past (logical_some base number opened.now.disk.seen file some (logical_opened base number log mid opened long fits opens))
          base number (opened_at old) new serves.end ends.tie viewers mode cap status serves.ran;
    }

-- an aside file that was not opened, seen from before it was attached
pub opens_none : (status : Status) (base : List ℕ) (number : ℕ) (failed failed_too : Type 0) (error : AsideError) (old mid opened new : Outside) → Looks old mid → CountsFaults failed old mid → CountsFaults failed_too mid opened
    → Opens (record_of base number) mid opened (Err error) → opened.now.said ≡ mid.now.said → opened.input ≡ mid.input → Goes (λ at. at.said ≡ mid.now.said) mid opened
    → (mid.now.disk.seen ≢ [] → Looks mid opened) → EndsWith error status opened new → OpensNoAside status base number old new
opens_none status base number failed failed_too (aside.At place) old mid opened new looks attached counts opens said input moments untouched ends = elim opens [
  | inl other ↦ let f : ◌≡◌ {A = AsideError} (aside.At place) aside.Failed = other in absurd (cc)
  | inr (looks_too, some, refusal) ↦
      let same : mid.now.disk.seen ≡ old.now.disk.seen = ap (λ (m : Moment). m.disk.seen) looks.still.now in
      subst (λ (s : Status). OpensNoAside s base number old new) (sym ends.0) (record {
        some = λ none. some (same ∙ none);
        fault = NoAside place;
        cause = subst (λ (image : List ℕ). IsNoAside image place) same refusal;
        says = says_only-after (fault_line (NoAside place)) old opened new (silent_joins old mid opened (silent_looks failed old mid looks attached) (silent_looks failed_too mid opened looks_too counts)) ends.1;
      })
]
opens_none status base number failed failed_too (aside.OtherBase kept given) old mid opened new looks attached counts opens said input moments untouched ends = elim opens [
  | inl other ↦ let f : ◌≡◌ {A = AsideError} (aside.OtherBase kept given) aside.Failed = other in absurd (cc)
  | inr (looks_too, some, refusal) ↦
      let same : mid.now.disk.seen ≡ old.now.disk.seen = ap (λ (m : Moment). m.disk.seen) looks.still.now in
      subst (λ (s : Status). OpensNoAside s base number old new) (sym ends.0) (record {
        some = λ none. some (same ∙ none);
        fault = OtherBase kept given;
        cause = subst (λ (image : List ℕ). IsAsideOf kept image × (given ≡ record_of base number) × (kept ≢ record_of base number)) same refusal;
        says = says_only-after (fault_line (OtherBase kept given)) old opened new (silent_joins old mid opened (silent_looks failed old mid looks attached) (silent_looks failed_too mid opened looks_too counts)) ends.1;
      })
]
opens_none status base number failed failed_too aside.Failed old mid opened new looks attached counts opens said input moments untouched ends =
    let silence : GoesInSilence mid opened = record { said = said; input = input; moments = moments; disk_faults = counts.later; take_faults = counts.takes; say_faults = counts.says } in
    let same : mid.now.disk.seen ≡ old.now.disk.seen = ap (λ (m : Moment). m.disk.seen) looks.still.now in
    let opened_so : ShellOpens old opened = record {
      silence = silence_joins old mid opened (silence_of old mid (silent_looks failed old mid looks attached)) silence;
      untouched = λ some. let still = (untouched (λ none. some (sym same ∙ none))).still in record { now = still.now ∙ looks.still.now; past = still.past ∙ looks.still.past };
    } in
    subst (λ (s : Status). OpensNoAside s base number old new) (sym ends.0) (subst (λ (o : Outside). ShellOpens old o) (sym ends.1) opened_so)
