-- What a crash leaves of the file that is shown, by what is promised of a run over it.
use Rattle.std.proofs.Common.{◌≡◌, ◌≢◌, ℕ, ◌-◌, ◌<◌, ◌≤◌, ◌⊎◌, List, [], length, refl, sym, ap, ◌∙◌, subst, inl, inr}
use Rattle.host_io.specs.Disk.{DiskState, IsImage, IsSettled, settled}
use Rattle.host_io.specs.Outside.{Left, Moment, Outside, moment}
use Rattle.host_io.specs.Calls.{StandsStill}
use Rattle.host_io.proofs.Images.{IsSettled-settled, image_of_settled}
use Rattle.host_io.proofs.Moments.{Left-goes, only_now}
use Rattle.aside_disk.specs.Logical.{Logical}
use Rattle.aside_disk.specs.Tie.{Tie}
use Rattle.lines.specs.declared.serving.End.{End}
use Rattle.lines.specs.Served.{state_of}
use Rattle.session.specs.World.{World}
use Rattle.storage.specs.declared.mode.Mode.{Mode}
use Rattle.viewers.specs.Meanings.{Meaning}
use Rattle.shell.specs.Crashes.{IsSafeGreeting}
use Rattle.shell.specs.Ran.{Answers, GreetsInPart, Opens, RanFrom, RanServing, ServesFrom, greeted_length}
use Rattle.shell.specs.Said.{IsSilent, SaysOnly}
use Rattle.shell.specs.declared.status.Status.{Status}
use Rattle.shell.specs.declared.status.Status.TheVariants.{Done, Usage, Refused, TakeFault, SayFault, Memory, TooMuch, DiskFault}
use Rattle.aside_run.specs.Safe.{IsSafeOver, MayStandFrom, MayStandOver, MayStandServing}

module _ (first : List ℕ) (begin : Outside) (disk : begin.now.disk ≡ settled first) (past : begin.past ≡ []) where
  only_first : (image : List ℕ) → IsImage begin.now.disk image → image ≡ first
  only_first image is = image_of_settled (settled first) image (IsSettled-settled first) (subst (λ (d : DiskState). IsImage d image) disk is)

  -- no moment came since
  left_still : (end : Outside) → end.now ≡ begin.now → end.past ≡ begin.past → (image : List ℕ) (n : ℕ) → Left 0 end image n → image ≡ first
  left_still end now same image n left =
      let here = only_now end image n (subst (λ (k : ℕ). Left k end image n) (sym (ap length (same ∙ past))) left) in
      only_first image (subst (λ (m : Moment). IsImage m.disk image) now here.0)

  left_silent : (end : Outside) → IsSilent begin end → (image : List ℕ) (n : ℕ) → Left 0 end image n → image ≡ first
  left_silent end silent image n left = left_still end silent.now silent.past image n left

  left_saying : (line : List ℕ) (end : Outside) → SaysOnly line begin end → (image : List ℕ) (n : ℕ) → Left 0 end image n → image ≡ first
  left_saying line end says image n left = elim (Left-goes 0 image n says.part.moments left) [
    | inl before ↦ left_silent says.looked says.looks image n before
    | inr by ↦ only_first image (subst (λ (m : Moment). IsImage m.disk image) says.looks.now (subst (λ (d : DiskState). IsImage d image) by.holds.disk by.is_image))
  ]

  module _ (some : first ≢ []) where
    begin_some : begin.now.disk.seen ≢ []
    begin_some none = some (sym (ap (λ (d : DiskState). d.seen) disk) ∙ none)

    left_opening : (end : Outside) → Opens begin end → (image : List ℕ) (n : ℕ) → Left 0 end image n → image ≡ first
    left_opening end opens image n left = let still = opens.untouched begin_some in left_still end still.now still.past image n left

    opened_first : (opened : Outside) → Opens begin opened → moment opened ≡ 0
    opened_first opened opens = ap length ((opens.untouched begin_some).past ∙ past)

    served_safe : (viewers : List Meaning) (world : World) (how : End) (opened end : Outside) → Opens begin opened → (from : ServesFrom viewers world how begin opened end)
        → (image : List ℕ) (n : ℕ) → Left 0 end image n → MayStandServing viewers (state_of world opened) from.serves.turns (greeted_length world begin) n image
    served_safe viewers world how opened end opens from image n left = record {
      greeting = λ less. from.greets.from_opening image n (subst (λ (k : ℕ). Left k end image n) (sym (opened_first opened opens)) left) less;
      serving = λ whole. from.crash image n (subst (λ (k : ℕ). Left k end image n) (sym (ap length past)) left) whole;
    }

    from_safe : (viewers : List Meaning) (world : World) (status : Status) (opened end : Outside) → Opens begin opened → (ran : RanFrom viewers world status begin opened end)
        → (image : List ℕ) (n : ℕ) → Left 0 end image n → MayStandFrom viewers world status begin opened end ran n image
    from_safe viewers world Done opened end opens ran image n left = served_safe viewers world _ opened end opens ran image n left
    from_safe viewers world TakeFault opened end opens ran image n left = served_safe viewers world _ opened end opens ran image n left
    from_safe viewers world TooMuch opened end opens ran image n left = served_safe viewers world _ opened end opens ran image n left
    from_safe viewers world SayFault opened end opens (inl part) image n left =
        λ less. part.greets.from_opening image n (subst (λ (k : ℕ). Left k end image n) (sym (opened_first opened opens)) left) less
    from_safe viewers world SayFault opened end opens (inr from) image n left = served_safe viewers world _ opened end opens from image n left
    from_safe viewers world Usage opened end opens ran image n left = absurd ran
    from_safe viewers world Refused opened end opens ran image n left = absurd ran
    from_safe viewers world Memory opened end opens ran image n left = absurd ran
    from_safe viewers world DiskFault opened end opens ran image n left = absurd ran

    over_safe : (viewers : List Meaning) (mode : Mode) (cap : ℕ) (status : Status) (end : Outside) → (ran : RanServing viewers mode cap status begin end)
        → (image : List ℕ) (n : ℕ) → Left 0 end image n → MayStandOver viewers mode cap status first begin end ran n image
    over_safe viewers mode cap Done end ran image n left = from_safe viewers ran.world Done ran.opened end ran.starts.opens ran.ran image n left
    over_safe viewers mode cap TakeFault end ran image n left = from_safe viewers ran.world TakeFault ran.opened end ran.starts.opens ran.ran image n left
    over_safe viewers mode cap TooMuch end ran image n left = from_safe viewers ran.world TooMuch ran.opened end ran.starts.opens ran.ran image n left
    over_safe viewers mode cap SayFault end ran image n left = from_safe viewers ran.world SayFault ran.opened end ran.starts.opens ran.ran image n left
    over_safe viewers mode cap Usage end ran image n left = absurd ran
    over_safe viewers mode cap Refused end ran image n left = left_saying _ end ran.2 image n left
    over_safe viewers mode cap Memory end ran image n left = left_silent end ran image n left
    over_safe viewers mode cap DiskFault end ran image n left = left_opening end ran image n left

    -- and so of the aside file under it
    pub ties_safe : (base : List ℕ) (number since : ℕ) (new end : Outside) → Tie (Logical base number) since 0 new end → (viewers : List Meaning) (mode : Mode) (cap : ℕ) (status : Status)
        → (ran : RanServing viewers mode cap status begin end) → IsSafeOver base number (MayStandOver viewers mode cap status first begin end ran) since new
    ties_safe base number since new end tie viewers mode cap status ran image n left =
        let shows = tie.left image n left in
        record { file = shows.file; logical = shows.means_it; may = over_safe viewers mode cap status end ran shows.file n shows.left }
