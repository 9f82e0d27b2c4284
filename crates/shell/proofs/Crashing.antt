-- What a crash may leave while a greeting is said, while lines are served, and while the line of a sample is said.
use Rattle.std.proofs.Common.{◌≡◌, ℕ, ◌+◌, ◌-◌, ◌<◌, ◌≤◌, ◌⊎◌, inl, inr, List, [], ◌∷◌, ◌++◌, length, take, refl, sym, ap, ◌∙◌, subst, length-append, arith}
use Rattle.std.proofs.lemmas.List.{length-take-le}
use Rattle.host_io.specs.Disk.{DiskState, IsImage}
use Rattle.host_io.specs.Outside.{Goes, Left, LeftAt, Moment, Outside, moment, moments}
use Rattle.host_io.proofs.Moments.{Left-kept, Left-now, Left-since}
use Rattle.lines.specs.Crash.{MayStand}
use Rattle.lines.specs.Lines.{max_budget}
use Rattle.lines.specs.Machine.{State, Turn}
use Rattle.lines.specs.Served.{Serves, state_of}
use Rattle.lines.specs.Spoken.{IsSaying}
use Rattle.lines.specs.declared.serving.End.{End}
use Rattle.session.specs.Disk.{IsAllowed, IsSteady}
use Rattle.session.specs.Step.{machine}
use Rattle.session.specs.World.{World}
use Rattle.viewers.specs.Meanings.{Meaning}
use Rattle.shell.specs.Crashes.{IsSafeGreeting, IsSafeSample, IsSafeServing}
use Rattle.shell.specs.Said.{Speaks}
use Rattle.streaming.specs.Silence.{GoesInSilence}

split_added : (since : ℕ) (added : List Moment) (now : Moment) (past : List Moment) (image : List ℕ) (n : ℕ) → LeftAt since (added ++ now ∷ past) image n
    → LeftAt since (now ∷ past) image n ⊎ LeftAt (length past) (added ++ now ∷ past) image n
split_added since [] now past image n left = inl left
split_added since (at ∷ added) now past image n left = elim left.1 [
  | inl here ↦ inr (omega (arith, length-append added (now ∷ past)), inl here)
  | inr there ↦ elim (split_added since added now past image n there) [
    | inl before ↦ inl before
    | inr later ↦ inr (omega (arith, length-append added (now ∷ past)), inr later)
  ]
]

-- what may have been left after time went on was left before it, or from then on
pub Left-split : {P : Moment → Type 0} (since : ℕ) (old new : Outside) (image : List ℕ) (n : ℕ) → Goes P old new → Left since new image n
    → Left since old image n ⊎ Left (moment old) new image n
Left-split since old new image n goes left =
    let first : LeftAt since (goes.added ++ moments old) image n = subst (λ (l : List Moment). LeftAt since l image n) goes.follows left in
    elim (split_added since goes.added old.now old.past image n first) [
      | inl past ↦ inl past
      | inr later ↦ inr (subst (λ (l : List Moment). LeftAt (moment old) l image n) (sym goes.follows) later)
    ]

-- Where nothing was said, what was left when more had been said was left from then on.
pub left_after : {P : Moment → Type 0} (old opened new : Outside) (image : List ℕ) (n : ℕ) → Goes (λ at. at.said ≡ old.now.said) old opened → Goes P opened new → Left (moment old) new image n → length old.now.said < n
    → Left (moment opened) new image n
left_after old opened new image n silent goes left more = elim (Left-split (moment old) opened new image n goes left) [
  | inr later ↦ later
  | inl past ↦ elim (Left-since image n silent past) [
    | inl here ↦ let same = here.1 in absurd (omega arith)
    | inr by ↦ let same = by.said in let said = ap length by.holds in absurd (omega arith)
  ]
]

pub left_later : {P : Moment → Type 0} (old opened new : Outside) (image : List ℕ) (n : ℕ) → GoesInSilence old opened → Goes P opened new → Left (moment old) new image n → length old.now.said < n
    → Left (moment opened) new image n
left_later old opened new image n silence goes left more = left_after old opened new image n silence.moments goes left more

-- while a line is said the disk stays, and so what a crash may leave
pub still_allowed : (line : List ℕ) (state : State World) (old new : Outside) → state.disk ≡ old.now.disk → IsSteady state → Goes (IsSaying line old.now) old new
    → (image : List ℕ) (n : ℕ) → Left (moment old) new image n → IsAllowed state image
still_allowed line state old new same steady goes image n left =
    let P : DiskState → Type 0 = λ disk. IsImage disk image in
    elim (Left-since image n goes left) [
      | inl now ↦ steady.allowed image (subst P (sym same) now.0)
      | inr by ↦ steady.allowed image (subst P (by.holds.disk ∙ sym same) by.is_image)
    ]

-- A greeting that was said in part leaves what the opening state allows.
pub safe_in_part : (line front : List ℕ) (world : World) (opened new : Outside) → IsSteady (state_of world opened) → Speaks line front opened new
    → IsSafeGreeting (state_of world opened) (moment opened) (length opened.now.said) (moment opened) (length opened.now.said + length line) new
safe_in_part line front world opened new steady speaks = record {
  from_opening = λ image n left short. still_allowed line (state_of world opened) opened new refl steady speaks.moments image n left;
  from_greeting = λ image n left begun short. still_allowed line (state_of world opened) opened new refl steady speaks.moments image n left;
}

module _ (viewers : List Meaning) (end : End) (line : List ℕ) (world last : World) (opened greeted new : Outside) (some : 0 < length line) (speaks : Speaks line line opened greeted)
    (serves : Serves (machine viewers) max_budget end world last greeted new) where
  whole_said : length greeted.now.said ≡ length opened.now.said + length line
  whole_said = ap length speaks.spoke ∙ length-append opened.now.said line

  -- while fewer bytes had been said than the whole greeting, what was left was left while it was being said
  before_greeted : (image : List ℕ) (n : ℕ) → Left (moment opened) new image n → n < length opened.now.said + length line → Left (moment opened) greeted image n
  before_greeted image n left short =
      let said = whole_said in
      elim (Left-split (moment opened) greeted new image n serves.later.moments left) [
        | inl before ↦ before
        | inr now ↦ elim (Left-since image n serves.later.moments now) [
          | inl here ↦ let same = here.1 in absurd (omega arith)
          | inr by ↦ let same = by.said in let more = by.holds in absurd (omega arith)
        ]
      ]

  pub safe_greeting : IsSteady (state_of world opened)
      → IsSafeGreeting (state_of world opened) (moment opened) (length opened.now.said) (moment opened) (length opened.now.said + length line) new
  safe_greeting steady = record {
    from_opening = λ image n left short. still_allowed line (state_of world opened) opened greeted refl steady speaks.moments image n (before_greeted image n left short);
    from_greeting = λ image n left begun short. still_allowed line (state_of world opened) opened greeted refl steady speaks.moments image n (before_greeted image n left short);
  }

  -- an image that was left when all of the greeting had been said, and no line was served yet
  at_greeting : (image : List ℕ) (n : ℕ) → Left (moment opened) greeted image n → length opened.now.said + length line ≤ n → Left (moment greeted) new image n
  at_greeting image n left whole =
      let said = whole_said in
      let P : DiskState → Type 0 = λ disk. IsImage disk image in
      elim (Left-since image n speaks.moments left) [
        | inl here ↦ let same = here.1 in absurd (omega arith)
        | inr by ↦
            let holds = by.holds in
            let within = holds.within in
            let part = length-take-le holds.part line within in
            let sizes = ap length holds.said ∙ length-append opened.now.said (take holds.part line) in
            let same : n ≡ length greeted.now.said = let is = by.said in omega arith in
            let here : IsImage greeted.now.disk image = subst P (holds.disk ∙ sym speaks.disk) by.is_image in
            subst (λ (m : ℕ). Left (moment greeted) new image m) (sym same) (Left-kept (moment greeted) image (length greeted.now.said) serves.later.moments (Left-now (moment greeted) greeted image (omega arith) here))
      ]

  pub safe_serving : IsSafeServing viewers (state_of world opened) serves.turns (moment opened) (length opened.now.said + length line) new
  safe_serving image n left whole =
      let from : Left (moment greeted) new image n = elim (Left-split (moment opened) greeted new image n serves.later.moments left) [
        | inl before ↦ at_greeting image n before whole
        | inr now ↦ now
      ] in
      let same : state_of world greeted ≡ state_of world opened = let disk = speaks.disk in let faults = speaks.disk_faults in rw (disk, faults) refl in
      subst (λ (state : State World). MayStand (machine viewers) state serves.turns (n - (length opened.now.said + length line)) image) same
      (subst (λ (m : ℕ). MayStand (machine viewers) (state_of world greeted) serves.turns (n - m) image) whole_said (serves.crash image n from))

-- What was said from the opening on is said from before it on.
module _ {P : Moment → Type 0} (old opened new : Outside) (silence : GoesInSilence old opened) (goes : Goes P opened new) where
  same_said : length opened.now.said ≡ length old.now.said
  same_said = ap length silence.said

  pub safe_greeting_since : (state : State World) (more : ℕ) → IsSafeGreeting state (moment opened) (length opened.now.said) (moment opened) (length opened.now.said + more) new
      → IsSafeGreeting state (moment old) (length old.now.said) (moment opened) (length old.now.said + more) new
  safe_greeting_since state more safe =
      let same = same_said in
      record {
        from_opening = λ image n left short. safe.from_opening image n left (omega arith);
        from_greeting = λ image n left begun short. safe.from_opening image n (left_later old opened new image n silence goes left begun) (omega arith);
      }

  pub safe_serving_since : (viewers : List Meaning) (state : State World) (turns : List (Turn World)) (more : ℕ) → 0 < more → IsSafeServing viewers state turns (moment opened) (length opened.now.said + more) new
      → IsSafeServing viewers state turns (moment old) (length old.now.said + more) new
  safe_serving_since viewers state turns more some safe image n left whole =
      let same = same_said in
      subst (λ (m : ℕ). MayStand (machine viewers) state turns (n - (m + more)) image) same
      (safe image n (left_later old opened new image n silence goes left (omega arith)) (omega arith))

  pub safe_sample_since : (state : State World) → IsSafeSample state (moment opened) (length opened.now.said) new → IsSafeSample state (moment old) (length old.now.said) new
  safe_sample_since state safe image n left begun =
      let same = same_said in
      safe image n (left_later old opened new image n silence goes left begun) (omega arith)

-- the line of a sample is said once all its lines were answered in silence
pub safe_sample : (line : List ℕ) (last : World) (opened answered new : Outside) → GoesInSilence opened answered → IsSteady (state_of last answered) → Goes (IsSaying line answered.now) answered new
    → state_of last new ≡ state_of last answered → IsSafeSample (state_of last new) (moment opened) (length opened.now.said) new
safe_sample line last opened answered new silence steady goes same image n left begun =
    subst (λ (state : State World). IsAllowed state image) (sym same)
    (still_allowed line (state_of last answered) answered new refl steady goes image n (left_later opened answered new image n silence goes left begun))
