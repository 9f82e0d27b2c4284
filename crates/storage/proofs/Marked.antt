-- A file that has marks is not refused for them.
use Rattle.std.proofs.Common.{◌≡◌, ◌≢◌, ℕ, ◌<◌, ◌≤◌, ◌⊎◌, inl, inr, ⊎_elim, List, length, refl, ap, sym, subst, ◌∙◌, arith, eqb-true, true≢false}
use Rattle.std.proofs.lemmas.Bool.{cases_eq, false≢true}
use Rattle.std.specs.Prelude.{Bool, true, false, cond, ◌==◌, Option, Some, None, is_some}
use Rattle.std.specs.Option.{option_map}
use Rattle.host_io.specs.Disk.{DiskState}
use Rattle.commit_marks.specs.declared.mark.Mark.{Mark}
use Rattle.commit_marks.specs.declared.error.MarkError.{MarkError}
use Rattle.commit_marks.specs.declared.error.MarkError.TheVariants.{NotAStore, NoOpenMark, BadMark, Failed}
use Rattle.commit_marks.specs.Marks.{AreMarks, Chooses, FitsFile, HasMark, HasOneNumber, IsBadMark, IsFirstSpoiled, IsMarkRefusal, IsOpen, IsSpoiled, other_slot, slot_place}
use Rattle.commit_marks.proofs.Bodies.{one_mark}
use Rattle.commit_marks.proofs.Chosen.{marks_unique, open_from_mark}
use Rattle.recovery.specs.Commits.{mark_of}
use Rattle.recovery.specs.declared.error.OpenError.{OpenError}
use Rattle.recovery.specs.declared.error.OpenError.TheVariants as open_error
use Rattle.recovery.specs.Opening.{NamesBroken}
use Rattle.recovery.specs.Refusals.{IsOlder, no_older}
use Rattle.storage.specs.Reverting.{NamesRefusal, cause_of_older}
use Rattle.storage.specs.Stored.{HasNumber, Rests, Stored, if_marked}

-- each open slot beside a chosen mark has a mark
beside_marked : (image : List ℕ) (slot : ℕ) (chosen : Mark) (other : Option Mark) → Chooses image slot chosen other → IsOpen image (other_slot slot) → (m : Mark) × HasMark image (other_slot slot) m × (m.number < chosen.number)
beside_marked image slot chosen None chooses opened = absurd (chooses.beside opened)
beside_marked image slot chosen (Some m) chooses opened = (m, chooses.beside.0, chooses.beside.1)

module _ (image : List ℕ) (slot : ℕ) (chosen : Mark) (other : Option Mark) (marks : AreMarks image slot chosen other) where
  here_or_beside : (s : ℕ) → s ≤ 1 → (s ≡ slot) ⊎ (s ≡ other_slot slot)
  here_or_beside s low = ⊎_elim inl (λ (differ : s ≢ slot). let a = marks.chooses.low in let by : s ≡ other_slot slot = omega (arith, a, low, differ) in inr by) (cases_eq s slot)

  not_spoiled : (s : ℕ) → s ≤ 1 → IsSpoiled image s → ⊥
  not_spoiled s low spoiled = ⊎_elim
      (λ (same : s ≡ slot). spoiled.spoiled chosen (subst (λ (k : ℕ). HasMark image k chosen) (sym same) marks.chooses.here))
      (λ (beside : s ≡ other_slot slot).
      let found = beside_marked image slot chosen other marks.chooses (subst (IsOpen image) beside spoiled.opened) in
      spoiled.spoiled found.0 (subst (λ (k : ℕ). HasMark image k found.0) (sym beside) found.1))
      (here_or_beside s low)

  beside_lesser : (n : Mark) → HasMark image (other_slot slot) n → n.number < chosen.number
  beside_lesser n is =
      let low : other_slot slot ≤ 1 = omega arith in
      let found = beside_marked image slot chosen other marks.chooses (open_from_mark image (other_slot slot) n marks.chooses.headed low is) in
      subst (λ (k : Mark). k.number < chosen.number) (one_mark image (other_slot slot) found.0 n found.1 is) found.2

  -- two marks in the two slots have two numbers
  two_numbers : (m n : Mark) (s t : ℕ) → s ≡ slot → t ≡ other_slot slot → HasMark image s m → HasMark image t n → m.number ≡ n.number → ⊥
  two_numbers m n s t here beside first second same =
      let is = one_mark image slot m chosen (subst (λ (k : ℕ). HasMark image k m) here first) marks.chooses.here in
      let number : m.number ≡ chosen.number = ap (λ (k : Mark). k.number) is in
      let below = beside_lesser n (subst (λ (k : ℕ). HasMark image k n) beside second) in
      absurd (omega (arith, number, below, same))

  one_number : HasOneNumber image → ⊥
  one_number h = ⊎_elim
      (λ (here : 0 ≡ slot). let by : 1 ≡ other_slot slot = omega (arith, here) in two_numbers h.0 h.1 0 1 here by h.2 h.3 h.4)
      (λ (beside : 0 ≡ other_slot slot). let a = marks.chooses.low in let by : 1 ≡ slot = omega (arith, beside, a) in two_numbers h.1 h.0 1 0 by beside h.3 h.2 (sym h.4))
      (here_or_beside 0 (omega arith))

  fits : (s : ℕ) (m : Mark) (o : Option Mark) → Chooses image s m o → (¬ FitsFile (length image) m) → ⊥
  fits s m o chooses not = not (subst (FitsFile (length image)) (marks_unique image slot s chosen m other o marks.chooses chooses).1 marks.fits)

  not_bad : (place : ℕ) → IsBadMark image place → ⊥
  not_bad place h = ⊎_elim
      (λ (spoiled : (s : ℕ) × IsFirstSpoiled image s × (place ≡ slot_place s)). not_spoiled spoiled.0 spoiled.1.0 spoiled.1.1)
      (λ (rest : (HasOneNumber image × (place ≡ slot_place 1)) ⊎ ((s : ℕ) × (m : Mark) × (o : Option Mark) × Chooses image s m o × (¬ FitsFile (length image) m) × (place ≡ slot_place s))). ⊎_elim
      (λ (one : HasOneNumber image × (place ≡ slot_place 1)). one_number one.0)
      (λ (unfit : (s : ℕ) × (m : Mark) × (o : Option Mark) × Chooses image s m o × (¬ FitsFile (length image) m) × (place ≡ slot_place s)). fits unfit.0 unfit.1 unfit.2 unfit.3 unfit.4)
      rest)
      h

  not_closed : (¬ IsOpen image 0) → (¬ IsOpen image 1) → ⊥
  not_closed first second =
      let opened = open_from_mark image slot chosen marks.chooses.headed marks.chooses.low marks.chooses.here in
      ⊎_elim
      (λ (here : 0 ≡ slot). first (subst (IsOpen image) (sym here) opened))
      (λ (beside : 0 ≡ other_slot slot). let a = marks.chooses.low in let by : slot ≡ 1 = omega (arith, beside, a) in second (subst (IsOpen image) by opened))
      (here_or_beside 0 (omega arith))

  pub marked-refusal : (e : MarkError) → IsMarkRefusal image e → e ≡ Failed
  marked-refusal NotAStore h = absurd (h marks.chooses.headed)
  marked-refusal (BadMark place) h = absurd (not_bad place h.1)
  marked-refusal NoOpenMark h = absurd (not_closed h.1 h.2)
  marked-refusal Failed h = refl

-- a file at rest has the marks of the store
pub resting_marks : (s : Stored) (disk : DiskState) → Rests s disk → AreMarks disk.seen s.slot (mark_of s.kept) s.other
resting_marks s disk rests =
    let fits = rests.holds.whole.fits in
    record {
      chooses = rests.chooses;
      fits = record { aligned = fits.aligned; behind = fits.behind; within = rests.holds.within; dir = fits.dir };
    }

-- none stands before where the other slot has no mark
pub none_older : (image : List ℕ) (slot : ℕ) (other : Option Mark) → IsOlder image slot other no_older → other ≡ None
none_older image slot None h = refl
none_older image slot (Some m) h = absurd h

pub none_before : (before : Option ℕ) (other : Option Mark) → ((number : ℕ) → before ≡ Some number → HasNumber number other) → other ≡ None → before ≡ None
none_before None other h e = refl
none_before (Some n) other h e = absurd (true≢false (ap is_some (sym (h n refl) ∙ ap (option_map (λ m. m.number)) e)))

-- a number of which the other slot has the mark
pub marked_number : (number : Option ℕ) (other : Option Mark) (n : ℕ) → if_marked number other ≡ Some n → HasNumber n other
marked_number None other n e = absurd (false≢true (ap is_some e))
marked_number (Some number) None n e = absurd (false≢true (ap is_some e))
marked_number (Some number) (Some m) n e = by_test (m.number == number) refl
  where
    by_test : (t : Bool) → (m.number == number) ≡ t → HasNumber n (Some m)
    by_test true same = ap Some (eqb-true m.number number same) ∙ sym (ap (λ (t : Bool). cond t (Some number) None) same) ∙ e
    by_test false differs = absurd (false≢true (ap is_some (sym (ap (λ (t : Bool). cond t (Some number) None) differs) ∙ e)))

-- why the commit before is not read
pub refused_older : (s : Stored) (image : List ℕ) (slot : ℕ) (chosen : Mark) (other : Option Mark) (e : OpenError) → Chooses image slot chosen other → NamesBroken image (other_slot slot) other e → NamesRefusal s image (cause_of_older e)
refused_older s image slot chosen other open_error.NotAStore chooses h = absurd h
refused_older s image slot chosen other (open_error.Damaged place) chooses h = (slot, chosen, other, chooses, h)
refused_older s image slot chosen other open_error.Failed chooses h = tt
refused_older s image slot chosen other open_error.Memory chooses h = tt
