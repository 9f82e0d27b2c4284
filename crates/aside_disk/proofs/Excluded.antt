-- Where an image is an aside file, none of its tests refuses it.
use Rattle.std.proofs.Common.{◌≡◌, refl, sym, ◌∙◌, ap, subst, ℕ, ◌<◌, ◌≤◌, ◌⊎◌, inl, inr, ⊎_elim, List, length, arith, Option, Some, None}
use Rattle.std.proofs.lemmas.Bool.{cases_eq}
use Rattle.free_space.proofs.ExtentLemmas.{extent_len-least}
use Rattle.commit_marks.specs.declared.mark.Mark.{Mark}
use Rattle.commit_marks.specs.Marks.{Chooses, FitsFile, HasMark, HasOneNumber, HasOther, IsOpen, other_slot}
use Rattle.commit_marks.proofs.Bodies.{one_mark}
use Rattle.commit_marks.proofs.Chosen.{marks_unique, open_from_mark}
use Rattle.aside_disk.specs.declared.error.BaseRecord.{BaseRecord}
use Rattle.aside_disk.specs.Records.{Entry}
use Rattle.aside_disk.specs.Logical.{HasLog, IsLogMark}
use Rattle.aside_disk.specs.Refusals.{HasNoLogMark, HasNoMarks}

-- the mark of a log fits its file
pub log_fits : (image : List ℕ) (chosen : Mark) → IsLogMark chosen → chosen.end ≤ length image → FitsFile (length image) chosen
log_fits image chosen rules within =
    let e = rules.end in
    let b = rules.based in
    let a = rules.aligned in
    let p = rules.place in
    record {
      aligned = omega (arith, e, a);
      behind = omega (arith, e, b);
      within = within;
      dir = record {
        aligned = omega (arith, p);
        behind = omega (arith, p);
        some = omega (arith, b);
        within = let least = extent_len-least chosen.len chosen.len a (omega arith) in omega (arith, p, e, least);
      };
    }

module _ (image : List ℕ) (slot : ℕ) (chosen : Mark) (other : Option Mark) (chooses : Chooses image slot chosen other) where
  -- what stands in an open slot
  pub in_slot : (o : Option Mark) → HasOther image (other_slot slot) chosen o → (s : ℕ) → s ≤ 1 → IsOpen image s → (m : Mark) × HasMark image s m × ((s ≡ slot) × (m ≡ chosen) ⊎ ((s ≡ other_slot slot) × (m.number < chosen.number)))
  in_slot o beside s low is = ⊎_elim
      (λ same. (chosen, subst (λ (k : ℕ). HasMark image k chosen) (sym same) chooses.here, inl (same, refl)))
      (λ differ. let there : s ≡ other_slot slot = let l = chooses.low in omega (arith, low, l, differ) in there_is o beside there)
      (cases_eq s slot)
    where
      there_is : (o : Option Mark) → HasOther image (other_slot slot) chosen o → s ≡ other_slot slot → (m : Mark) × HasMark image s m × ((s ≡ slot) × (m ≡ chosen) ⊎ ((s ≡ other_slot slot) × (m.number < chosen.number)))
      there_is None shut there = absurd (shut (subst (λ (k : ℕ). IsOpen image k) there is))
      there_is (Some m) has there = (m, subst (λ (k : ℕ). HasMark image k m) (sym there) has.0, inr (there, has.1))

  pub marks_differ : HasOneNumber image → ⊥
  marks_differ one =
      let first = in_slot other chooses.beside 0 (omega arith) (open_from_mark image 0 one.0 chooses.headed (omega arith) one.2) in
      let then = in_slot other chooses.beside 1 (omega arith) (open_from_mark image 1 one.1 chooses.headed (omega arith) one.3) in
      let a : one.0 ≡ first.0 = one_mark image 0 one.0 first.0 one.2 first.1 in
      let b : one.1 ≡ then.0 = one_mark image 1 one.1 then.0 one.3 then.1 in
      let numbers : first.0.number ≡ then.0.number = sym (ap (λ (m : Mark). m.number) a) ∙ one.4 ∙ ap (λ (m : Mark). m.number) b in
      ⊎_elim
      (λ here. ⊎_elim (λ also. let x = here.0 in let y = also.0 in omega (arith, x, y)) (λ there. let c = ap (λ (m : Mark). m.number) here.1 in let l = there.1 in omega (arith, numbers, c, l)) then.2)
      (λ there. ⊎_elim (λ here. let c = ap (λ (m : Mark). m.number) here.1 in let l = there.1 in omega (arith, numbers, c, l)) (λ also. let x = there.0 in let y = also.0 in let l = chooses.low in omega (arith, x, y, l)) then.2)
      first.2

  -- they are refused by no test of marks
  pub marks_stand : FitsFile (length image) chosen → (place : ℕ) → ¬ HasNoMarks image place
  marks_stand fits place refuses = ⊎_elim
      (λ short. short.0 chooses.headed)
      (λ others. ⊎_elim
      (λ none. ⊎_elim (λ zero. none.0.1 (subst (λ (k : ℕ). IsOpen image k) zero here)) (λ more. let one : slot ≡ 1 = let l = chooses.low in omega (arith, more, l) in none.0.2 (subst (λ (k : ℕ). IsOpen image k) one here)) (cases_eq slot 0))
      (λ bad. ⊎_elim
      (λ spoiled. let s = in_slot other chooses.beside spoiled.0 spoiled.1.0 spoiled.1.1.opened in spoiled.1.1.spoiled s.0 s.1)
      (λ more. ⊎_elim (λ one. marks_differ one.0)
      (λ wide. let u = marks_unique image slot wide.0 chosen wide.1 other wide.2 chooses wide.3 in wide.4 (subst (λ (m : Mark). FitsFile (length image) m) u.1 fits))
      more)
      bad.1)
      others)
      refuses
    where
      here : IsOpen image slot
      here = open_from_mark image slot chosen chooses.headed chooses.low chooses.here

  -- nor by the test of the chosen one
  pub log_mark_stands : IsLogMark chosen → (place : ℕ) → ¬ HasNoLogMark image place
  log_mark_stands rules place refuses =
      let u = marks_unique image slot refuses.slot chosen refuses.chosen other refuses.other chooses refuses.marks.chooses in
      refuses.breaks (subst IsLogMark u.1 rules)

-- so the marks of an aside file are those that are read of it
pub marks_of_log : (kept : BaseRecord) (image : List ℕ) (slot : ℕ) (chosen : Mark) (other : Option Mark) (entries : List Entry) → HasLog kept image slot chosen other entries → (place : ℕ) → HasNoMarks image place ⊎ HasNoLogMark image place → ⊥
marks_of_log kept image slot chosen other entries has place refuses = ⊎_elim
    (marks_stand image slot chosen other has.chooses (log_fits image chosen has.mark has.within) place)
    (log_mark_stands image slot chosen other has.chooses has.mark place) refuses
