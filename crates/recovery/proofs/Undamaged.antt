-- A file that stands for a commit is not refused.
use Rattle.std.proofs.Common.{◌≡◌, ℕ, zero, suc, ◌<◌, ◌≤◌, List, Option, Some, None, refl, ap, sym, subst, inl, inr, arith}
use Rattle.std.specs.Prelude.{◌⊎◌}
use Rattle.commit_marks.specs.declared.mark.Mark.{Mark}
use Rattle.commit_marks.specs.Marks.{Chooses, HasMark, HasOneNumber, HasOther, IsBadMark, IsHeaded, IsOpen, other_slot, slot_place}
use Rattle.commit_marks.proofs.Bodies.{one_mark}
use Rattle.commit_marks.proofs.Chosen.{marks_unique, open_from_mark}
use Rattle.recovery.specs.Commits.{Commit}
use Rattle.recovery.specs.Refusals.{IsDamagedAt, IsRefusedAt}
use Rattle.recovery.specs.Standing.{Stands, StandsFor}
use Rattle.recovery.specs.Opening.{NamesCause}
use Rattle.recovery.specs.declared.error.OpenError.{OpenError}
use Rattle.recovery.specs.declared.error.OpenError.TheVariants.{NotAStore, Damaged, Failed, Memory}
use Rattle.recovery.proofs.Exact.{not_refused}

-- a slot is one of the two
one_of_two : (s t : ℕ) → s ≤ 1 → t ≤ 1 → (s ≡ t) ⊎ (s ≡ other_slot t)
one_of_two zero zero low high = inl refl
one_of_two (suc zero) zero low high = inr refl
one_of_two zero (suc zero) low high = inr refl
one_of_two (suc zero) (suc zero) low high = inl refl
one_of_two (suc (suc s)) t low high = absurd (omega (arith, low))
one_of_two zero (suc (suc t)) low high = absurd (omega (arith, high))
one_of_two (suc zero) (suc (suc t)) low high = absurd (omega (arith, high))

refused_under : (image : List ℕ) (slot place : ℕ) (m : Mark) (c : Commit) → Stands image m c → IsRefusedAt image slot m place → ⊥
refused_under image slot place m c stands refused =
    not_refused c image stands.whole stands.holds slot place (subst (λ (x : Mark). IsRefusedAt image slot x place) stands.mark refused)

-- the marks of an image are those that it chooses
module _ (image : List ℕ) (slot : ℕ) (m : Mark) (other : Option Mark) (chooses : Chooses image slot m other) where
  open_in_one : (s : ℕ) → (¬ IsOpen image 0) → (¬ IsOpen image 1) → s ≤ 1 → HasMark image s m → ⊥
  open_in_one zero first second low here = first (open_from_mark image 0 m chooses.headed low here)
  open_in_one (suc zero) first second low here = second (open_from_mark image 1 m chooses.headed low here)
  open_in_one (suc (suc s)) first second low here = absurd (omega (arith, low))

  pub not_closed : (¬ IsOpen image 0) → (¬ IsOpen image 1) → ⊥
  not_closed first second = open_in_one slot first second chooses.low chooses.here

  beside_not_spoiled : (o : Option Mark) (s : ℕ) → HasOther image s m o → IsOpen image s → ((n : Mark) → HasMark image s n → ⊥) → ⊥
  beside_not_spoiled None s closed opened none = closed opened
  beside_not_spoiled (Some n) s has opened none = none n has.0

  pub not_spoiled : (s : ℕ) → s ≤ 1 → IsOpen image s → ((n : Mark) → HasMark image s n → ⊥) → ⊥
  not_spoiled s low opened none =
      elim (one_of_two s slot low chooses.low) [
        | inl same ↦ none m (subst (λ (k : ℕ). HasMark image k m) (sym same) chooses.here)
        | inr beside ↦ beside_not_spoiled other s (subst (λ (k : ℕ). HasOther image k m other) (sym beside) chooses.beside) opened none
      ]

  -- a mark in the other slot has another number
  beside_differs : (o : Option Mark) (s : ℕ) (n : Mark) → IsHeaded image → s ≤ 1 → HasOther image s m o → HasMark image s n → n.number < m.number
  beside_differs None s n headed low closed has = absurd (closed (open_from_mark image s n headed low has))
  beside_differs (Some k) s n headed low others has = let same = one_mark image s k n others.0 has in subst (λ (x : Mark). x.number < m.number) same others.1

  numbers_differ : (s : ℕ) (one two : Mark) → HasMark image 0 one → HasMark image 1 two → one.number ≡ two.number → s ≤ 1 → HasMark image s m → HasOther image (other_slot s) m other → ⊥
  numbers_differ zero one two first second same low here beside =
      let is = one_mark image 0 m one here first in
      let below = beside_differs other 1 two chooses.headed (omega arith) beside second in
      let number : m.number ≡ one.number = ap (λ (x : Mark). x.number) is in omega (arith, below, same, number)
  numbers_differ (suc zero) one two first second same low here beside =
      let is = one_mark image 1 m two here second in
      let below = beside_differs other 0 one chooses.headed (omega arith) beside first in
      let number : m.number ≡ two.number = ap (λ (x : Mark). x.number) is in omega (arith, below, same, number)
  numbers_differ (suc (suc s)) one two first second same low here beside = absurd (omega (arith, low))

  pub not_one_number : HasOneNumber image → ⊥
  not_one_number (one, two, first, second, same) = numbers_differ slot one two first second same chooses.low chooses.here chooses.beside

  under_another : (c : Commit) → Stands image m c → (t : ℕ) (n : Mark) (two : Option Mark) (place : ℕ) → Chooses image t n two → IsRefusedAt image t n place → ⊥
  under_another c stands t n two place second refused =
      let one = marks_unique image slot t m n other two chooses second in
      refused_under image t place n c (subst (λ (x : Mark). Stands image x c) one.1 stands) refused

  not_bad : (c : Commit) → Stands image m c → (place : ℕ) → IsBadMark image place → ⊥
  not_bad c stands place (inl (s, first, is)) = not_spoiled s first.0 first.1.opened first.1.spoiled
  not_bad c stands place (inr (inl one)) = not_one_number one.0
  not_bad c stands place (inr (inr (t, n, two, second, unfit, is))) = under_another c stands t n two (slot_place t) second (inl (unfit, refl))

  pub not_damaged : (c : Commit) → Stands image m c → (place : ℕ) → IsDamagedAt image place → ⊥
  not_damaged c stands place (inl bad) = not_bad c stands place bad.1
  not_damaged c stands place (inr (inl closed)) = not_closed closed.0.1 closed.0.2
  not_damaged c stands place (inr (inr (t, n, two, second, refused))) = under_another c stands t n two place second refused

-- opening a file that stands for a commit is refused by the disk or for want of memory alone
pub no_cause : (image : List ℕ) (c : Commit) (e : OpenError) → StandsFor image c → NamesCause image e → (e ≡ Failed) ⊎ (e ≡ Memory)
no_cause image c NotAStore (slot, m, other, chooses, stands) cause = absurd (cause chooses.headed)
no_cause image c (Damaged place) (slot, m, other, chooses, stands) cause = absurd (not_damaged image slot m other chooses c stands place cause)
no_cause image c Failed stands cause = inl refl
no_cause image c Memory stands cause = inr refl
