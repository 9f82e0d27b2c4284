-- A file has one answer: what it stands for, or why it stands for nothing; and so has what stands before.
use Rattle.std.proofs.Common.{◌≡◌, ℕ, zero, suc, ◌<◌, ◌≤◌, List, Option, Some, None, refl, ap, sym, subst, ◌∙◌, inl, inr, ⊎_elim, arith}
use Rattle.std.proofs.lemmas.Bool.{cases_lt}
use Rattle.commit_marks.specs.declared.mark.Mark.{Mark}
use Rattle.commit_marks.specs.Marks.{Chooses, HasOneNumber, HasOther, IsFirstSpoiled, IsHeaded, IsMark, IsOpen, other_slot, slot_place}
use Rattle.commit_marks.proofs.Chosen.{marks_unique, open_from_mark}
use Rattle.recovery.specs.Commits.{Commit}
use Rattle.recovery.specs.Refusals.{Finds, Found, IsBefore, IsDamagedAt, IsOlder, IsRefusedAt, Older, broken, commit, damaged, no_older, no_store, whole}
use Rattle.recovery.specs.Standing.{Stands, StandsFor}
use Rattle.recovery.proofs.Exact.{not_refused}
use Rattle.recovery.proofs.OneCommit.{one_commit}
use Rattle.recovery.proofs.OneRefusal.{one_refused_at}
use Rattle.recovery.proofs.Undamaged.{not_closed, not_damaged, not_one_number, not_spoiled}

pub one_standing : (image : List ℕ) (c d : Commit) → StandsFor image c → StandsFor image d → c ≡ d
one_standing image c d (s, m, one, first, here) (t, n, two, second, there) =
    one_commit image m c d here (subst (λ (x : Mark). Stands image x d) (sym (marks_unique image s t m n one two first second).1) there)

module _ (image : List ℕ) where
  -- a slot is spoiled, both marks have one number, no gate is open, or nothing stands under the mark that is chosen
  data Cause (place : ℕ) : Type 0 where
    spoiled : (s : ℕ) → IsFirstSpoiled image s → place ≡ slot_place s → Cause place
    doubled : HasOneNumber image → place ≡ slot_place 1 → Cause place
    closed : (¬ IsOpen image 0) → (¬ IsOpen image 1) → place ≡ slot_place 0 → Cause place
    under : (s : ℕ) (m : Mark) (other : Option Mark) → Chooses image s m other → IsRefusedAt image s m place → Cause place

  cause_of : (place : ℕ) → IsDamagedAt image place → Cause place
  cause_of place (inl (headed, inl (s, first, is))) = spoiled s first is
  cause_of place (inl (headed, inr (inl (one, is)))) = doubled one is
  cause_of place (inl (headed, inr (inr (s, m, other, chooses, unfit, is)))) = under s m other chooses (inl (unfit, is))
  cause_of place (inr (inl ((headed, first, second), is))) = closed first second is
  cause_of place (inr (inr (s, m, other, chooses, refused))) = under s m other chooses refused

  headed_of : (place : ℕ) → IsDamagedAt image place → IsHeaded image
  headed_of place (inl (headed, bad)) = headed
  headed_of place (inr (inl ((headed, first, second), is))) = headed
  headed_of place (inr (inr (s, m, other, chooses, refused))) = chooses.headed

  module _ (headed : IsHeaded image) where
    first_is_one : (s t : ℕ) → IsFirstSpoiled image s → IsFirstSpoiled image t → s ≡ t
    first_is_one s t one other = ⊎_elim
        (λ (before : s < t). absurd (other.2 s before one.1))
        (λ (not_before : t ≤ s). ⊎_elim (λ (behind : t < s). absurd (one.2 t behind other.1)) (λ (not_behind : s ≤ t). omega (arith, not_before, not_behind)) (cases_lt t s))
        (cases_lt s t)

    spoiled_or_doubled : (s : ℕ) → IsFirstSpoiled image s → HasOneNumber image → ⊥
    spoiled_or_doubled zero first (one, two, here, there, same) = first.1.spoiled one here
    spoiled_or_doubled (suc zero) first (one, two, here, there, same) = first.1.spoiled two there
    spoiled_or_doubled (suc (suc s)) first doubles = let low = first.0 in omega (arith, low)

    spoiled_or_closed : (s : ℕ) → IsFirstSpoiled image s → (¬ IsOpen image 0) → (¬ IsOpen image 1) → ⊥
    spoiled_or_closed zero first none_first none_second = none_first first.1.opened
    spoiled_or_closed (suc zero) first none_first none_second = none_second first.1.opened
    spoiled_or_closed (suc (suc s)) first none_first none_second = let low = first.0 in omega (arith, low)

    doubled_or_closed : HasOneNumber image → (¬ IsOpen image 0) → ⊥
    doubled_or_closed (one, two, here, there, same) none = none (open_from_mark image 0 one headed (omega arith) here)

    spoiled_or_chosen : (s t : ℕ) (m : Mark) (other : Option Mark) → IsFirstSpoiled image s → Chooses image t m other → ⊥
    spoiled_or_chosen s t m other first chooses = not_spoiled image t m other chooses s first.0 first.1.opened first.1.spoiled

    one_place : (p q : ℕ) → Cause p → Cause q → p ≡ q
    one_place p q (spoiled s one is) (spoiled t other at) = is ∙ ap slot_place (first_is_one s t one other) ∙ sym at
    one_place p q (spoiled s first is) (doubled one at) = absurd (spoiled_or_doubled s first one)
    one_place p q (spoiled s first is) (closed none nor at) = absurd (spoiled_or_closed s first none nor)
    one_place p q (spoiled s first is) (under t m other chooses refused) = absurd (spoiled_or_chosen s t m other first chooses)
    one_place p q (doubled one is) (spoiled t first at) = absurd (spoiled_or_doubled t first one)
    one_place p q (doubled one is) (doubled other at) = is ∙ sym at
    one_place p q (doubled one is) (closed none nor at) = absurd (doubled_or_closed one none)
    one_place p q (doubled one is) (under t m other chooses refused) = absurd (not_one_number image t m other chooses one)
    one_place p q (closed none nor is) (spoiled t first at) = absurd (spoiled_or_closed t first none nor)
    one_place p q (closed none nor is) (doubled one at) = absurd (doubled_or_closed one none)
    one_place p q (closed none nor is) (closed none_too nor_too at) = is ∙ sym at
    one_place p q (closed none nor is) (under t m other chooses refused) = absurd (not_closed image t m other chooses none nor)
    one_place p q (under s m other chooses refused) (spoiled t first at) = absurd (spoiled_or_chosen t s m other first chooses)
    one_place p q (under s m other chooses refused) (doubled one at) = absurd (not_one_number image s m other chooses one)
    one_place p q (under s m other chooses refused) (closed none nor at) = absurd (not_closed image s m other chooses none nor)
    one_place p q (under s m one first refused) (under t n two second refused_too) =
        let same = marks_unique image s t m n one two first second in
        one_refused_at image m first.here.good s p q refused
        (subst (λ (k : ℕ). IsRefusedAt image k m q) (sym same.0) (subst (λ (x : Mark). IsRefusedAt image t x q) (sym same.1) refused_too))

  stands_or_damaged : (c : Commit) (place : ℕ) → StandsFor image c → IsDamagedAt image place → ⊥
  stands_or_damaged c place (s, m, other, chooses, stands) harmed = not_damaged image s m other chooses c stands place harmed

  pub one_answer : (one other : Found) → Finds image one → Finds image other → one ≡ other
  one_answer (commit c) (commit d) h g = ap commit (one_standing image c d h g)
  one_answer (commit c) no_store h g = absurd (g h.3.headed)
  one_answer (commit c) (damaged q) h g = absurd (stands_or_damaged c q h g)
  one_answer no_store (commit d) h g = absurd (h g.3.headed)
  one_answer no_store no_store h g = refl
  one_answer no_store (damaged q) h g = absurd (h (headed_of q g))
  one_answer (damaged p) (commit d) h g = absurd (stands_or_damaged d p g h)
  one_answer (damaged p) no_store h g = absurd (g (headed_of p h))
  one_answer (damaged p) (damaged q) h g = ap damaged (one_place (headed_of p h) p q (cause_of p h) (cause_of q g))

  whole_or_broken : (m : Mark) (c : Commit) (slot place : ℕ) → Stands image m c → IsRefusedAt image slot m place → ⊥
  whole_or_broken m c slot place stands refused =
      not_refused c image stands.whole stands.holds slot place (subst (λ (x : Mark). IsRefusedAt image slot x place) stands.mark refused)

  older_is_one : (slot : ℕ) (chosen : Mark) (other : Option Mark) (one two : Older) → HasOther image slot chosen other → IsOlder image slot other one → IsOlder image slot other two → one ≡ two
  older_is_one slot chosen None one two beside h g = h ∙ sym g
  older_is_one slot chosen (Some m) no_older two beside h g = absurd h
  older_is_one slot chosen (Some m) (whole c) no_older beside h g = absurd g
  older_is_one slot chosen (Some m) (whole c) (whole d) beside h g = ap whole (one_commit image m c d h g)
  older_is_one slot chosen (Some m) (whole c) (broken q) beside h g = absurd (whole_or_broken m c slot q h g)
  older_is_one slot chosen (Some m) (broken p) no_older beside h g = absurd g
  older_is_one slot chosen (Some m) (broken p) (whole d) beside h g = absurd (whole_or_broken m d slot p g h)
  older_is_one slot chosen (Some m) (broken p) (broken q) beside h g = ap broken (one_refused_at image m beside.0.good slot p q h g)

  pub one_before : (one other : Older) → IsBefore image one → IsBefore image other → one ≡ other
  one_before one other (s, m, beside, first, h) (t, n, besides, second, g) =
      let same = marks_unique image s t m n beside besides first second in
      older_is_one (other_slot s) m beside one other first.beside h
      (subst (λ (k : ℕ). IsOlder image (other_slot k) beside other) (sym same.0) (subst (λ (o : Option Mark). IsOlder image (other_slot t) o other) (sym same.2) g))
