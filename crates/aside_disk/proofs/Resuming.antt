-- A sync that failed: which log is found when the disk is synced and its marks are read again, and how records go on behind it.
use Rattle.std.proofs.Common.{sym, ◌∙◌, ℕ, ◌+◌, ◌≤◌, ◌⊎◌, inl, inr, ⊎_elim, List, [], ◌∷◌, ◌++◌, arith, slice_index, Option, Some, None}
use Rattle.std.proofs.lemmas.Bool.{cases_eq}
use Rattle.host_io.specs.Disk.{DiskState, IsImage, IsSound, Range, settled}
use Rattle.host_io.specs.Ranges.{AgreesBut, AreWithin, WritesOnly, WritesWithin}
use Rattle.host_io.proofs.Images.{IsSettled-settled}
use Rattle.host_io.proofs.Ranges.{images_agree, within_wider, writes_only_begins, writes_only_goes_on}
use Rattle.commit_marks.specs.declared.mark.Mark.{Mark}
use Rattle.commit_marks.specs.Marks.{IsOpen, body_range, gate_range, open_byte, other_slot, slot_place}
use Rattle.commit_marks.proofs.Chosen.{gate_on}
use Rattle.aside_disk.specs.declared.error.BaseRecord.{BaseRecord}
use Rattle.aside_disk.specs.Records.{Entry}
use Rattle.aside_disk.specs.Logical.{HasLog}
use Rattle.aside_disk.specs.Phases.{IsInPhase, IsNext, closing, ended, opening, tail_range, waiting, writing}
use Rattle.aside_disk.proofs.Phases.{next_log, other_low, shut_log, still_open, tail_clear, tail_log}
use Rattle.aside_disk.proofs.Steps.{widen_only}

module _ (kept : BaseRecord) (slot : ℕ) (chosen next : Mark) (other : Option Mark) (old more : List Entry) (low : slot ≤ 1) (is_next : IsNext kept chosen next old more) where
  -- an image holds the old log, with the mark beside it that it had or with none, or the next one with the old one's mark beside it
  abbrev pub Found : List ℕ → Type 0
  Found image = HasLog kept image slot chosen other old ⊎ (HasLog kept image slot chosen None old ⊎ HasLog kept image (other_slot slot) next (Some chosen) (old ++ more))

  pub phase_found : (disk : DiskState) (image : List ℕ) → IsInPhase kept slot chosen next other old more disk → IsImage disk image → Found image
  phase_found disk image (waiting synced reach has only) is =
      inl (tail_log kept slot chosen next other old more low old synced image reach slot chosen other low has (images_agree (tail_range chosen.end reach ∷ []) synced disk image only is))
  phase_found disk image (closing synced reach has was only) is = ⊎_elim
      (λ open_. inl (tail_log kept slot chosen next other old more low old synced image reach slot chosen other low has (still_open kept slot chosen next other old more low is_next synced image reach was open_ agrees)))
      (λ shut. inr (inl (shut_log kept slot chosen next other old more low other synced image (gate_range (other_slot slot)) chosen.end reach (omega arith) (omega arith) (omega arith) has agrees shut)))
      (cases_eq (slice_index image (slot_place (other_slot slot))) open_byte)
    where
      agrees : AgreesBut (gate_range (other_slot slot) ∷ tail_range chosen.end reach ∷ []) synced image
      agrees = images_agree (gate_range (other_slot slot) ∷ tail_range chosen.end reach ∷ []) synced disk image only is
  phase_found disk image (writing closed reach has only) is =
      inr (inl (shut_log kept slot chosen next other old more low None closed image (body_range (other_slot slot)) chosen.end reach (omega arith) (omega arith) (omega arith) has agrees shut))
    where
      agrees : AgreesBut (body_range (other_slot slot) ∷ tail_range chosen.end reach ∷ []) closed image
      agrees = images_agree (body_range (other_slot slot) ∷ tail_range chosen.end reach ∷ []) closed disk image only is

      shut : ¬ IsOpen image (other_slot slot)
      shut open_ = has.chooses.beside (sym (gate_on (body_range (other_slot slot) ∷ tail_range chosen.end reach ∷ []) closed image (other_slot slot) (other_low slot)
          (λ among. ⊎_elim (λ here. let a = here.0 in omega (arith, a)) (λ there. tail_clear chosen.end reach (record { start = 0; count = 192 }) (let e = has.mark.end in let b = has.mark.based in omega (arith, e, b)) (slot_place (other_slot slot)) (omega arith, omega arith) there) among)
          agrees has.chooses.headed) ∙ open_)
  phase_found disk image (opening full reach has written only) is = ⊎_elim
      (λ open_. inr (inr (next_log kept slot chosen next other old more low is_next full image reach has written agrees open_)))
      (λ shut. inr (inl (shut_log kept slot chosen next other old more low None full image (gate_range (other_slot slot)) next.end reach (omega arith) (omega arith) is_next.longer has agrees shut)))
      (cases_eq (slice_index image (slot_place (other_slot slot))) open_byte)
    where
      agrees : AgreesBut (gate_range (other_slot slot) ∷ tail_range next.end reach ∷ []) full image
      agrees = images_agree (gate_range (other_slot slot) ∷ tail_range next.end reach ∷ []) full disk image only is
  phase_found disk image (ended synced reach has only) is =
      inr (inr (tail_log kept slot chosen next other old more low (old ++ more) synced image reach (other_slot slot) next (Some chosen) (other_low slot) has (images_agree (tail_range next.end reach ∷ []) synced disk image only is)))

  -- the tail reaches further
  reach_on : (first : List Range) (synced : List ℕ) (end reach at n : ℕ) (was is : DiskState) → end ≤ at → WritesWithin (tail_range at n ∷ []) was is
      → (ranges : ℕ → List Range) → ((r : ℕ) → AreWithin (tail_range end r ∷ []) (ranges r)) → ((r s : ℕ) → r ≤ s → AreWithin (ranges r) (ranges s))
      → WritesOnly (ranges reach) synced was → WritesOnly (ranges (reach + (at + n))) synced is
  reach_on first synced end reach at n was is behind writes ranges inside wider only =
      let far : ℕ = reach + (at + n) in
      writes_only_goes_on (ranges far) synced was is (widen_only (ranges reach) (ranges far) synced was (wider reach far (omega arith)) only)
      (within_wider (tail_range at n ∷ []) (ranges far) was is
      (λ place among. inside far place (⊎_elim (λ here. inl (let a = here.0 in omega (arith, a, behind), let b = here.1 in omega (arith, b))) (λ none. absurd none) among)) writes)

  wider_tail : (end r s : ℕ) → r ≤ s → AreWithin (tail_range end r ∷ []) (tail_range end s ∷ [])
  wider_tail end r s le place among = ⊎_elim (λ here. inl (here.0, let b = here.1 in omega (arith, b, le))) (λ none. absurd none) among

  wider_both : (first : Range) (end r s : ℕ) → r ≤ s → AreWithin (first ∷ tail_range end r ∷ []) (first ∷ tail_range end s ∷ [])
  wider_both first end r s le place among = ⊎_elim (λ here. inl here) (λ there. inr (wider_tail end r s le place there)) among

  -- Records that are written behind the next log leave the sync in its phase.
  pub phase_on : (at n : ℕ) (was is : DiskState) → next.end ≤ at → WritesWithin (tail_range at n ∷ []) was is
      → IsInPhase kept slot chosen next other old more was → IsInPhase kept slot chosen next other old more is
  phase_on at n was is behind writes (waiting synced reach has only) =
      waiting synced (reach + (at + n)) has (reach_on [] synced chosen.end reach at n was is (let l = is_next.longer in omega (arith, l, behind)) writes (λ r. tail_range chosen.end r ∷ []) (λ r place among. among) (wider_tail chosen.end) only)
  phase_on at n was is behind writes (closing synced reach has was_open only) =
      closing synced (reach + (at + n)) has was_open (reach_on [] synced chosen.end reach at n was is (let l = is_next.longer in omega (arith, l, behind)) writes (λ r. gate_range (other_slot slot) ∷ tail_range chosen.end r ∷ []) (λ r place among. inr among) (wider_both (gate_range (other_slot slot)) chosen.end) only)
  phase_on at n was is behind writes (writing closed reach has only) =
      writing closed (reach + (at + n)) has (reach_on [] closed chosen.end reach at n was is (let l = is_next.longer in omega (arith, l, behind)) writes (λ r. body_range (other_slot slot) ∷ tail_range chosen.end r ∷ []) (λ r place among. inr among) (wider_both (body_range (other_slot slot)) chosen.end) only)
  phase_on at n was is behind writes (opening full reach has written only) =
      opening full (reach + (at + n)) has written (reach_on [] full next.end reach at n was is behind writes (λ r. gate_range (other_slot slot) ∷ tail_range next.end r ∷ []) (λ r place among. inr among) (wider_both (gate_range (other_slot slot)) next.end) only)
  phase_on at n was is behind writes (ended synced reach has only) =
      ended synced (reach + (at + n)) has (reach_on [] synced next.end reach at n was is behind writes (λ r. tail_range next.end r ∷ []) (λ r place among. among) (wider_tail next.end) only)

  -- what is read is one of the images
  pub phase_sound : (disk : DiskState) → IsInPhase kept slot chosen next other old more disk → IsSound disk
  phase_sound disk (waiting synced reach has only) = only.sound
  phase_sound disk (closing synced reach has was only) = only.sound
  phase_sound disk (writing closed reach has only) = only.sound
  phase_sound disk (opening full reach has written only) = only.sound
  phase_sound disk (ended synced reach has only) = only.sound

  -- A sync of the disk alone leaves the sync of the log in one of its phases.
  pub phase_settles : (disk : DiskState) → IsInPhase kept slot chosen next other old more disk → IsInPhase kept slot chosen next other old more (settled disk.seen)
  phase_settles disk phase = ⊎_elim
      (λ was. waiting disk.seen 0 was (writes_only_begins (tail_range chosen.end 0 ∷ []) (settled disk.seen) (IsSettled-settled disk.seen)))
      (λ others. ⊎_elim
      (λ shut. writing disk.seen 0 shut (writes_only_begins (body_range (other_slot slot) ∷ tail_range chosen.end 0 ∷ []) (settled disk.seen) (IsSettled-settled disk.seen)))
      (λ new. ended disk.seen 0 new (writes_only_begins (tail_range next.end 0 ∷ []) (settled disk.seen) (IsSettled-settled disk.seen)))
      others)
      (phase_found disk disk.seen phase (phase_sound disk phase))
