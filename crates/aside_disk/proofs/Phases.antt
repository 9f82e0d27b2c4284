-- What an image of a sync holds: the old log, or the next one.
use Rattle.std.proofs.Common.{◌≡◌, refl, sym, ◌∙◌, subst, ℕ, ◌+◌, ◌≤◌, ◌⊎◌, inl, inr, ⊎_elim, List, [], ◌∷◌, ◌++◌, length, arith, slice_index, Option, Some, None}
use Rattle.std.proofs.lemmas.Bool.{cases_eq}
use Rattle.host_io.specs.Disk.{Range}
use Rattle.host_io.specs.Calls.{put_bytes}
use Rattle.host_io.specs.Ranges.{AgreesBut, IsClear, bytes_in}
use Rattle.host_io.proofs.Bytes.{length-put_bytes, slice_index-put_bytes_outside}
use Rattle.host_io.proofs.Ranges.{agrees_put, bytes_agree}
use Rattle.commit_marks.specs.declared.mark.Mark.{Mark}
use Rattle.commit_marks.specs.Marks.{Chooses, HasOther, IsOpen, gate_range, open_byte, other_slot, slot_place, slot_range}
use Rattle.commit_marks.proofs.Chosen.{closed_chooses, gate_on, gate_written, headed_on, header_range, marked_on, opened_chooses}
use Rattle.aside_disk.specs.Records.{Entry, Spells, applied}
use Rattle.aside_disk.specs.declared.error.BaseRecord.{BaseRecord}
use Rattle.aside_disk.specs.Logical.{HasLog, IsBased, Logical, base_range, record_of, records_range}
use Rattle.aside_disk.specs.Phases.{IsNext, IsWritten, tail_range}

pub other_low : (slot : ℕ) → other_slot slot ≤ 1
other_low slot = omega arith

-- ---- what lies clear of what

pub tail_clear : (end reach : ℕ) (range : Range) → range.start + range.count ≤ end → IsClear (tail_range end reach ∷ []) range
tail_clear end reach range below place within among =
    ⊎_elim (λ here. let a = here.0 in let w = within.1 in omega (arith, a, w, below)) (λ none. absurd none) among

-- a range before the tail, and clear of what stands before it
both_clear : (first : Range) (end reach : ℕ) (range : Range) → IsClear (first ∷ []) range → range.start + range.count ≤ end → IsClear (first ∷ tail_range end reach ∷ []) range
both_clear first end reach range clear below place within among =
    ⊎_elim (λ here. clear place within (inl here)) (λ there. tail_clear end reach range below place within there) among

-- bytes before a place, or behind one
pub apart : (first range : Range) → (first.start + first.count ≤ range.start) ⊎ (range.start + range.count ≤ first.start) → IsClear (first ∷ []) range
apart first range sides place within among = ⊎_elim
    (λ here. let a = here.0 in let b = here.1 in let c = within.0 in let d = within.1 in ⊎_elim (λ s. omega (arith, a, b, c, d, s)) (λ s. omega (arith, a, b, c, d, s)) sides)
    (λ none. absurd none) among

-- ---- marks and logs over bytes that agree

-- the same marks, where neither the header nor a slot was written over
pub chooses_on : (ranges : List Range) (was is : List ℕ) (slot : ℕ) (chosen : Mark) (other : Option Mark) → IsClear ranges header_range → IsClear ranges (slot_range slot)
    → IsClear ranges (slot_range (other_slot slot)) → AgreesBut ranges was is → Chooses was slot chosen other → Chooses is slot chosen other
chooses_on ranges was is slot chosen other front here there agrees chooses = record {
  headed = headed_on ranges was is front agrees chooses.headed;
  low = chooses.low;
  here = marked_on ranges was is slot chosen chooses.low here agrees chooses.headed chooses.here;
  beside = beside other chooses.beside;
} where
  beside : (o : Option Mark) → HasOther was (other_slot slot) chosen o → HasOther is (other_slot slot) chosen o
  beside None shut = λ open_. shut (sym (gate_on ranges was is (other_slot slot) (other_low slot)
      (λ among. there (slot_place (other_slot slot)) (omega arith, omega arith) among) agrees chooses.headed) ∙ open_)
  beside (Some m) has = (marked_on ranges was is (other_slot slot) m (other_low slot) there agrees chooses.headed has.0, has.1)

-- the same record of a base
based_on : {kept : BaseRecord} {was is : List ℕ} → IsBased kept was → bytes_in is base_range ≡ bytes_in was base_range → IsBased kept is
based_on based same = record { length_fits = based.length_fits; number_fits = based.number_fits; bytes = same ∙ based.bytes }

-- the same log, where it was not written over
pub log_on : {kept : BaseRecord} {slot : ℕ} {chosen : Mark} {other beside : Option Mark} {entries : List Entry} (ranges : List Range) (was is : List ℕ)
    → IsClear ranges base_range → IsClear ranges (records_range chosen.end) → AgreesBut ranges was is
    → HasLog kept was slot chosen other entries → Chooses is slot chosen beside → HasLog kept is slot chosen beside entries
log_on {kept} {slot} {chosen} {other} {beside} {entries} ranges was is front clear agrees has chooses = record {
  chooses = chooses;
  within = let a = agrees.no_shorter in let w = has.within in omega (arith, a, w);
  mark = has.mark;
  based = based_on has.based (bytes_agree ranges was is base_range agrees front (let w = has.within in let e = has.mark.end in let b = has.mark.based in omega (arith, w, e, b)));
  spells = subst (λ (l : List ℕ). Spells entries l)
      (sym (bytes_agree ranges was is (records_range chosen.end) agrees clear (let w = has.within in let e = has.mark.end in let b = has.mark.based in omega (arith, w, e, b)))) has.spells;
  fit = has.fit;
}

-- an aside file of a base stands for the base with its records
pub means_log : {base : List ℕ} {number slot : ℕ} {chosen : Mark} {other : Option Mark} {entries : List Entry} {image : List ℕ}
    → HasLog (record_of base number) image slot chosen other entries → Logical base number image (applied base entries)
means_log {slot = slot} {chosen = chosen} {other = other} {entries = entries} has = record { slot = slot; chosen = chosen; other = other; entries = entries; has = has; file_is = refl }

module _ (kept : BaseRecord) (slot : ℕ) (chosen next : Mark) (other : Option Mark) (old more : List Entry) (low : slot ≤ 1) where
  -- where only bytes behind the log were written
  pub tail_log : (entries : List Entry) (was is : List ℕ) (reach s : ℕ) (mark : Mark) (beside : Option Mark) → s ≤ 1 → HasLog kept was s mark beside entries
      → AgreesBut (tail_range mark.end reach ∷ []) was is → HasLog kept is s mark beside entries
  tail_log entries was is reach s mark beside small has agrees =
      let e = has.mark.end in let b = has.mark.based in
      log_on (tail_range mark.end reach ∷ []) was is (tail_clear mark.end reach base_range (omega (arith, e, b))) (tail_clear mark.end reach (records_range mark.end) (omega (arith, e, b))) agrees has
      (chooses_on (tail_range mark.end reach ∷ []) was is s mark beside (tail_clear mark.end reach header_range (omega (arith, e, b))) (tail_clear mark.end reach (slot_range s) (omega (arith, e, b, small)))
      (tail_clear mark.end reach (slot_range (other_slot s)) (omega (arith, e, b))) agrees has.chooses)

  -- where bytes of the other slot were written too, and its gate reads closed
  pub shut_log : (beside : Option Mark) (was is : List ℕ) (first : Range) (end reach : ℕ) → slot_place (other_slot slot) ≤ first.start → first.start + first.count ≤ slot_place (other_slot slot) + 64
      → chosen.end ≤ end → HasLog kept was slot chosen beside old → AgreesBut (first ∷ tail_range end reach ∷ []) was is → ¬ IsOpen is (other_slot slot)
      → HasLog kept is slot chosen None old
  shut_log beside was is first end reach from to longer has agrees shut =
      let e = has.mark.end in let b = has.mark.based in
      log_on (first ∷ tail_range end reach ∷ []) was is
      (both_clear first end reach base_range (apart first base_range (inl (omega (arith, to)))) (omega (arith, e, b, longer)))
      (both_clear first end reach (records_range chosen.end) (apart first (records_range chosen.end) (inl (omega (arith, to)))) (omega (arith, e, b, longer)))
      agrees has
      (closed_chooses (first ∷ tail_range end reach ∷ []) was is slot chosen beside
      (both_clear first end reach header_range (apart first header_range (inr (omega (arith, from)))) (omega (arith, e, b, longer)))
      (both_clear first end reach (slot_range slot) (apart first (slot_range slot) (⊎_elim (λ zero. inr (omega (arith, from, zero))) (λ more. inl (omega (arith, to, more, low))) (cases_eq slot 0))) (omega (arith, e, b, longer, low)))
      agrees has.chooses shut)

module _ (kept : BaseRecord) (slot : ℕ) (chosen next : Mark) (other : Option Mark) (old more : List Entry) (low : slot ≤ 1) (is_next : IsNext kept chosen next old more) where
  -- the gate over the next log reads open
  module _ (full image : List ℕ) (reach : ℕ) (has : HasLog kept full slot chosen None old) (written : IsWritten slot next (old ++ more) full)
      (agrees : AgreesBut (gate_range (other_slot slot) ∷ tail_range next.end reach ∷ []) full image) (open_ : IsOpen image (other_slot slot)) where
    abbrev gate : ℕ
    gate = slot_place (other_slot slot)

    -- the bytes with nothing but the gate opened
    abbrev mid : List ℕ
    mid = put_bytes full gate (open_byte ∷ [])

    long : 256 ≤ length full
    long = let w = has.within in let e = has.mark.end in let b = has.mark.based in omega (arith, w, e, b)

    same_length : length mid ≡ length full
    same_length = let l = length-put_bytes full gate (open_byte ∷ []) (let a = long in omega (arith, a)) in let a = long in omega (arith, l, a)

    gate_is : slice_index mid gate ≡ open_byte
    gate_is = gate_written full (other_slot slot) open_byte has.chooses.headed (other_low slot)

    to_mid : AgreesBut (gate_range (other_slot slot) ∷ []) full mid
    to_mid = agrees_put full gate (open_byte ∷ []) (let a = long in omega (arith, a))

    from_mid : AgreesBut (tail_range next.end reach ∷ []) mid image
    from_mid = record {
      no_shorter = let a = agrees.no_shorter in let l = same_length in omega (arith, a, l);
      same = λ place below. ⊎_elim
          (λ at. inr (subst (λ (k : ℕ). slice_index image k ≡ slice_index mid k) (sym at) (open_ ∙ sym gate_is)))
          (λ away. ⊎_elim
          (λ among. ⊎_elim (λ here. absurd (away (let a = here.0 in let b = here.1 in omega (arith, a, b)))) (λ tail. inl tail) among)
          (λ same. inr (same ∙ sym (slice_index-put_bytes_outside full gate (open_byte ∷ []) place (let a = long in omega (arith, a)) (λ w. away (let a = w.0 in let b = w.1 in omega (arith, a, b))))))
          (agrees.same place (let l = same_length in omega (arith, below, l))))
          (cases_eq place gate);
    }

    mid_chooses : Chooses mid (other_slot slot) next (Some chosen)
    mid_chooses = opened_chooses full mid slot chosen next to_mid has.chooses is_next.good is_next.number written.body gate_is

    clear_gate : (range : Range) → 192 ≤ range.start → IsClear (gate_range (other_slot slot) ∷ []) range
    clear_gate range behind = apart (gate_range (other_slot slot)) range (inl (omega (arith, behind)))

    mid_log : HasLog kept mid (other_slot slot) next (Some chosen) (old ++ more)
    mid_log = record {
      chooses = mid_chooses;
      within = let w = written.long in let l = same_length in omega (arith, w, l);
      mark = is_next.rules;
      based = based_on has.based (bytes_agree (gate_range (other_slot slot) ∷ []) full mid base_range to_mid (clear_gate base_range (omega arith)) long);
      spells = subst (λ (l : List ℕ). Spells (old ++ more) l)
          (sym (bytes_agree (gate_range (other_slot slot) ∷ []) full mid (records_range next.end) to_mid (clear_gate (records_range next.end) (omega arith))
          (let w = written.long in let e = is_next.rules.end in let b = is_next.rules.based in omega (arith, w, e, b)))) written.spells;
      fit = is_next.fit;
    }

    pub next_log : HasLog kept image (other_slot slot) next (Some chosen) (old ++ more)
    next_log = tail_log kept slot chosen next other old more low (old ++ more) mid image reach (other_slot slot) next (Some chosen) (other_low slot) mid_log from_mid

  -- where an open gate was to be closed and still reads open, nothing of it was written
  pub still_open : (synced image : List ℕ) (reach : ℕ) → IsOpen synced (other_slot slot) → IsOpen image (other_slot slot)
      → AgreesBut (gate_range (other_slot slot) ∷ tail_range chosen.end reach ∷ []) synced image → AgreesBut (tail_range chosen.end reach ∷ []) synced image
  still_open synced image reach was is agrees = record {
    no_shorter = agrees.no_shorter;
    same = λ place below. ⊎_elim
        (λ among. ⊎_elim (λ here. inr (subst (λ (k : ℕ). slice_index image k ≡ slice_index synced k) (let a = here.0 in let b = here.1 in omega (arith, a, b)) (is ∙ sym was))) (λ tail. inl tail) among)
        (λ same. inr same) (agrees.same place below);
  }
