-- The three steps of a sync, as runs through its phases.
use Rattle.std.proofs.Common.{◌≡◌, refl, sym, ◌∙◌, subst, ℕ, ◌+◌, ◌≤◌, inl, inr, ⊎_elim, List, [], ◌∷◌, ◌++◌, length, arith, Option, Some, None, IsSome, Result, Ok, Err, OnOk, slice_index}
use Rattle.host_io.specs.Disk.{DiskState, IsSettled, Range, settled}
use Rattle.host_io.specs.Calls.{put_bytes}
use Rattle.host_io.specs.Outside.{Goes, Outside}
use Rattle.host_io.specs.Ranges.{AgreesBut, AreWithin, PutsAndSyncs, WritesOnly, WritesWithin}
use Rattle.host_io.proofs.Images.{IsSettled-settled}
use Rattle.host_io.proofs.Moments.{begins, joins, weaker}
use Rattle.host_io.proofs.Ranges.{agrees_joins, agrees_put, agrees_same, agrees_wider, bytes_agree, images_agree, within_wider, writes_only_begins, writes_only_goes_on}
use Rattle.commit_marks.specs.declared.mark.Mark.{Mark}
use Rattle.commit_marks.specs.Marks.{HasOther, body_bytes, body_range, gate_range, open_byte, other_slot, slot_place, slot_range}
use Rattle.commit_marks.proofs.Chosen.{body_written, gate_on, gate_written, open_from_mark}
use Rattle.aside_disk.specs.declared.error.BaseRecord.{BaseRecord}
use Rattle.aside_disk.specs.Records.{Entry, Spells}
use Rattle.aside_disk.specs.Logical.{HasLog, records_range}
use Rattle.aside_disk.specs.Phases.{IsInPhase, IsNext, IsWritten, closing, ended, opening, tail_range, writing}
use Rattle.aside_disk.specs.Committing.{AreThere, Commits, IsBehind}
use Rattle.aside_disk.proofs.Phases.{next_log, other_low, shut_log, tail_log, apart}

pub widen_only : (ranges wider : List Range) (synced : List ℕ) (disk : DiskState) → AreWithin ranges wider → WritesOnly ranges synced disk → WritesOnly wider synced disk
widen_only ranges wider synced disk inside only = record {
  sound = only.sound;
  base = only.base;
  within = λ place. ⊎_elim (λ among. inl (inside place among)) (λ untouched. inr untouched) (only.within place);
}

with_first : (first tail : Range) → AreWithin (tail ∷ []) (first ∷ tail ∷ [])
with_first first tail place among = inr among

with_tail : (first tail : Range) → AreWithin (first ∷ []) (first ∷ tail ∷ [])
with_tail first tail place among = ⊎_elim (λ here. inl here) (λ none. absurd none) among

module _ (kept : BaseRecord) (slot : ℕ) (chosen next : Mark) (other : Option Mark) (old more : List Entry) (low : slot ≤ 1) (is_next : IsNext kept chosen next old more) where
  abbrev Phase : DiskState → Type 0
  Phase = IsInPhase kept slot chosen next other old more

  abbrev gate : Range
  gate = gate_range (other_slot slot)

  abbrev body : Range
  body = body_range (other_slot slot)

  -- what is read holds the log as it was synced
  seen_log : (beside : Option Mark) (disk : DiskState) → IsBehind kept slot chosen beside old disk → HasLog kept disk.seen slot chosen beside old
  seen_log beside disk is = tail_log kept slot chosen next other old more low old is.synced disk.seen is.reach slot chosen beside low is.has
      (images_agree (tail_range chosen.end is.reach ∷ []) is.synced disk disk.seen is.only is.only.sound)

  long : (beside : Option Mark) (disk : DiskState) → IsBehind kept slot chosen beside old disk → 256 ≤ length disk.seen
  long beside disk is = let has = seen_log beside disk is in let w = has.within in let e = has.mark.end in let b = has.mark.based in omega (arith, w, e, b)

  -- the range before the tail is written over
  pub over_tail : (beside : Option Mark) (first : Range) (was is : DiskState) (behind : IsBehind kept slot chosen beside old was) → WritesWithin (first ∷ []) was is
      → WritesOnly (first ∷ tail_range chosen.end behind.reach ∷ []) behind.synced is
  over_tail beside first was is behind writes =
      let tail = tail_range chosen.end behind.reach in
      writes_only_goes_on (first ∷ tail ∷ []) behind.synced was is (widen_only (tail ∷ []) (first ∷ tail ∷ []) behind.synced was (with_first first tail) behind.only)
      (within_wider (first ∷ []) (first ∷ tail ∷ []) was is (with_tail first tail) writes)

  -- while the other gate is closed
  pub is_closing : (m : Mark) (was is : DiskState) → other ≡ Some m → IsBehind kept slot chosen other old was → WritesWithin (gate ∷ []) was is → Phase is
  is_closing m was is some behind writes =
      closing behind.synced behind.reach behind.has
      (open_from_mark behind.synced (other_slot slot) m behind.has.chooses.headed (other_low slot)
      (subst (λ (o : Option Mark). HasOther behind.synced (other_slot slot) chosen o) some behind.has.chooses.beside).0)
      (over_tail other gate was is behind writes)

  -- the bytes with the other gate closed
  abbrev shut_bytes : List ℕ → List ℕ
  shut_bytes seen = put_bytes seen (slot_place (other_slot slot)) (0 ∷ [])

  pub is_shut : (disk : DiskState) → IsBehind kept slot chosen other old disk → IsBehind kept slot chosen None old (settled (shut_bytes disk.seen))
  is_shut disk behind =
      let has = seen_log other disk behind in
      let tail = tail_range chosen.end 0 in
      let l = long other disk behind in
      let agrees : AgreesBut (gate ∷ tail ∷ []) disk.seen (shut_bytes disk.seen) =
      agrees_wider (gate ∷ []) (gate ∷ tail ∷ []) disk.seen (shut_bytes disk.seen) (with_tail gate tail) (agrees_put disk.seen (slot_place (other_slot slot)) (0 ∷ []) (omega (arith, l))) in
      let closed : slice_index (shut_bytes disk.seen) (slot_place (other_slot slot)) ≡ 0 = gate_written disk.seen (other_slot slot) 0 has.chooses.headed (other_low slot) in
      record {
        synced = shut_bytes disk.seen;
        reach = 0;
        has = shut_log kept slot chosen next other old more low other disk.seen (shut_bytes disk.seen) gate chosen.end 0 (omega arith) (omega arith) (omega arith) has agrees
            (λ open_. omega (arith, closed, open_));
        only = writes_only_begins (tail ∷ []) (settled (shut_bytes disk.seen)) (IsSettled-settled (shut_bytes disk.seen));
      }

  -- bytes of the other slot were written, and the records stand as they stood
  pub there_on : (first : Range) (was is : List ℕ) → first.start + first.count ≤ 192 → 64 ≤ next.len → AreThere next (old ++ more) was → AgreesBut (first ∷ []) was is → AreThere next (old ++ more) is
  there_on first was is below based there agrees = record {
    long = let a = agrees.no_shorter in let l = there.long in omega (arith, a, l);
    spells = subst (λ (l : List ℕ). Spells (old ++ more) l)
        (sym (bytes_agree (first ∷ []) was is (records_range next.end) agrees (apart first (records_range next.end) (inl (omega (arith, below)))) (let l = there.long in let e = is_next.rules.end in omega (arith, l, e, based))))
        there.spells;
  }

  -- while the body is written behind the closed gate
  pub is_writing : (was is : DiskState) → IsBehind kept slot chosen None old was → WritesWithin (body ∷ []) was is → Phase is
  is_writing was is behind writes = writing behind.synced behind.reach behind.has (over_tail None body was is behind writes)

  pub waits_shut : (disk : DiskState) → IsBehind kept slot chosen None old disk → Phase disk
  waits_shut disk behind = let tail = tail_range chosen.end behind.reach in
      writing behind.synced behind.reach behind.has (widen_only (tail ∷ []) (body ∷ tail ∷ []) behind.synced disk (with_first body tail) behind.only)

  abbrev full_bytes : List ℕ → List ℕ
  full_bytes seen = put_bytes seen (slot_place (other_slot slot) + 1) (body_bytes next)

  -- all is there but the gate
  pub record IsFull (full : List ℕ) : Type 0 where
    pub has : HasLog kept full slot chosen None old
    pub written : IsWritten slot next (old ++ more) full

  pub is_full : (disk : DiskState) → IsBehind kept slot chosen None old disk → AreThere next (old ++ more) disk.seen → IsFull (full_bytes disk.seen)
  is_full disk behind there =
      let has = seen_log None disk behind in
      let tail = tail_range chosen.end 0 in
      let l = long None disk behind in
      let put : AgreesBut (body ∷ []) disk.seen (full_bytes disk.seen) = agrees_put disk.seen (slot_place (other_slot slot) + 1) (body_bytes next) (omega (arith, l)) in
      let on = there_on body disk.seen (full_bytes disk.seen) (omega arith) is_next.rules.based there put in
      record {
        has = shut_log kept slot chosen next other old more low None disk.seen (full_bytes disk.seen) body chosen.end 0 (omega arith) (omega arith) (omega arith) has
            (agrees_wider (body ∷ []) (body ∷ tail ∷ []) disk.seen (full_bytes disk.seen) (with_tail body tail) put)
            (λ open_. has.chooses.beside (sym (gate_on (body ∷ []) disk.seen (full_bytes disk.seen) (other_slot slot) (other_low slot)
            (λ among. ⊎_elim (λ here. let a = here.0 in omega (arith, a)) (λ none. absurd none) among) put has.chooses.headed) ∙ open_));
        written = record { long = on.long; body = body_written disk.seen (other_slot slot) next has.chooses.headed (other_low slot); spells = on.spells };
      }

  -- while the gate is opened
  pub is_opening : (full : List ℕ) (was is : DiskState) → was ≡ settled full → IsFull full → WritesWithin (gate ∷ []) was is → Phase is
  is_opening full was is rests fine writes = let tail = tail_range next.end 0 in
      opening full 0 fine.has fine.written
      (writes_only_goes_on (gate ∷ tail ∷ []) full was is (subst (λ (d : DiskState). WritesOnly (gate ∷ tail ∷ []) full d) (sym rests) (writes_only_begins (gate ∷ tail ∷ []) (settled full) (IsSettled-settled full)))
      (within_wider (gate ∷ []) (gate ∷ tail ∷ []) was is (with_tail gate tail) writes))

  pub rests_full : (full : List ℕ) (disk : DiskState) → disk ≡ settled full → IsFull full → Phase disk
  rests_full full disk rests fine = let tail = tail_range next.end 0 in
      opening full 0 fine.has fine.written (subst (λ (d : DiskState). WritesOnly (gate ∷ tail ∷ []) full d) (sym rests) (writes_only_begins (gate ∷ tail ∷ []) (settled full) (IsSettled-settled full)))

  abbrev open_bytes : List ℕ → List ℕ
  open_bytes full = put_bytes full (slot_place (other_slot slot)) (open_byte ∷ [])

  -- the next log is at rest
  pub is_committed : (full : List ℕ) → IsFull full → HasLog kept (open_bytes full) (other_slot slot) next (Some chosen) (old ++ more)
  is_committed full fine =
      let w = fine.has.within in let e = fine.has.mark.end in let b = fine.has.mark.based in
      let tail = tail_range next.end 0 in
      next_log kept slot chosen next other old more low is_next full (open_bytes full) 0 fine.has fine.written
      (agrees_wider (gate ∷ []) (gate ∷ tail ∷ []) full (open_bytes full) (with_tail gate tail) (agrees_put full (slot_place (other_slot slot)) (open_byte ∷ []) (omega (arith, w, e, b))))
      (gate_written full (other_slot slot) open_byte fine.has.chooses.headed (other_low slot))

  pub is_ended : (full : List ℕ) (disk : DiskState) → disk ≡ settled (open_bytes full) → IsFull full → Phase disk
  is_ended full disk rests fine = subst (λ (d : DiskState). Phase d) (sym rests) (ended (open_bytes full) 0 (is_committed full fine) (writes_only_begins (tail_range next.end 0 ∷ []) (settled (open_bytes full)) (IsSettled-settled (open_bytes full))))

  -- From one moment of a sync to another: each one that came is in a phase, and no byte was changed but those of the other slot.
  pub record GoesOn (from to : Outside) : Type 0 where
    pub goes : Goes (λ at. (at.said ≡ from.now.said) × Phase at.disk) from to
    pub places : AgreesBut (slot_range (other_slot slot) ∷ []) from.now.disk.seen to.now.disk.seen
    pub said : to.now.said ≡ from.now.said
    pub input : to.input ≡ from.input

  pub goes_none : (from to : Outside) → to ≡ from → GoesOn from to
  goes_none from to same = subst (λ (o : Outside). GoesOn from o) (sym same) (record {
    goes = begins from;
    places = agrees_same (slot_range (other_slot slot) ∷ []) from.now.disk.seen;
    said = refl;
    input = refl;
  })

  pub goes_joins : {from mid to : Outside} → GoesOn from mid → GoesOn mid to → GoesOn from to
  goes_joins {from} {mid} {to} first then = record {
    goes = joins first.goes (weaker (λ at is. (is.0 ∙ first.said, is.1)) then.goes);
    places = agrees_joins (slot_range (other_slot slot) ∷ []) from.now.disk.seen mid.now.disk.seen to.now.disk.seen first.places then.places;
    said = then.said ∙ first.said;
    input = then.input ∙ first.input;
  }

  puts_agree : {T E : Type 0} (result : Result T E) (place : ℕ) (bytes : List ℕ) {from to : Outside} → place ≤ length from.now.disk.seen → PutsAndSyncs place bytes from to result
      → AgreesBut ((record { start = place; count = length bytes }) ∷ []) from.now.disk.seen to.now.disk.seen
  puts_agree (Ok x) place bytes {from} {to} within puts = subst (λ (d : DiskState). AgreesBut ((record { start = place; count = length bytes }) ∷ []) from.now.disk.seen d.seen) (sym puts.ok) (agrees_put from.now.disk.seen place bytes within)
  puts_agree (Err e) place bytes within puts = puts.err.changes.agrees

  gate_within : AreWithin (gate ∷ []) (slot_range (other_slot slot) ∷ [])
  gate_within place among = ⊎_elim (λ here. inl (here.0, let b = here.1 in omega (arith, b))) (λ none. absurd none) among

  body_within : AreWithin (body ∷ []) (slot_range (other_slot slot) ∷ [])
  body_within place among = ⊎_elim (λ here. inl (let a = here.0 in omega (arith, a), let b = here.1 in omega (arith, b))) (λ none. absurd none) among

  -- a write with its sync, each of whose moments is in a phase
  pub goes_puts : {T E : Type 0} (result : Result T E) (place : ℕ) (bytes : List ℕ) (from to : Outside) → AreWithin ((record { start = place; count = length bytes }) ∷ []) (slot_range (other_slot slot) ∷ [])
      → place ≤ length from.now.disk.seen
      → ((is : DiskState) → WritesWithin ((record { start = place; count = length bytes }) ∷ []) from.now.disk is → Phase is)
      → ((is : DiskState) → is ≡ settled (put_bytes from.now.disk.seen place bytes) → Phase is)
      → PutsAndSyncs place bytes from to result → GoesOn from to × Phase to.now.disk
  goes_puts result place bytes from to inside within torn done puts = (
    record {
      goes = weaker (λ at is. (is.0, ⊎_elim (λ w. torn at.disk w) (λ d. done at.disk d) is.1)) puts.moments;
      places = agrees_wider ((record { start = place; count = length bytes }) ∷ []) (slot_range (other_slot slot) ∷ []) from.now.disk.seen to.now.disk.seen inside (puts_agree result place bytes within puts);
      said = puts.said;
      input = puts.input;
    },
    last result puts,
  ) where
    last : {T E : Type 0} (r : Result T E) → PutsAndSyncs place bytes from to r → Phase to.now.disk
    last (Ok x) p = done to.now.disk p.ok
    last (Err e) p = torn to.now.disk p.err

  -- what is known once the other gate is closed
  pub record IsShut (disk : DiskState) : Type 0 where
    pub behind : IsBehind kept slot chosen None old disk
    pub there : AreThere next (old ++ more) disk.seen

  pub record Closed {T E : Type 0} (from to : Outside) (result : Result T E) : Type 0 where
    pub goes : GoesOn from to
    pub phase : Phase to.now.disk
    pub shut : OnOk result (IsShut to.now.disk)

  always : {T E P : Type 0} (result : Result T E) → P → OnOk result P
  always (Ok x) holds = holds
  always (Err e) holds = tt

  -- the first step
  pub is_closed : {T E : Type 0} (result : Result T E) (from to : Outside) (o : Option Mark) → other ≡ o → IsBehind kept slot chosen other old from.now.disk → AreThere next (old ++ more) from.now.disk.seen
      → (other ≡ None → to ≡ from) → (IsSome other → PutsAndSyncs (slot_place (other_slot slot)) (0 ∷ []) from to result) → Closed from to result
  is_closed result from to None is behind there none some =
      let behind_none : IsBehind kept slot chosen None old from.now.disk = subst (λ (x : Option Mark). IsBehind kept slot chosen x old from.now.disk) is behind in
      let shut : IsShut to.now.disk = subst (λ (x : Outside). IsShut x.now.disk) (sym (none is)) (record { behind = behind_none; there = there }) in
      record { goes = goes_none from to (none is); phase = waits_shut to.now.disk shut.behind; shut = always result shut }
  is_closed {T} {E} result from to (Some m) is behind there none some =
      let puts : PutsAndSyncs (slot_place (other_slot slot)) (0 ∷ []) from to result = some (subst (λ (x : Option Mark). IsSome x) (sym is) refl) in
      let l = long other from.now.disk behind in
      let made : IsShut (settled (shut_bytes from.now.disk.seen)) = record {
        behind = is_shut from.now.disk behind;
        there = there_on gate from.now.disk.seen (shut_bytes from.now.disk.seen) (omega arith) is_next.rules.based there (agrees_put from.now.disk.seen (slot_place (other_slot slot)) (0 ∷ []) (omega (arith, l)));
      } in
      let both = goes_puts result (slot_place (other_slot slot)) (0 ∷ []) from to gate_within (omega (arith, l)) (λ d w. is_closing m from.now.disk d is behind w)
      (λ d e. subst (λ (x : DiskState). Phase x) (sym e) (waits_shut (settled (shut_bytes from.now.disk.seen)) made.behind)) puts in
      record { goes = both.0; phase = both.1; shut = shut result puts made }
    where
      shut : (r : Result T E) → PutsAndSyncs (slot_place (other_slot slot)) (0 ∷ []) from to r → IsShut (settled (shut_bytes from.now.disk.seen)) → OnOk r (IsShut to.now.disk)
      shut (Ok x) p made = subst (λ (d : DiskState). IsShut d) (sym p.ok) made
      shut (Err e) p made = tt

  pub record Filled {T E : Type 0} (from to : Outside) (result : Result T E) : Type 0 where
    pub goes : GoesOn from to
    pub phase : Phase to.now.disk
    pub full : OnOk result ((full : List ℕ) × (to.now.disk ≡ settled full) × IsFull full)

  -- the second
  pub is_filled : {T E : Type 0} (result : Result T E) (from to : Outside) → IsShut from.now.disk → PutsAndSyncs (slot_place (other_slot slot) + 1) (body_bytes next) from to result → Filled from to result
  is_filled {T} {E} result from to shut puts =
      let l = long None from.now.disk shut.behind in
      let fine : IsFull (full_bytes from.now.disk.seen) = is_full from.now.disk shut.behind shut.there in
      let both = goes_puts result (slot_place (other_slot slot) + 1) (body_bytes next) from to body_within (omega (arith, l)) (λ d w. is_writing from.now.disk d shut.behind w)
      (λ d e. rests_full (full_bytes from.now.disk.seen) d e fine) puts in
      record { goes = both.0; phase = both.1; full = full result puts fine }
    where
      full : (r : Result T E) → PutsAndSyncs (slot_place (other_slot slot) + 1) (body_bytes next) from to r → IsFull (full_bytes from.now.disk.seen) → OnOk r ((f : List ℕ) × (to.now.disk ≡ settled f) × IsFull f)
      full (Ok x) p fine = (full_bytes from.now.disk.seen, p.ok, fine)
      full (Err e) p fine = tt

  -- the last
  pub is_opened : {T E : Type 0} (result : Result T E) (from to : Outside) (full : List ℕ) → from.now.disk ≡ settled full → IsFull full → PutsAndSyncs (slot_place (other_slot slot)) (open_byte ∷ []) from to result
      → GoesOn from to × Phase to.now.disk × OnOk result (IsSettled to.now.disk × HasLog kept to.now.disk.seen (other_slot slot) next (Some chosen) (old ++ more))
  is_opened {T} {E} result from to full rests fine puts =
      let w = fine.has.within in let e = fine.has.mark.end in let b = fine.has.mark.based in
      let both = goes_puts result (slot_place (other_slot slot)) (open_byte ∷ []) from to gate_within
      (subst (λ (d : DiskState). slot_place (other_slot slot) ≤ length d.seen) (sym rests) (omega (arith, w, e, b))) (λ d w. is_opening full from.now.disk d rests fine w)
      (λ d e. is_ended full d (subst (λ (x : DiskState). d ≡ settled (open_bytes x.seen)) rests e) fine) puts in
      (both.0, both.1, ok result puts)
    where
      ok : (r : Result T E) → PutsAndSyncs (slot_place (other_slot slot)) (open_byte ∷ []) from to r → OnOk r (IsSettled to.now.disk × HasLog kept to.now.disk.seen (other_slot slot) next (Some chosen) (old ++ more))
      ok (Ok x) p =
          let is : to.now.disk ≡ settled (open_bytes full) = subst (λ (d : DiskState). to.now.disk ≡ settled (open_bytes d.seen)) rests p.ok in
          subst (λ (d : DiskState). IsSettled d × HasLog kept d.seen (other_slot slot) next (Some chosen) (old ++ more)) (sym is) (IsSettled-settled (open_bytes full), is_committed full fine)
      ok (Err e) p = tt

  pub commits_so : {T E : Type 0} {from to : Outside} (result : Result T E) → GoesOn from to → Phase to.now.disk
      → OnOk result (IsSettled to.now.disk × HasLog kept to.now.disk.seen (other_slot slot) next (Some chosen) (old ++ more)) → Commits kept slot chosen next other old more from to result
  commits_so result goes phase ok = record { moments = goes.goes; now = phase; ok = ok; places = goes.places; said = goes.said; input = goes.input }
