-- The three steps of a commit, as runs through its phases.
use Rattle.std.proofs.Common.{◌≡◌, refl, sym, ◌∙◌, ap, le_trans, subst, ℕ, ◌+◌, ◌≤◌, ◌⊎◌, inl, inr, ⊎_elim, List, [], ◌∷◌, ◌++◌, length, arith, Option, Some, None, IsSome, Result, Ok, Err, OnOk, slice_index}
use Rattle.std.proofs.lemmas.List.Elements.{All-map, All-weaker}
use Rattle.mk_value.specs.declared.span.Span.{Span}
use Rattle.host_io.specs.Disk.{DiskState, IsImage, IsSettled, IsSound, Range, settled}
use Rattle.host_io.specs.Calls.{put_bytes}
use Rattle.host_io.specs.Outside.{Each, Goes, Moment, Outside, moments}
use Rattle.host_io.specs.Ranges.{AgreesBut, AreWithin, ChangesOnly, PutsAndSyncs, WritesOnly, WritesWithin}
use Rattle.host_io.proofs.Bytes.{slice_index-put_bytes_inside}
use Rattle.commit_writes.proofs.Files.{blocks_lengthen, put_before, put_lengthens}
use Rattle.host_io.proofs.Images.{image_of_settled, IsSettled-settled, IsSound-settled}
use Rattle.host_io.proofs.Moments.{begins, joins, weaker}
use Rattle.host_io.proofs.Ranges.{agrees_put, agrees_same, changes_joins, changes_put, changes_same, changes_wider, writes_only_begins, writes_only_goes_on}
use Rattle.free_space.specs.Extents.{extent_end}
use Rattle.free_space.proofs.EndLemmas.{end_of-le}
use Rattle.commit_marks.specs.declared.mark.Mark.{Mark}
use Rattle.commit_marks.specs.declared.mark.Marks.{Marks}
use Rattle.commit_marks.specs.Marks.{Chooses, IsOpen, body_bytes, gate_range, open_byte, other_slot, slot_place}
use Rattle.commit_marks.proofs.Chosen.{gate_written, open_from_mark}
use Rattle.commit_writes.specs.Blocks.{Block, StandsAt, extents_of, spans_of, with_blocks}
use Rattle.commit_writes.specs.Carrying.{Carries, IsCarrying, IsReady, file_after, with_gate_closed}
use Rattle.commit_writes.specs.Footprints.{Footprint, Holds, MayStand}
use Rattle.commit_writes.specs.Plans.{IsSoundAfter}
use Rattle.commit_writes.specs.Phases.{IsAtRest, IsClosed, IsInPhase, IsWritten, closing, commit_ranges, ended, opening, ranges_behind, writing}
use Rattle.commit_writes.specs.Writing.{FillsBehind, IsFull, IsWhole}
use Rattle.commit_writes.proofs.Phases.{next_marks, next_stands, opening_holds, other_low, phase_images, phase_sound}

always : {T E P : Type 0} (result : Result T E) → P → OnOk result P
always (Ok x) holds = holds
always (Err e) holds = tt

-- From one moment of a commit to another: each one that came is in a phase, and the bytes changed where the commit writes alone.
pub record GoesOn (old next : Footprint) (slot : ℕ) (writes : List Block) (rest : List ℕ) (from to : Outside) : Type 0 where
  pub goes : Goes (λ at. (at.said ≡ from.now.said) × ChangesOnly (commit_ranges slot writes) from.now.disk.seen at.disk.seen × IsInPhase old next slot writes rest at.disk) from to
  pub changes : ChangesOnly (commit_ranges slot writes) from.now.disk.seen to.now.disk.seen
  pub said : to.now.said ≡ from.now.said
  pub input : to.input ≡ from.input

gate_places : (slot : ℕ) (writes : List Block) → AreWithin (gate_range (other_slot slot) ∷ []) (commit_ranges slot writes)
gate_places slot writes place among = ⊎_elim (λ here. inl (here.0, let b = here.1 in omega (arith, b))) (λ none. absurd none) among

behind_places : (slot : ℕ) (writes : List Block) → AreWithin (ranges_behind (other_slot slot) writes) (commit_ranges slot writes)
behind_places slot writes place among = ⊎_elim (λ here. inl (let a = here.0 in omega (arith, a), let b = here.1 in omega (arith, b))) (λ extents. inr extents) among

pub goes_joins : {old next : Footprint} {slot : ℕ} {writes : List Block} {rest : List ℕ} {from mid to : Outside} → GoesOn old next slot writes rest from mid → GoesOn old next slot writes rest mid to → GoesOn old next slot writes rest from to
goes_joins {slot = slot} {writes} {from = from} {mid} {to} first then = record {
  goes = joins first.goes (weaker (λ at is. (is.0 ∙ first.said, changes_joins (commit_ranges slot writes) from.now.disk.seen mid.now.disk.seen at.disk.seen first.changes is.1, is.2)) then.goes);
  changes = changes_joins (commit_ranges slot writes) from.now.disk.seen mid.now.disk.seen to.now.disk.seen first.changes then.changes;
  said = then.said ∙ first.said;
  input = then.input ∙ first.input;
}

-- nothing but its range was written by a write with its sync
puts_change : {T E : Type 0} (result : Result T E) (place : ℕ) (bytes : List ℕ) {from to : Outside} → place ≤ length from.now.disk.seen → PutsAndSyncs place bytes from to result
    → ChangesOnly ((record { start = place; count = length bytes }) ∷ []) from.now.disk.seen to.now.disk.seen
puts_change (Ok x) place bytes {from} {to} within puts = subst (λ (d : DiskState). ChangesOnly ((record { start = place; count = length bytes }) ∷ []) from.now.disk.seen d.seen) (sym puts.ok) (changes_put from.now.disk.seen place bytes within)
puts_change (Err e) place bytes within puts = puts.err.changes

-- nor at any of its moments
put_changes : (place : ℕ) (bytes : List ℕ) (old new : DiskState) → place ≤ length old.seen → WritesWithin ((record { start = place; count = length bytes }) ∷ []) old new ⊎ (new ≡ settled (put_bytes old.seen place bytes))
    → ChangesOnly ((record { start = place; count = length bytes }) ∷ []) old.seen new.seen
put_changes place bytes old new within moment = ⊎_elim
    (λ writes. writes.changes)
    (λ done. subst (λ (d : DiskState). ChangesOnly ((record { start = place; count = length bytes }) ∷ []) old.seen d.seen) (sym done) (changes_put old.seen place bytes within))
    moment

module _ (old next : Footprint) (slot : ℕ) (writes : List Block) where
  -- the other gate is closed, or was
  pub closes : {T E : Type 0} (result : Result T E) (other : Option Mark) {from to : Outside} → IsAtRest old slot other from.now.disk → (other ≡ None → to ≡ from)
      → (IsSome other → PutsAndSyncs (slot_place (other_slot slot)) (0 ∷ []) from to result)
      → GoesOn old next slot writes from.now.disk.seen from to × OnOk result (IsSettled to.now.disk × IsClosed slot from.now.disk.seen to.now.disk.seen)
  closes result None {from} {to} rest same closing_ = (
    subst (GoesOn old next slot writes from.now.disk.seen from) (sym (same refl)) (record {
      goes = begins from;
      changes = changes_same (commit_ranges slot writes) from.now.disk.seen;
      said = refl;
      input = refl;
    }),
    always result (subst (λ (o : Outside). IsSettled o.now.disk × IsClosed slot from.now.disk.seen o.now.disk.seen) (sym (same refl))
        (rest.settled, record { agrees = agrees_same (gate_range (other_slot slot) ∷ []) from.now.disk.seen; gate = rest.chooses.beside })),
  )
  closes {T} {E} result (Some m) {from} {to} rest same closing_ = (
    record {
      goes = weaker (λ at is. (
        is.0,
        changes_wider (gate_range (other_slot slot) ∷ []) (commit_ranges slot writes) from.now.disk.seen at.disk.seen (gate_places slot writes) (put_changes (slot_place (other_slot slot)) (0 ∷ []) from.now.disk at.disk within_ is.1),
        ⊎_elim
            (λ within. closing was (writes_only_goes_on (gate_range (other_slot slot) ∷ []) from.now.disk.seen from.now.disk at.disk (writes_only_begins (gate_range (other_slot slot) ∷ []) from.now.disk rest.settled) within))
            (λ done. writing closed shut (subst (WritesOnly (ranges_behind (other_slot slot) writes) closed) (sym done) (writes_only_begins (ranges_behind (other_slot slot) writes) (settled closed) (IsSettled-settled closed))))
            is.1,
      )) puts.moments;
      changes = changes_wider (gate_range (other_slot slot) ∷ []) (commit_ranges slot writes) from.now.disk.seen to.now.disk.seen (gate_places slot writes) (puts_change result (slot_place (other_slot slot)) (0 ∷ []) within_ puts);
      said = puts.said;
      input = puts.input;
    },
    ends result puts.ok,
  ) where
    puts : PutsAndSyncs (slot_place (other_slot slot)) (0 ∷ []) from to result
    puts = closing_ refl

    was : IsOpen from.now.disk.seen (other_slot slot)
    was = open_from_mark from.now.disk.seen (other_slot slot) m rest.chooses.headed (other_low slot) rest.chooses.beside.0

    closed : List ℕ
    closed = put_bytes from.now.disk.seen (slot_place (other_slot slot)) (0 ∷ [])

    within_ : slot_place (other_slot slot) ≤ length from.now.disk.seen
    within_ = let l = rest.chooses.headed.long in omega (arith, l)

    shut : IsClosed slot from.now.disk.seen closed
    shut = record {
      agrees = agrees_put from.now.disk.seen (slot_place (other_slot slot)) (0 ∷ []) within_;
      gate = λ open_. let zero_ = gate_written from.now.disk.seen (other_slot slot) 0 rest.chooses.headed (other_low slot) in omega (arith, zero_, open_);
    }

    ends : {T E : Type 0} (r : Result T E) → OnOk r (to.now.disk ≡ settled closed) → OnOk r (IsSettled to.now.disk × IsClosed slot from.now.disk.seen to.now.disk.seen)
    ends (Ok x) is = (subst IsSettled (sym is) (IsSettled-settled closed), subst (λ (d : DiskState). IsClosed slot from.now.disk.seen d.seen) (sym is) shut)
    ends (Err e) is = tt

  -- the blocks and the body are written behind the closed gate
  module _ (sound : IsSoundAfter old writes next) (rest : List ℕ) (other : Option Mark) (chooses : Chooses rest slot old.mark other) (holds : Holds rest old) where
    written_is : (closed full : List ℕ) → IsClosed slot rest closed → AgreesBut (ranges_behind (other_slot slot) writes) closed full → IsFull (other_slot slot) writes next.mark full → IsWritten slot writes next closed full
    written_is closed full shut agrees is = record {
      agrees = agrees;
      body = is.body;
      blocks = All-weaker (IsWhole full) (StandsAt full) (λ b whole. whole.stands) writes is.blocks_are;
      long = subst (λ (n : ℕ). n ≤ length full) (sym sound.end) (end_of-le old.mark.end (spans_of writes) (length full)
          (let w = holds.within in let a = shut.agrees.no_shorter in let b = agrees.no_shorter in omega (arith, w, a, b))
          (All-map (λ (span : Span). extent_end span ≤ length full) (λ (b : Block). b.span) writes (All-weaker (IsWhole full) (λ b. extent_end b.span ≤ length full) (λ b whole. whole.long) writes is.blocks_are)));
    }

    pub fills : {T E : Type 0} (result : Result T E) {from to : Outside} → IsSettled from.now.disk → IsClosed slot rest from.now.disk.seen → FillsBehind (other_slot slot) writes next.mark from to result
        → GoesOn old next slot writes rest from to × OnOk result (IsSettled to.now.disk × IsWritten slot writes next from.now.disk.seen to.now.disk.seen)
    fills result {from} {to} rests shut fill = (
      record {
        goes = weaker (λ at is. (
          is.0,
          changes_wider (ranges_behind (other_slot slot) writes) (commit_ranges slot writes) from.now.disk.seen at.disk.seen (behind_places slot writes) (⊎_elim (λ within. within.changes) (λ full. full.2) is.1),
          ⊎_elim
              (λ within. writing from.now.disk.seen shut (writes_only_goes_on (ranges_behind (other_slot slot) writes) from.now.disk.seen from.now.disk at.disk (writes_only_begins (ranges_behind (other_slot slot) writes) from.now.disk rests) within))
              (λ full. opening from.now.disk.seen at.disk.seen shut (written_is from.now.disk.seen at.disk.seen shut full.2.agrees full.1) (writes_only_begins (gate_range (other_slot slot) ∷ []) at.disk full.0))
              is.1,
        )) fill.moments;
        changes = changes_wider (ranges_behind (other_slot slot) writes) (commit_ranges slot writes) from.now.disk.seen to.now.disk.seen (behind_places slot writes) fill.changes;
        said = fill.said;
        input = fill.input;
      },
      ends result fill.ok,
    ) where
      ends : {T E : Type 0} (r : Result T E) → OnOk r (IsSettled to.now.disk × IsFull (other_slot slot) writes next.mark to.now.disk.seen) → OnOk r (IsSettled to.now.disk × IsWritten slot writes next from.now.disk.seen to.now.disk.seen)
      ends (Ok x) is = (is.0, written_is from.now.disk.seen to.now.disk.seen shut fill.changes.agrees is.1)
      ends (Err e) is = tt

    -- the gate is opened
    pub opens : {T E : Type 0} (result : Result T E) (closed : List ℕ) {from to : Outside} → IsSettled from.now.disk → IsClosed slot rest closed → IsWritten slot writes next closed from.now.disk.seen
        → PutsAndSyncs (slot_place (other_slot slot)) (open_byte ∷ []) from to result
        → GoesOn old next slot writes rest from to × OnOk result (IsAtRest next (other_slot slot) (Some old.mark) to.now.disk × Holds to.now.disk.seen old)
    opens result closed {from} {to} rests shut written puts = (
      record {
        goes = weaker (λ at is. (
          is.0,
          changes_wider (gate_range (other_slot slot) ∷ []) (commit_ranges slot writes) from.now.disk.seen at.disk.seen (gate_places slot writes) (put_changes (slot_place (other_slot slot)) (open_byte ∷ []) from.now.disk at.disk within_ is.1),
          ⊎_elim
              (λ within. opening closed from.now.disk.seen shut written (writes_only_goes_on (gate_range (other_slot slot) ∷ []) from.now.disk.seen from.now.disk at.disk (writes_only_begins (gate_range (other_slot slot) ∷ []) from.now.disk rests) within))
              (λ done. let last = at_end at.disk done in ended last.0 last.1)
              is.1,
        )) puts.moments;
        changes = changes_wider (gate_range (other_slot slot) ∷ []) (commit_ranges slot writes) from.now.disk.seen to.now.disk.seen (gate_places slot writes) (puts_change result (slot_place (other_slot slot)) (open_byte ∷ []) within_ puts);
        said = puts.said;
        input = puts.input;
      },
      ends result puts.ok,
    ) where
      opened : List ℕ
      opened = put_bytes from.now.disk.seen (slot_place (other_slot slot)) (open_byte ∷ [])

      headed_long : 192 ≤ length from.now.disk.seen
      headed_long = let l = chooses.headed.long in let a = shut.agrees.no_shorter in let b = written.agrees.no_shorter in omega (arith, l, a, b)

      within_ : slot_place (other_slot slot) ≤ length from.now.disk.seen
      within_ = omega (arith, headed_long)

      agrees : AgreesBut (gate_range (other_slot slot) ∷ []) from.now.disk.seen opened
      agrees = agrees_put from.now.disk.seen (slot_place (other_slot slot)) (open_byte ∷ []) within_

      is_open : IsOpen opened (other_slot slot)
      is_open = let at : slot_place (other_slot slot) + 0 ≡ slot_place (other_slot slot) = omega arith in
          subst (λ (k : ℕ). slice_index opened k ≡ open_byte) at (slice_index-put_bytes_inside from.now.disk.seen (slot_place (other_slot slot)) (open_byte ∷ []) within_ 0 (omega arith))

      at_end : (disk : DiskState) → disk ≡ settled opened → IsAtRest next (other_slot slot) (Some old.mark) disk × Holds disk.seen old
      at_end disk is = subst (λ (d : DiskState). IsAtRest next (other_slot slot) (Some old.mark) d × Holds d.seen old) (sym is) (
        record {
          settled = IsSettled-settled opened;
          chooses = next_marks old next slot writes chooses.low sound rest closed from.now.disk.seen opened other chooses holds shut written agrees is_open;
          holds = next_stands old next slot writes chooses.low sound rest closed from.now.disk.seen opened other chooses holds shut written agrees;
        },
        opening_holds old next slot writes chooses.low sound rest closed from.now.disk.seen opened other chooses holds shut written agrees,
      )

      ends : {T E : Type 0} (r : Result T E) → OnOk r (to.now.disk ≡ settled opened) → OnOk r (IsAtRest next (other_slot slot) (Some old.mark) to.now.disk × Holds to.now.disk.seen old)
      ends (Ok x) is = at_end to.now.disk is
      ends (Err e) is = tt

-- the newest moment came in the run, or it is that at its start
now_goes : {P : Moment → Type 0} {from to : Outside} → Goes P from to → P to.now ⊎ (to.now ≡ from.now)
now_goes {P} {from} {to} goes = cases goes.added goes.follows goes.each
  where
    head_is : (x y : Moment) (xs ys : List Moment) → x ∷ xs ≡ y ∷ ys → x ≡ y
    head_is x y xs ys same = cc

    cases : (added : List Moment) → moments to ≡ added ++ moments from → Each P added → P to.now ⊎ (to.now ≡ from.now)
    cases [] follows each = inr (head_is to.now from.now to.past from.past follows)
    cases (m ∷ added) follows each = inl (subst P (sym (head_is to.now m to.past (added ++ moments from) follows)) each.0)

-- What the whole run leaves.
pub carried : {T E : Type 0} {old next : Footprint} {slot : ℕ} {writes : List Block} {from to : Outside} (result : Result T E) (other : Option Mark) → IsAtRest old slot other from.now.disk → IsSoundAfter old writes next
    → GoesOn old next slot writes from.now.disk.seen from to → OnOk result (IsAtRest next (other_slot slot) (Some old.mark) to.now.disk × Holds to.now.disk.seen old)
    → OnOk result (to.now.disk ≡ settled (file_after slot other writes next.mark from.now.disk.seen)) → Carries old next slot other writes from to result
carried {old = old} {next} {slot} {writes} {from} {to} result other rest sound run ends file = record {
  moments = weaker (λ at is. record { silent = is.0; changes = is.1; images = images at.disk is.2 }) run.goes;
  left = ⊎_elim (λ came. images to.now.disk came.2) (λ same. subst (λ (m : Moment). (image : List ℕ) → IsImage m.disk image → MayStand old next image) (sym same) still) (now_goes run.goes);
  sound = ⊎_elim (λ came. phase_sound old next slot writes from.now.disk.seen to.now.disk came.2) (λ same. subst (λ (m : Moment). IsSound m.disk) (sym same) (IsSound-settled from.now.disk rest.settled)) (now_goes run.goes);
  rest = ends;
  file = file;
  changes = run.changes;
  said = run.said;
  input = run.input;
} where
  images : (disk : DiskState) → IsInPhase old next slot writes from.now.disk.seen disk → (image : List ℕ) → IsImage disk image → MayStand old next image
  images disk phase image is = phase_images old next slot writes from.now.disk.seen other disk image sound rest.chooses rest.holds phase is

  still : (image : List ℕ) → IsImage from.now.disk image → MayStand old next image
  still image is =
      let same = image_of_settled from.now.disk image rest.settled is in
      inl (slot, other, subst (λ (i : List ℕ). Chooses i slot old.mark other) (sym same) rest.chooses, subst (λ (i : List ℕ). Holds i old) (sym same) rest.holds)

-- The call, by how far it came.
module _ {old next : Footprint} {marks : Marks} {writes : List Block} {mark : Mark} (start : Outside) (ready : IsReady old next marks writes mark start.now.disk) where
  closed_first : {T E : Type 0} (result : Result T E) {to : Outside} → (marks.other ≡ None → to ≡ start) → (IsSome marks.other → PutsAndSyncs (slot_place (other_slot marks.slot)) (0 ∷ []) start to result)
      → GoesOn old next marks.slot writes start.now.disk.seen start to × OnOk result (IsSettled to.now.disk × IsClosed marks.slot start.now.disk.seen to.now.disk.seen)
  closed_first result same closing_ = closes old next marks.slot writes result marks.other ready.rest same closing_

  -- what the first step leaves of the file
  closed_is : {T E : Type 0} {x : T} {mid : Outside} (other : Option Mark) → (other ≡ None → mid ≡ start) → (IsSome other → PutsAndSyncs {E = E} (slot_place (other_slot marks.slot)) (0 ∷ []) start mid (Ok x))
      → mid.now.disk.seen ≡ with_gate_closed (other_slot marks.slot) other start.now.disk.seen
  closed_is None same closing_ = ap (λ (o : Outside). o.now.disk.seen) (same refl)
  closed_is (Some m) same closing_ = ap (λ (d : DiskState). d.seen) (closing_ refl).ok

  -- the gate of the other slot lies within the file before its body is written
  reaches : (other : Option Mark) → slot_place (other_slot marks.slot) + 1 ≤ length start.now.disk.seen → slot_place (other_slot marks.slot) + 1 ≤ length (with_blocks writes (with_gate_closed (other_slot marks.slot) other start.now.disk.seen))
  reaches None long = le_trans long (blocks_lengthen writes start.now.disk.seen)
  reaches (Some m) long = le_trans (le_trans long (put_lengthens start.now.disk.seen (slot_place (other_slot marks.slot)) (0 ∷ []))) (blocks_lengthen writes (put_bytes start.now.disk.seen (slot_place (other_slot marks.slot)) (0 ∷ [])))

  -- the file after all three
  filed : {V G : Type 0} (result : Result V G) (mid full to : Outside) → OnOk result (to.now.disk ≡ settled (put_bytes full.now.disk.seen (slot_place (other_slot marks.slot)) (open_byte ∷ [])))
      → mid.now.disk.seen ≡ with_gate_closed (other_slot marks.slot) marks.other start.now.disk.seen
      → full.now.disk.seen ≡ put_bytes (with_blocks writes mid.now.disk.seen) (slot_place (other_slot marks.slot) + 1) (body_bytes mark)
      → slot_place (other_slot marks.slot) + 1 ≤ length start.now.disk.seen
      → OnOk result (to.now.disk ≡ settled (file_after marks.slot marks.other writes next.mark start.now.disk.seen))
  filed (Ok v) mid full to opened shut filled long =
      let place = slot_place (other_slot marks.slot) in
      let blocks = with_blocks writes (with_gate_closed (other_slot marks.slot) marks.other start.now.disk.seen) in
      let full_is : full.now.disk.seen ≡ put_bytes blocks (place + 1) (body_bytes mark) =
      filled ∙ ap (λ (l : List ℕ). put_bytes (with_blocks writes l) (place + 1) (body_bytes mark)) shut in
      opened ∙ ap settled (ap (λ (l : List ℕ). put_bytes l place (open_byte ∷ [])) full_is
      ∙ put_before blocks place open_byte (body_bytes mark) (reaches marks.other long)
      ∙ ap (λ (m : Mark). put_bytes blocks place (open_byte ∷ body_bytes m)) (sym ready.mark_is))
  filed (Err e) mid full to opened shut filled long = tt

  filled_then : {T E : Type 0} (result : Result T E) {from to : Outside} → IsSettled from.now.disk × IsClosed marks.slot start.now.disk.seen from.now.disk.seen → FillsBehind (other_slot marks.slot) writes mark from to result
      → GoesOn old next marks.slot writes start.now.disk.seen from to × OnOk result (IsSettled to.now.disk × IsWritten marks.slot writes next from.now.disk.seen to.now.disk.seen)
  filled_then result {from} {to} shut fill =
      fills old next marks.slot writes ready.sound start.now.disk.seen marks.other ready.rest.chooses ready.rest.holds result shut.0 shut.1 (subst (λ (m : Mark). FillsBehind (other_slot marks.slot) writes m from to result) (sym ready.mark_is) fill)

  pub unless_closed : {T U E F : Type 0} {e : E} {f : F} {to : Outside} → (marks.other ≡ None → to ≡ start) → (IsSome marks.other → PutsAndSyncs {T = T} (slot_place (other_slot marks.slot)) (0 ∷ []) start to (Err e))
      → Carries {T = U} old next marks.slot marks.other writes start to (Err f)
  unless_closed {T} {U} {E} {F} {e} {f} same closing_ = carried (Err f) marks.other ready.rest ready.sound (closed_first {T = T} (Err e) same closing_).0 tt tt

  pub unless_filled : {T U V E F G : Type 0} {x : T} {e : F} {f : G} {mid to : Outside} → (marks.other ≡ None → mid ≡ start) → (IsSome marks.other → PutsAndSyncs {E = E} (slot_place (other_slot marks.slot)) (0 ∷ []) start mid (Ok x))
      → FillsBehind {T = U} (other_slot marks.slot) writes mark mid to (Err e) → Carries {T = V} old next marks.slot marks.other writes start to (Err f)
  unless_filled {T} {U} {V} {E} {F} {G} {x} {e} {f} same closing_ fill =
      let first = closed_first {E = E} (Ok x) same closing_ in
      carried (Err f) marks.other ready.rest ready.sound (goes_joins first.0 (filled_then {T = U} (Err e) first.1 fill).0) tt tt

  pub opened_last : {T U V E F G : Type 0} {x : T} {y : U} {mid full to : Outside} (result : Result V G) → (marks.other ≡ None → mid ≡ start) → (IsSome marks.other → PutsAndSyncs {E = E} (slot_place (other_slot marks.slot)) (0 ∷ []) start mid (Ok x))
      → FillsBehind {E = F} (other_slot marks.slot) writes mark mid full (Ok y) → PutsAndSyncs (slot_place (other_slot marks.slot)) (open_byte ∷ []) full to result → Carries old next marks.slot marks.other writes start to result
  opened_last {T} {U} {V} {E} {F} {G} {x} {y} {mid} {full} {to} result same closing_ fill puts =
      let first = closed_first {E = E} (Ok x) same closing_ in
      let then = filled_then {E = F} (Ok y) first.1 fill in
      let last = opens old next marks.slot writes ready.sound start.now.disk.seen marks.other ready.rest.chooses ready.rest.holds result mid.now.disk.seen then.1.0 first.1.1 then.1.1 puts in
      carried result marks.other ready.rest ready.sound (goes_joins first.0 (goes_joins then.0 last.0)) last.1
      (filed result mid full to puts.ok (closed_is {E = E} {x = x} marks.other same closing_) fill.file (let l = ready.rest.chooses.headed.long in omega (arith, l)))
