-- What is written behind the closed gate of a slot: the blocks, and then the body.
use Rattle.std.proofs.Common.{◌≡◌, sym, ◌∙◌, ap, subst, ℕ, ◌+◌, ◌≤◌, inl, inr, ⊎_elim, List, [], ◌∷◌, length, arith, All, Contains, Result, Ok, Err, OnOk}
use Rattle.std.proofs.lemmas.List.Elements.{All-weaker, All-contains, All-contains_itself}
use Rattle.host_io.specs.Disk.{DiskState}
use Rattle.host_io.specs.Calls.{Syncs, put_bytes}
use Rattle.host_io.specs.Outside.{Goes, Moment, Outside}
use Rattle.host_io.specs.Ranges.{AgreesBut, AreWithin, ChangesOnly, IsClear, Puts, WritesWithin, bytes_in}
use Rattle.host_io.proofs.Bytes.{read-put_bytes}
use Rattle.host_io.proofs.Images.{IsSettled-syncs}
use Rattle.host_io.proofs.Moments.{joins, steps_syncs, weaker}
use Rattle.host_io.proofs.Ranges.{bytes_agree, changes_wider, within_joins, within_wider}
use Rattle.free_space.proofs.ExtentLemmas.{le-extent_len}
use Rattle.commit_marks.specs.declared.mark.Mark.{Mark}
use Rattle.commit_marks.specs.Marks.{body_bytes, body_range, slot_place}
use Rattle.commit_writes.specs.Blocks.{Block, IsWritable, extents_of, span_range, with_blocks}
use Rattle.commit_writes.specs.Phases.{ranges_behind}
use Rattle.commit_writes.specs.Writing.{FillsBehind, IsFull, IsWhole, PutsBlocks}

module _ (slot : ℕ) (blocks : List Block) where
  extents_behind : AreWithin (extents_of blocks) (ranges_behind slot blocks)
  extents_behind place among = inr among

  body_behind : AreWithin (body_range slot ∷ []) (ranges_behind slot blocks)
  body_behind place among = ⊎_elim (λ here. inl here) (λ none. absurd none) among

  of_blocks : (old new : DiskState) → WritesWithin (extents_of blocks) old new → WritesWithin (ranges_behind slot blocks) old new
  of_blocks old new = within_wider (extents_of blocks) (ranges_behind slot blocks) old new extents_behind

  of_body : (old new : DiskState) → WritesWithin (body_range slot ∷ []) old new → WritesWithin (ranges_behind slot blocks) old new
  of_body old new = within_wider (body_range slot ∷ []) (ranges_behind slot blocks) old new body_behind

  -- the blocks stand on while the body is written
  body_leaves : (old new : List ℕ) → slot ≤ 1 → All IsWritable blocks → AgreesBut (body_range slot ∷ []) old new → All (IsWhole old) blocks → All (IsWhole new) blocks
  body_leaves old new low writable agrees whole = All-weaker (Contains blocks) (IsWhole new) still blocks (All-contains_itself blocks)
    where
      clear : (b : Block) → IsWritable b → IsClear (body_range slot ∷ []) (span_range b.span)
      clear b is place within among = ⊎_elim
          (λ here. let behind = is.behind in let e = here.1 in let w = within.0 in omega (arith, behind, e, w, low))
          (λ none. absurd none)
          among

      still : (b : Block) → Contains blocks b → IsWhole new b
      still b there =
          let is = All-contains (IsWhole old) blocks b whole there in
          record {
            stands = bytes_agree (body_range slot ∷ []) old new (span_range b.span) agrees (clear b (All-contains IsWritable blocks b writable there))
                (let l = is.long in let e = le-extent_len b.span.len in omega (arith, l, e)) ∙ is.stands;
            long = let l = is.long in let a = agrees.no_shorter in omega (arith, l, a);
          }

-- writing the blocks failed
pub fills_unless_blocks : {T U E F : Type 0} {e : E} {f : F} {slot : ℕ} {blocks : List Block} {mark : Mark} {old new : Outside} → PutsBlocks {T = T} blocks old new (Err e) → FillsBehind {T = U} slot blocks mark old new (Err f)
fills_unless_blocks {slot = slot} {blocks} {mark} {old} {new} puts = record {
  ok = tt;
  file = tt;
  changes = changes_wider (extents_of blocks) (ranges_behind slot blocks) old.now.disk.seen new.now.disk.seen (extents_behind slot blocks) puts.within.changes;
  moments = weaker (λ at is. (is.0, inl (of_blocks slot blocks old.now.disk at.disk is.1))) puts.moments;
  said = puts.said;
  input = puts.input;
}

-- the blocks and the body are written, of which the second may have failed
pub record HasFilled {T E : Type 0} (slot : ℕ) (blocks : List Block) (mark : Mark) (old new : Outside) (result : Result T E) : Type 0 where
  pub ok : OnOk result (IsFull slot blocks mark new.now.disk.seen)
  pub file : OnOk result (new.now.disk.seen ≡ put_bytes (with_blocks blocks old.now.disk.seen) (slot_place slot + 1) (body_bytes mark))
  pub moments : Goes (λ at. (at.said ≡ old.now.said) × WritesWithin (ranges_behind slot blocks) old.now.disk at.disk) old new
  pub within : WritesWithin (ranges_behind slot blocks) old.now.disk new.now.disk
  pub said : new.now.said ≡ old.now.said
  pub input : new.input ≡ old.input

pub has_filled : {T U E F : Type 0} {x : T} {slot : ℕ} {blocks : List Block} {mark : Mark} {old mid new : Outside} (result : Result U F) → slot ≤ 1 → 192 ≤ length old.now.disk.seen → All IsWritable blocks
    → PutsBlocks {E = E} blocks old mid (Ok x) → Puts (slot_place slot + 1) (body_bytes mark) mid new result → HasFilled slot blocks mark old new result
has_filled {slot = slot} {blocks} {mark} {old} {mid} {new} result low long writable first then = record {
  ok = full result then.ok;
  file = filled result then.ok;
  moments = joins
      (weaker (λ at is. (is.0, of_blocks slot blocks old.now.disk at.disk is.1)) first.moments)
      (weaker (λ at is. (is.0 ∙ first.said, both at.disk is.1)) then.moments);
  within = both new.now.disk then.within;
  said = then.said ∙ first.said;
  input = then.input ∙ first.input;
} where
  both : (disk : DiskState) → WritesWithin (body_range slot ∷ []) mid.now.disk disk → WritesWithin (ranges_behind slot blocks) old.now.disk disk
  both disk more = within_joins (ranges_behind slot blocks) old.now.disk mid.now.disk disk (of_blocks slot blocks old.now.disk mid.now.disk first.within) (of_body slot blocks mid.now.disk disk more)

  reach : slot_place slot + 1 ≤ length mid.now.disk.seen
  reach = let a = first.within.changes.agrees.no_shorter in omega (arith, a, long, low)

  full : {U F : Type 0} (r : Result U F) → OnOk r (new.now.disk.seen ≡ put_bytes mid.now.disk.seen (slot_place slot + 1) (body_bytes mark)) → OnOk r (IsFull slot blocks mark new.now.disk.seen)
  full (Ok y) is = record {
    blocks_are = body_leaves slot blocks mid.now.disk.seen new.now.disk.seen low writable then.within.changes.agrees first.ok;
    body = ap (λ (l : List ℕ). bytes_in l (body_range slot)) is ∙ read-put_bytes mid.now.disk.seen (slot_place slot + 1) (body_bytes mark) reach;
  }
  full (Err e) is = tt

  filled : {U F : Type 0} (r : Result U F) → OnOk r (new.now.disk.seen ≡ put_bytes mid.now.disk.seen (slot_place slot + 1) (body_bytes mark)) → OnOk r (new.now.disk.seen ≡ put_bytes (with_blocks blocks old.now.disk.seen) (slot_place slot + 1) (body_bytes mark))
  filled (Ok y) is = is ∙ ap (λ (l : List ℕ). put_bytes l (slot_place slot + 1) (body_bytes mark)) first.file
  filled (Err e) is = tt

pub fills_unless_body : {T U E F : Type 0} {e : E} {f : F} {slot : ℕ} {blocks : List Block} {mark : Mark} {old new : Outside} → HasFilled {T = T} slot blocks mark old new (Err e) → FillsBehind {T = U} slot blocks mark old new (Err f)
fills_unless_body filled = record {
  ok = tt;
  file = tt;
  changes = filled.within.changes;
  moments = weaker (λ at is. (is.0, inl is.1)) filled.moments;
  said = filled.said;
  input = filled.input;
}

-- and synced
pub fills_synced : {T U E F : Type 0} {x : T} {slot : ℕ} {blocks : List Block} {mark : Mark} {old mid new : Outside} (result : Result U F) → HasFilled {E = E} slot blocks mark old mid (Ok x) → Syncs mid new result → FillsBehind slot blocks mark old new result
fills_synced {slot = slot} {blocks} {mark} {old} {mid} {new} (Ok y) filled syncs = record {
  ok = (IsSettled-syncs syncs, full);
  file = seen_is ∙ filled.file;
  changes = changes;
  moments = joins (weaker (λ at is. (is.0, inl is.1)) filled.moments) (steps_syncs syncs (syncs.ok.1 ∙ filled.said, inr (IsSettled-syncs syncs, full, changes)));
  said = syncs.ok.1 ∙ filled.said;
  input = syncs.input ∙ filled.input;
} where
  seen_is : new.now.disk.seen ≡ mid.now.disk.seen
  seen_is = ap (λ (d : DiskState). d.seen) syncs.ok.0

  full : IsFull slot blocks mark new.now.disk.seen
  full = subst (IsFull slot blocks mark) (sym seen_is) filled.ok

  changes : ChangesOnly (ranges_behind slot blocks) old.now.disk.seen new.now.disk.seen
  changes = subst (ChangesOnly (ranges_behind slot blocks) old.now.disk.seen) (sym seen_is) filled.within.changes
fills_synced {slot = slot} {blocks} {mark} {old} {mid} {new} (Err f) filled syncs = record {
  ok = tt;
  file = tt;
  changes = subst (λ (m : Moment). ChangesOnly (ranges_behind slot blocks) old.now.disk.seen m.disk.seen) (sym syncs.err.now) filled.within.changes;
  moments = joins (weaker (λ at is. (is.0, inl is.1)) filled.moments) (steps_syncs syncs tt);
  said = ap (λ (m : Moment). m.said) syncs.err.now ∙ filled.said;
  input = syncs.input ∙ filled.input;
}
