-- Each phase of a commit leaves the old commit, or the next one with the old one before it.
use Rattle.std.proofs.Common.{◌≡◌, sym, ◌∙◌, subst, ℕ, ◌≤◌, inl, inr, ⊎_elim, List, [], ◌∷◌, length, arith, All, Contains, slice_index, Option, Some, None}
use Rattle.std.proofs.lemmas.Bool.{cases_eq}
use Rattle.std.proofs.lemmas.List.Elements.{All-weaker, All-contains, All-contains_itself}
use Rattle.host_io.specs.Disk.{DiskState, IsImage, IsSound}
use Rattle.host_io.specs.Ranges.{AgreesBut}
use Rattle.host_io.proofs.Images.{image_of_settled, IsSound-settled}
use Rattle.host_io.proofs.Ranges.{bytes_agree, images_agree}
use Rattle.free_space.proofs.ExtentLemmas.{le-extent_len}
use Rattle.commit_marks.specs.declared.mark.Mark.{Mark}
use Rattle.commit_marks.specs.Marks.{Chooses, IsOpen, gate_range, open_byte, other_slot, slot_place}
use Rattle.commit_marks.proofs.Chosen.{closed_chooses, closing_chooses, gate_closed_chooses, gate_on, opened_chooses}
use Rattle.commit_writes.specs.Blocks.{Block, IsBlockWithin, StandsAt, span_range}
use Rattle.commit_writes.specs.Footprints.{Footprint, Holds, MayStand}
use Rattle.commit_writes.specs.Plans.{IsSoundAfter}
use Rattle.commit_writes.specs.Phases.{IsClosed, IsInPhase, IsWritten, closing, ended, opening, ranges_behind, writing}
use Rattle.commit_writes.proofs.Frames.{chosen_clear, gate_clear_behind, header_clear, holds_behind, holds_gate, next_holds, other_gate_clear}

pub other_low : (slot : ℕ) → other_slot slot ≤ 1
other_low slot = omega arith

module _ (old next : Footprint) (slot : ℕ) (writes : List Block) (low : slot ≤ 1) (sound : IsSoundAfter old writes next) where
  -- over a closed gate the old mark stays chosen
  pub closed_marks : (rest closed : List ℕ) (other : Option Mark) → IsClosed slot rest closed → Chooses rest slot old.mark other → Chooses closed slot old.mark None
  closed_marks rest closed other shut chooses = gate_closed_chooses rest closed slot old.mark other shut.agrees chooses shut.gate

  -- what is written behind a closed gate leaves it closed
  pub still_closed : (closed image : List ℕ) → AgreesBut (ranges_behind (other_slot slot) writes) closed image → Chooses closed slot old.mark None → ¬ IsOpen image (other_slot slot)
  still_closed closed image agrees chooses open_ = chooses.beside
      (sym (gate_on (ranges_behind (other_slot slot) writes) closed image (other_slot slot) (other_low slot) (other_gate_clear slot writes next.mark.end low sound.sited) agrees chooses.headed) ∙ open_)

  pub behind_marks : (closed image : List ℕ) → AgreesBut (ranges_behind (other_slot slot) writes) closed image → Chooses closed slot old.mark None → Chooses image slot old.mark None
  behind_marks closed image agrees chooses = closed_chooses (ranges_behind (other_slot slot) writes) closed image slot old.mark None
      (header_clear slot writes next.mark.end low sound.sited) (chosen_clear slot writes next.mark.end low sound.sited) agrees chooses (still_closed closed image agrees chooses)

  -- the blocks stand on while the gate over them is opened
  blocks_stand : (full image : List ℕ) → AgreesBut (gate_range (other_slot slot) ∷ []) full image → next.mark.end ≤ length full → All (StandsAt full) writes → All (StandsAt image) writes
  blocks_stand full image agrees long blocks = All-weaker (Contains writes) (StandsAt image) stands writes (All-contains_itself writes)
    where
      stands : (b : Block) → Contains writes b → StandsAt image b
      stands b there =
          let site = All-contains (IsBlockWithin next.mark.end) writes b sound.sited there in
          bytes_agree (gate_range (other_slot slot) ∷ []) full image (span_range b.span) agrees (gate_clear_behind (other_slot slot) (span_range b.span) (other_low slot) site.site.behind)
          (let w = site.site.within in let l = le-extent_len b.span.len in omega (arith, w, l, long))
          ∙ All-contains (StandsAt full) writes b blocks there

  module _ (rest closed full image : List ℕ) (other : Option Mark) (chooses : Chooses rest slot old.mark other) (holds : Holds rest old)
      (shut : IsClosed slot rest closed) (written : IsWritten slot writes next closed full) (agrees : AgreesBut (gate_range (other_slot slot) ∷ []) full image) where
    full_marks : Chooses full slot old.mark None
    full_marks = behind_marks closed full written.agrees (closed_marks rest closed other shut chooses)

    -- the old commit stands while the gate is opened
    pub opening_holds : Holds image old
    opening_holds = holds_gate (other_slot slot) full image old (other_low slot) agrees
        (holds_behind slot closed full old next writes low sound written.agrees (holds_gate (other_slot slot) rest closed old (other_low slot) shut.agrees holds))

    pub still_old : ¬ IsOpen image (other_slot slot) → Chooses image slot old.mark None
    still_old closed_ = gate_closed_chooses full image slot old.mark None agrees full_marks closed_

    -- and once it is open the next one stands
    pub next_marks : IsOpen image (other_slot slot) → Chooses image (other_slot slot) next.mark (Some old.mark)
    next_marks open_ = opened_chooses full image slot old.mark next.mark agrees full_marks sound.whole.mark (let n = sound.number in omega (arith, n)) written.body open_

    pub next_stands : Holds image next
    next_stands = next_holds old next writes image sound opening_holds (blocks_stand full image agrees written.long written.blocks)
        (let a = agrees.no_shorter in let w = written.long in omega (arith, a, w))

-- Each moment of a commit by a sound plan leaves the old commit, or the next one with the old one before it.
pub phase_images : (old next : Footprint) (slot : ℕ) (writes : List Block) (rest : List ℕ) (other : Option Mark) (disk : DiskState) (image : List ℕ)
    → IsSoundAfter old writes next → Chooses rest slot old.mark other → Holds rest old → IsInPhase old next slot writes rest disk → IsImage disk image → MayStand old next image
phase_images old next slot writes rest other disk image sound chooses holds (closing was only) is = ⊎_elim
    (λ open_. inl (slot, other, closing_chooses rest image slot old.mark other agrees chooses was open_, stands))
    (λ shut. inl (slot, None, gate_closed_chooses rest image slot old.mark other agrees chooses shut, stands))
    (cases_eq (slice_index image (slot_place (other_slot slot))) open_byte)
  where
    agrees : AgreesBut (gate_range (other_slot slot) ∷ []) rest image
    agrees = images_agree (gate_range (other_slot slot) ∷ []) rest disk image only is

    stands : Holds image old
    stands = holds_gate (other_slot slot) rest image old (other_low slot) agrees holds
phase_images old next slot writes rest other disk image sound chooses holds (writing closed shut only) is =
    inl (slot, None, behind_marks old next slot writes chooses.low sound closed image agrees (closed_marks old next slot writes chooses.low sound rest closed other shut chooses), stands)
  where
    agrees : AgreesBut (ranges_behind (other_slot slot) writes) closed image
    agrees = images_agree (ranges_behind (other_slot slot) writes) closed disk image only is

    stands : Holds image old
    stands = holds_behind slot closed image old next writes chooses.low sound agrees (holds_gate (other_slot slot) rest closed old (other_low slot) shut.agrees holds)
phase_images old next slot writes rest other disk image sound chooses holds (opening closed full shut written only) is = ⊎_elim
    (λ open_. let marks = next_marks old next slot writes chooses.low sound rest closed full image other chooses holds shut written agrees open_ in
    inr ((other_slot slot, Some old.mark, marks, next_stands old next slot writes chooses.low sound rest closed full image other chooses holds shut written agrees), (other_slot slot, next.mark, marks, stands)))
    (λ closed_. inl (slot, None, still_old old next slot writes chooses.low sound rest closed full image other chooses holds shut written agrees closed_, stands))
    (cases_eq (slice_index image (slot_place (other_slot slot))) open_byte)
  where
    agrees : AgreesBut (gate_range (other_slot slot) ∷ []) full image
    agrees = images_agree (gate_range (other_slot slot) ∷ []) full disk image only is

    stands : Holds image old
    stands = opening_holds old next slot writes chooses.low sound rest closed full image other chooses holds shut written agrees
phase_images old next slot writes rest other disk image sound chooses holds (ended at_rest still) is =
    inr ((other_slot slot, Some old.mark, marks, subst (λ (i : List ℕ). Holds i next) same at_rest.holds), (other_slot slot, next.mark, marks, subst (λ (i : List ℕ). Holds i old) same still))
  where
    same : disk.seen ≡ image
    same = sym (image_of_settled disk image at_rest.settled is)

    marks : Chooses image (other_slot slot) next.mark (Some old.mark)
    marks = subst (λ (i : List ℕ). Chooses i (other_slot slot) next.mark (Some old.mark)) same at_rest.chooses

-- while a commit is made the disk is sound
pub phase_sound : (old next : Footprint) (slot : ℕ) (writes : List Block) (rest : List ℕ) (disk : DiskState) → IsInPhase old next slot writes rest disk → IsSound disk
phase_sound old next slot writes rest disk (closing was only) = only.sound
phase_sound old next slot writes rest disk (writing closed shut only) = only.sound
phase_sound old next slot writes rest disk (opening closed full shut written only) = only.sound
phase_sound old next slot writes rest disk (ended at_rest still) = IsSound-settled disk at_rest.settled
