-- Bytes outside of what is written keep a commit standing.
use Rattle.std.proofs.Common.{◌≡◌, refl, sym, ◌∙◌, ap, subst, ℕ, ◌<◌, ◌≤◌, ◌⊎◌, ⊎_elim, List, [], ◌∷◌, length, map, arith, All, Contains}
use Rattle.std.proofs.lemmas.List.{get_or-map, length-map}
use Rattle.std.proofs.lemmas.List.Elements.{All-weaker, All-contains, All-contains_itself, All-head, All-tail}
use Rattle.mk_value.specs.declared.span.Span.{Span}
use Rattle.host_io.specs.Disk.{Range, IsWithin}
use Rattle.host_io.specs.Ranges.{IsAmong, IsClear, AgreesBut}
use Rattle.host_io.proofs.Ranges.{bytes_agree}
use Rattle.free_space.specs.Extents.{Meets}
use Rattle.free_space.specs.FreeSpace.{IsFree}
use Rattle.free_space.proofs.ExtentLemmas.{le-extent_len}
use Rattle.commit_marks.specs.Marks.{gate_range, other_slot, slot_place, slot_range}
use Rattle.commit_marks.proofs.Chosen.{header_range}
use Rattle.commit_writes.specs.Blocks.{Block, IsBlockWithin, IsSited, StandsAt, extents_of, no_block, span_range, spans_of}
use Rattle.commit_writes.specs.Footprints.{Footprint, Holds}
use Rattle.commit_writes.specs.Plans.{IsSoundAfter}
use Rattle.commit_writes.specs.Phases.{ranges_behind}

-- blocks in the used part of a file lie behind its slots
pub extents_behind : (writes : List Block) (end place : ℕ) → All (IsBlockWithin end) writes → IsAmong place (extents_of writes) → 192 ≤ place
extents_behind [] end place sited among = absurd among
extents_behind (b ∷ writes) end place sited among = ⊎_elim
    (λ here. let behind = (All-head (IsBlockWithin end) b writes sited).site.behind in let h = here.0 in omega (arith, behind, h))
    (λ later. extents_behind writes end place (All-tail (IsBlockWithin end) b writes sited) later)
    among

-- blocks that meet no span in use write over none
extents_free : (writes : List Block) (used : List Span) (span : Span) (place : ℕ) → All (λ b. IsFree used b.span) writes → Contains used span
    → IsWithin place (span_range span) → IsAmong place (extents_of writes) → ⊥
extents_free [] used span place free there within among = among
extents_free (b ∷ writes) used span place free there within among = ⊎_elim
    (λ here. All-contains (λ other. ¬ Meets other b.span) used span (All-head (λ b. IsFree used b.span) b writes free) there
    (place, (within.0, let l = le-extent_len span.len in let w = within.1 in omega (arith, l, w)), here))
    (λ later. extents_free writes used span place (All-tail (λ b. IsFree used b.span) b writes free) there within later)
    among

contains_map : {X Y : Type 0} (f : X → Y) (xs : List X) (x : X) → Contains xs x → Contains (map f xs) (f x)
contains_map f xs x there =
    (there.0, subst (λ (n : ℕ). there.0 < n) (sym (length-map xs f)) there.1, get_or-map f xs there.0 x (f x) there.1 ∙ ap f there.2)

-- a gate lies clear of what lies behind the slots
pub gate_clear_behind : (slot : ℕ) (range : Range) → slot ≤ 1 → 192 ≤ range.start → IsClear (gate_range slot ∷ []) range
gate_clear_behind slot range low behind place within among =
    ⊎_elim (λ here. let b = here.1 in let w = within.0 in omega (arith, b, w, behind, low)) (λ none. absurd none) among

-- what is written behind the closed gate of the other slot lies clear of the header, of this slot and of that gate
module _ (slot : ℕ) (writes : List Block) (end : ℕ) (low : slot ≤ 1) (sited : All (IsBlockWithin end) writes) where
  pub header_clear : IsClear (ranges_behind (other_slot slot) writes) header_range
  header_clear place within among = ⊎_elim
      (λ here. let a = here.0 in let w = within.1 in omega (arith, a, w, low))
      (λ extents. let behind = extents_behind writes end place sited extents in let w = within.1 in omega (arith, w, behind))
      among

  pub chosen_clear : IsClear (ranges_behind (other_slot slot) writes) (slot_range slot)
  chosen_clear place within among = ⊎_elim
      (λ here. let a = here.0 in let b = here.1 in let f = within.0 in let g = within.1 in omega (arith, a, b, f, g, low))
      (λ extents. let behind = extents_behind writes end place sited extents in let w = within.1 in omega (arith, w, behind, low))
      among

  pub other_gate_clear : IsAmong (slot_place (other_slot slot)) (ranges_behind (other_slot slot) writes) → ⊥
  other_gate_clear among = ⊎_elim
      (λ here. let a = here.0 in omega (arith, a))
      (λ extents. let behind = extents_behind writes end (slot_place (other_slot slot)) sited extents in omega (arith, behind, low))
      among

-- a commit of which no block lies where it was written stands on
pub holds_elsewhere : (ranges : List Range) (old new : List ℕ) (f : Footprint) → AgreesBut ranges old new → Holds old f
    → ((span : Span) → Contains (spans_of f.blocks) span → 192 ≤ span.place → IsClear ranges (span_range span)) → Holds new f
holds_elsewhere ranges old new f agrees holds clear = record {
  whole = holds.whole;
  within = let l = agrees.no_shorter in let w = holds.within in omega (arith, l, w);
  blocks = All-weaker (Contains f.blocks) (StandsAt new) stands f.blocks (All-contains_itself f.blocks);
} where
  stands : (b : Block) → Contains f.blocks b → StandsAt new b
  stands b there = ⊎_elim
      (λ none. subst (StandsAt new) (sym none) refl)
      (λ site. bytes_agree ranges old new (span_range b.span) agrees
      (clear b.span (contains_map (λ (b : Block). b.span) f.blocks b there) site.site.behind)
      (let w = site.site.within in let l = le-extent_len b.span.len in let e = holds.within in omega (arith, w, l, e))
      ∙ All-contains (StandsAt old) f.blocks b holds.blocks there)
      (All-contains (IsSited f.mark.end) f.blocks b holds.whole.sited there)

-- the gate is written over
pub holds_gate : (slot : ℕ) (old new : List ℕ) (f : Footprint) → slot ≤ 1 → AgreesBut (gate_range slot ∷ []) old new → Holds old f → Holds new f
holds_gate slot old new f low agrees holds =
    holds_elsewhere (gate_range slot ∷ []) old new f agrees holds (λ span there behind. gate_clear_behind slot (span_range span) low behind)

-- what a sound plan writes behind the closed gate leaves the old commit standing
pub holds_behind : (slot : ℕ) (image new : List ℕ) (old next : Footprint) (writes : List Block) → slot ≤ 1 → IsSoundAfter old writes next
    → AgreesBut (ranges_behind (other_slot slot) writes) image new → Holds image old → Holds new old
holds_behind slot image new old next writes low sound agrees holds = holds_elsewhere (ranges_behind (other_slot slot) writes) image new old agrees holds clear
  where
    clear : (span : Span) → Contains (spans_of old.blocks) span → 192 ≤ span.place → IsClear (ranges_behind (other_slot slot) writes) (span_range span)
    clear span there behind place within among = ⊎_elim
        (λ here. let b = here.1 in let w = within.0 in omega (arith, b, w, behind, low))
        (λ extents. extents_free writes (spans_of old.blocks) span place sound.free there within extents)
        among

-- an image that holds what a sound plan writes, and where the old commit stands, stands for the next one
pub next_holds : (old next : Footprint) (writes : List Block) (image : List ℕ) → IsSoundAfter old writes next → Holds image old
    → All (StandsAt image) writes → next.mark.end ≤ length image → Holds image next
next_holds old next writes image sound holds written long = record {
  whole = sound.whole;
  within = long;
  blocks = All-weaker (Contains next.blocks) (StandsAt image) stands next.blocks (All-contains_itself next.blocks);
} where
  stands : (b : Block) → Contains next.blocks b → StandsAt image b
  stands b there = ⊎_elim
      (λ none. subst (StandsAt image) (sym none) refl)
      (λ from. ⊎_elim
      (λ kept. All-contains (StandsAt image) old.blocks b holds.blocks kept)
      (λ new. All-contains (StandsAt image) writes b written new)
      from)
      (All-contains (λ b. (b ≡ no_block) ⊎ (Contains old.blocks b ⊎ Contains writes b)) next.blocks b sound.made there)
