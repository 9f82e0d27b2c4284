-- Which mark is chosen, while a commit closes the other slot, writes behind its closed gate, and opens it.
use Rattle.std.proofs.Common.{◌≡◌, refl, sym, ◌∙◌, ap, subst, ℕ, ◌+◌, ◌<◌, ◌≤◌, ◌⊎◌, inl, inr, ⊎_elim, List, [], ◌∷◌, take, arith, slice_index, Option, Some, None}
use Rattle.std.proofs.lemmas.Bool.{cases_eq}
use Rattle.std.proofs.lemmas.List.{drop_more}
use Rattle.host_io.specs.Disk.{Range}
use Rattle.host_io.specs.Calls.{put_bytes}
use Rattle.host_io.specs.Ranges.{IsAmong, IsClear, AgreesBut, bytes_in}
use Rattle.host_io.proofs.Bytes.{read-put_bytes, slice_index-put_bytes_inside}
use Rattle.host_io.proofs.Ranges.{byte_agrees, bytes_agree}
use Rattle.commit_marks.specs.declared.mark.Mark.{Mark}
use Rattle.commit_marks.specs.Marks.{IsHeaded, slot_place, other_slot, slot_range, gate_range, body_range, slot_bytes, open_byte, IsOpen, body_bytes, IsMark, HasMark, HasOther, Chooses}
use Rattle.commit_marks.proofs.Bodies.{one_mark}

abbrev pub header_range : Range
header_range = record { start = 0; count = 64 }

other_other : (slot : ℕ) → slot ≤ 1 → other_slot (other_slot slot) ≡ slot
other_other slot low = omega arith

other_low : (slot : ℕ) → other_slot slot ≤ 1
other_low slot = omega arith

-- the header, a mark and a gate where nothing was written over them
pub headed_on : (ranges : List Range) (old new : List ℕ) → IsClear ranges header_range → AgreesBut ranges old new → IsHeaded old → IsHeaded new
headed_on ranges old new clear agrees is = record {
  long = let l = agrees.no_shorter in let o = is.long in omega (arith, l, o);
  header = bytes_agree ranges old new header_range agrees clear (let o = is.long in omega (arith, o)) ∙ is.header;
}

pub marked_on : (ranges : List Range) (old new : List ℕ) (slot : ℕ) (m : Mark) → slot ≤ 1 → IsClear ranges (slot_range slot) → AgreesBut ranges old new → IsHeaded old → HasMark old slot m → HasMark new slot m
marked_on ranges old new slot m low clear agrees headed is = record {
  good = is.good;
  bytes = bytes_agree ranges old new (slot_range slot) agrees clear (let o = headed.long in omega (arith, o, low)) ∙ is.bytes;
}

pub gate_on : (ranges : List Range) (old new : List ℕ) (slot : ℕ) → slot ≤ 1 → (IsAmong (slot_place slot) ranges → ⊥) → AgreesBut ranges old new → IsHeaded old
    → slice_index new (slot_place slot) ≡ slice_index old (slot_place slot)
gate_on ranges old new slot low clear agrees headed = byte_agrees ranges old new (slot_place slot) agrees clear (let o = headed.long in omega (arith, o, low))

-- a slot is its gate and its body
pub slot_parts : (image : List ℕ) (slot : ℕ) → IsHeaded image → slot ≤ 1 → slot_bytes image slot ≡ slice_index image (slot_place slot) ∷ bytes_in image (body_range slot)
slot_parts image slot headed low = ap (λ (l : List ℕ). take 64 l) (drop_more image (slot_place slot) 0 (let o = headed.long in omega (arith, o, low)))

rest_of : List ℕ → List ℕ
rest_of [] = []
rest_of (x ∷ xs) = xs

first_of : List ℕ → ℕ
first_of [] = 0
first_of (x ∷ xs) = x

-- a slot with a mark is open
pub open_from_mark : (image : List ℕ) (slot : ℕ) (m : Mark) → IsHeaded image → slot ≤ 1 → HasMark image slot m → IsOpen image slot
unfolding first_of
open_from_mark image slot m headed low is = ap first_of (sym (slot_parts image slot headed low) ∙ is.bytes)

-- the gate of the other slot lies clear of the header and of the slot
gate_clear : (slot : ℕ) (range : Range) → slot ≤ 1 → (range.start + range.count ≤ 64) ⊎ (range ≡ slot_range slot) → IsClear (gate_range (other_slot slot) ∷ []) range
gate_clear slot range low where_ place within among = ⊎_elim
    (λ here. ⊎_elim (λ front. let a = here.0 in let w = within.1 in omega (arith, a, front, w, low))
    (λ is. let a = here.0 in let b = here.1 in let f = subst (λ (r : Range). r.start ≤ place) is within.0 in let g = subst (λ (r : Range). place < r.start + r.count) is within.1 in omega (arith, a, b, f, g, low))
    where_)
    (λ none. absurd none) among

-- The old mark stays chosen where the header and its slot were not written over and the other gate reads closed.
pub closed_chooses : (ranges : List Range) (old new : List ℕ) (slot : ℕ) (chosen : Mark) (other : Option Mark) → IsClear ranges header_range → IsClear ranges (slot_range slot)
    → AgreesBut ranges old new → Chooses old slot chosen other → ¬ IsOpen new (other_slot slot) → Chooses new slot chosen None
closed_chooses ranges old new slot chosen other front here agrees chooses shut = record {
  headed = headed_on ranges old new front agrees chooses.headed;
  low = chooses.low;
  here = marked_on ranges old new slot chosen chooses.low here agrees chooses.headed chooses.here;
  beside = shut;
}

-- while the gate of the other slot is written over, and reads closed
pub gate_closed_chooses : (old new : List ℕ) (slot : ℕ) (chosen : Mark) (other : Option Mark) → AgreesBut (gate_range (other_slot slot) ∷ []) old new
    → Chooses old slot chosen other → ¬ IsOpen new (other_slot slot) → Chooses new slot chosen None
gate_closed_chooses old new slot chosen other agrees chooses shut = closed_chooses (gate_range (other_slot slot) ∷ []) old new slot chosen other
    (gate_clear slot header_range chooses.low (inl (omega arith))) (gate_clear slot (slot_range slot) chooses.low (inr refl)) agrees chooses shut

-- where the gate was not written over after all, nothing was
nothing_written : (old new : List ℕ) (slot : ℕ) → AgreesBut (gate_range slot ∷ []) old new → slice_index new (slot_place slot) ≡ slice_index old (slot_place slot) → AgreesBut [] old new
nothing_written old new slot agrees same = record {
  no_shorter = agrees.no_shorter;
  same = λ place below. ⊎_elim
      (λ among. ⊎_elim (λ here. inr (subst (λ (k : ℕ). slice_index new k ≡ slice_index old k) (let a = here.0 in let b = here.1 in omega (arith, a, b)) same)) (λ none. absurd none) among)
      (λ same. inr same) (agrees.same place below);
}

clear_of_none : (range : Range) → IsClear [] range
clear_of_none range place within among = among

-- While an open gate is being closed and still reads open, the old mark stays chosen, with the same mark beside it.
pub closing_chooses : (old new : List ℕ) (slot : ℕ) (chosen : Mark) (other : Option Mark) → AgreesBut (gate_range (other_slot slot) ∷ []) old new → Chooses old slot chosen other
    → IsOpen old (other_slot slot) → IsOpen new (other_slot slot) → Chooses new slot chosen other
closing_chooses old new slot chosen None agrees chooses was is = absurd (chooses.beside was)
closing_chooses old new slot chosen (Some m) agrees chooses was is = record {
  headed = headed_on [] old new (clear_of_none header_range) same chooses.headed;
  low = chooses.low;
  here = marked_on [] old new slot chosen chooses.low (clear_of_none (slot_range slot)) same chooses.headed chooses.here;
  beside = (marked_on [] old new (other_slot slot) m (other_low slot) (clear_of_none (slot_range (other_slot slot))) same chooses.headed chooses.beside.0, chooses.beside.1);
} where
  same : AgreesBut [] old new
  same = nothing_written old new (other_slot slot) agrees (is ∙ sym was)

-- The gate over a body that was written makes its mark the chosen one, and the old one that of the other slot.
pub opened_chooses : (full image : List ℕ) (slot : ℕ) (chosen next : Mark) → AgreesBut (gate_range (other_slot slot) ∷ []) full image → Chooses full slot chosen None
    → IsMark next → chosen.number < next.number → bytes_in full (body_range (other_slot slot)) ≡ body_bytes next → IsOpen image (other_slot slot)
    → Chooses image (other_slot slot) next (Some chosen)
opened_chooses full image slot chosen next agrees chooses good greater body open_ = record {
  headed = headed;
  low = other_low slot;
  here = record {
    good = good;
    bytes = slot_parts image (other_slot slot) headed (other_low slot)
        ∙ ap (λ (b : ℕ). b ∷ bytes_in image (body_range (other_slot slot))) open_
        ∙ ap (λ (l : List ℕ). open_byte ∷ l) (bytes_agree (gate_range (other_slot slot) ∷ []) full image (body_range (other_slot slot)) agrees clear (let o = chooses.headed.long in omega (arith, o)) ∙ body);
  };
  beside = (
    subst (λ (s : ℕ). HasMark image s chosen) (sym (other_other slot chooses.low))
        (marked_on (gate_range (other_slot slot) ∷ []) full image slot chosen chooses.low (gate_clear slot (slot_range slot) chooses.low (inr refl)) agrees chooses.headed chooses.here),
    greater,
  );
} where
  headed : IsHeaded image
  headed = headed_on (gate_range (other_slot slot) ∷ []) full image (gate_clear slot header_range chooses.low (inl (omega arith))) agrees chooses.headed

  clear : IsClear (gate_range (other_slot slot) ∷ []) (body_range (other_slot slot))
  clear place within among = ⊎_elim (λ here. let b = here.1 in let w = within.0 in omega (arith, b, w)) (λ none. absurd none) among

-- what the three writes leave in a slot: its gate closed, its body, its gate open
pub gate_written : (image : List ℕ) (slot gate : ℕ) → IsHeaded image → slot ≤ 1 → slice_index (put_bytes image (slot_place slot) (gate ∷ [])) (slot_place slot) ≡ gate
gate_written image slot gate headed low =
    let at : slot_place slot + 0 ≡ slot_place slot = omega arith in
    subst (λ (k : ℕ). slice_index (put_bytes image (slot_place slot) (gate ∷ [])) k ≡ gate) at
    (slice_index-put_bytes_inside image (slot_place slot) (gate ∷ []) (let o = headed.long in omega (arith, o, low)) 0 (omega arith))

pub body_written : (image : List ℕ) (slot : ℕ) (m : Mark) → IsHeaded image → slot ≤ 1 → bytes_in (put_bytes image (slot_place slot + 1) (body_bytes m)) (body_range slot) ≡ body_bytes m
body_written image slot m headed low = read-put_bytes image (slot_place slot + 1) (body_bytes m) (let o = headed.long in omega (arith, o, low))

-- ---- a file has one choice of marks

-- what stands beside a chosen mark
one_other : (image : List ℕ) (slot : ℕ) (chosen : Mark) (one two : Option Mark) → IsHeaded image → slot ≤ 1 → HasOther image slot chosen one → HasOther image slot chosen two → one ≡ two
one_other image slot chosen None None headed low first second = refl
one_other image slot chosen None (Some n) headed low first second = absurd (first (open_from_mark image slot n headed low second.0))
one_other image slot chosen (Some m) None headed low first second = absurd (second (open_from_mark image slot m headed low first.0))
one_other image slot chosen (Some m) (Some n) headed low first second = ap Some (one_mark image slot m n first.0 second.0)

-- the mark in the other slot of a chosen one has a lesser number
lesser : (image : List ℕ) (slot : ℕ) (chosen n : Mark) (other : Option Mark) → Chooses image slot chosen other → HasMark image (other_slot slot) n → n.number < chosen.number
lesser image slot chosen n None chooses is = absurd (chooses.beside (open_from_mark image (other_slot slot) n chooses.headed (other_low slot) is))
lesser image slot chosen n (Some m) chooses is =
    let same = one_mark image (other_slot slot) m n chooses.beside.0 is in subst (λ (k : Mark). k.number < chosen.number) same chooses.beside.1

pub one_slot : (image : List ℕ) (s t : ℕ) (m n : Mark) (one two : Option Mark) → Chooses image s m one → Chooses image t n two → s ≡ t
one_slot image s t m n one two first second = ⊎_elim (λ same. same)
    (λ differ.
    let other : t ≡ other_slot s = let a = first.low in let b = second.low in omega (arith, a, b, differ) in
    let back : s ≡ other_slot t = let a = first.low in let b = second.low in omega (arith, a, b, differ) in
    let below : n.number < m.number = lesser image s m n one first (subst (λ (k : ℕ). HasMark image k n) other second.here) in
    let above : m.number < n.number = lesser image t n m two second (subst (λ (k : ℕ). HasMark image k m) back first.here) in
    absurd (omega (arith, below, above)))
    (cases_eq s t)

-- The file chooses one mark, in one slot, and the other slot has one thing.
pub marks_unique : (image : List ℕ) (s t : ℕ) (m n : Mark) (one two : Option Mark) → Chooses image s m one → Chooses image t n two → (s ≡ t) × (m ≡ n) × (one ≡ two)
marks_unique image s t m n one two first second =
    let slots = one_slot image s t m n one two first second in
    let there : HasMark image s n = subst (λ (k : ℕ). HasMark image k n) (sym slots) second.here in
    let marks : m ≡ n = one_mark image s m n first.here there in
    let beside : HasOther image (other_slot s) m two = subst (λ (k : Mark). HasOther image (other_slot s) k two) (sym marks)
    (subst (λ (k : ℕ). HasOther image (other_slot k) n two) (sym slots) second.beside) in
    (slots, marks, one_other image (other_slot s) m one two first.headed (other_low s) first.beside beside)
