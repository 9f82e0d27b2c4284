-- The marks of an image stand in its first 192 bytes.
use Rattle.std.proofs.Common.{◌≡◌, ℕ, ◌+◌, ◌-◌, ◌≤◌, List, length, take, drop, sym, ◌∙◌, ap, subst, arith, slice_index, ◌++◌, replicate, Result, Ok, Err, IfOk}
use Rattle.std.proofs.Common.{length-append, length-take}
use Rattle.std.proofs.lemmas.List.{drop-take, get_or-drop, get_or-take, length-replicate, take-take, take_at}
use Rattle.commit_marks.specs.declared.mark.Marks.{Marks}
use Rattle.commit_marks.specs.declared.error.MarkError.{MarkError}
use Rattle.commit_marks.specs.declared.slot.Slot.{Slot}
use Rattle.commit_marks.specs.declared.slot.Slot.TheVariants.{Closed, Spoiled, Open}
use Rattle.commit_marks.specs.Marks.{IsHeaded, header, slot_bytes, slot_place}
use Rattle.commit_marks.specs.Slots.{AreMarksOfSome, GivesMarks, HasSlot, IsHeadOf, IsSlot}

-- a slot of an image is one of its first bytes
pub slot_in_head : (head image : List ℕ) (len slot : ℕ) → slot ≤ 1 → IsHeadOf head len image → take 64 (drop (slot_place slot) head) ≡ slot_bytes image slot
slot_in_head head image len slot low is =
    let rest : slot_place slot + (192 - slot_place slot) ≡ 192 = omega arith in
    let cut : drop (slot_place slot) (take (slot_place slot + (192 - slot_place slot)) image) ≡ take (192 - slot_place slot) (drop (slot_place slot) image) = drop-take (slot_place slot) (192 - slot_place slot) image in
    ap (λ (l : List ℕ). take 64 (drop (slot_place slot) l)) (sym is.front ∙ ap (λ (n : ℕ). take n image) (sym rest))
    ∙ ap (λ (l : List ℕ). take 64 l) cut
    ∙ take-take 64 (192 - slot_place slot) (drop (slot_place slot) image) (omega (arith, low))

-- its first byte is its gate
pub gate_is_first : (image : List ℕ) (slot : ℕ) → slice_index (slot_bytes image slot) 0 ≡ slice_index image (slot_place slot)
gate_is_first image slot =
    let at : slot_place slot + 0 ≡ slot_place slot = omega arith in
    get_or-take 64 (drop (slot_place slot) image) 0 0 (omega arith) ∙ get_or-drop (slot_place slot) image 0 0 ∙ ap (λ (k : ℕ). slice_index image k) at

-- what was read of a slot's bytes, the slot holds
pub has_slot : (image : List ℕ) (slot : ℕ) (read : Slot) → IsSlot (slot_bytes image slot) read → HasSlot image slot read
has_slot image slot Closed is = λ open_. is (gate_is_first image slot ∙ open_)
has_slot image slot Spoiled is = record { opened = sym (gate_is_first image slot) ∙ is.0; spoiled = λ m has. is.1 m has.good has.bytes }
has_slot image slot (Open m) is = record { good = is.0; bytes = is.1 }

-- the header stands in the first bytes
pub header_in_head : (head image : List ℕ) (len : ℕ) → IsHeadOf head len image → take 64 head ≡ take 64 image
header_in_head head image len is = ap (λ (l : List ℕ). take 64 l) (sym is.front) ∙ take-take 64 192 image (omega arith)

-- some bytes begin so
pub some_image : (head : List ℕ) (len : ℕ) → length head ≡ 192 → 192 ≤ len → IsHeadOf head len (head ++ replicate (len - 192) 0)
some_image head len long reaches = record {
  front = take_at head (replicate (len - 192) 0) 192 long;
  long = let a = length-append head (replicate (len - 192) 0) in let b = length-replicate {A = ℕ} (len - 192) 0 in omega (arith, a, b, long, reaches);
}

-- what the parts of the first bytes say of the image
pub parts_of : (head image : List ℕ) (len : ℕ) (first second : Slot) → length head ≡ 192 → IsHeadOf head len image → take 64 head ≡ header
    → IsSlot (take 64 (drop 64 head)) first → IsSlot (take 64 (drop 128 head)) second → IsHeaded image × HasSlot image 0 first × HasSlot image 1 second
parts_of head image len first second long is headed one two = (
  record {
    long = let a = length-take 192 image in let b = ap length is.front in omega (arith, a, b, long);
    header = sym (header_in_head head image len is) ∙ headed;
  },
  has_slot image 0 first (subst (λ (bytes : List ℕ). IsSlot bytes first) (slot_in_head head image len 0 (omega arith) is) one),
  has_slot image 1 second (subst (λ (bytes : List ℕ). IsSlot bytes second) (slot_in_head head image len 1 (omega arith) is) two),
)

-- marks that were read of some bytes are those of some bytes
pub some_of : (image : List ℕ) (result : Result Marks MarkError) → GivesMarks image result → IfOk result (λ marks. AreMarksOfSome marks.slot marks.chosen marks.other)
some_of image (Ok marks) gives = (image, gives)
some_of image (Err e) gives = tt
