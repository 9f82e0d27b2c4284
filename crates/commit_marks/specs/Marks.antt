-- Marks: what the two slots of a file say, and which of them is chosen.
use Rattle.std.specs.Prelude.{◌≡◌, ℕ, ◌+◌, ◌-◌, ◌*◌, ◌^◌, ◌<◌, ◌≤◌, ◌⊎◌, List, ◌∷◌, ◌++◌, length, take, replicate, slice_index, Option, Some, None}
use Rattle.byteorder.specs.Endian.{little_bytes}
use Rattle.mk_value.specs.declared.span.Span.{Span}
use Rattle.host_io.specs.Disk.{Range}
use Rattle.host_io.specs.Ranges.{bytes_in}
use Rattle.free_space.specs.Extents.{IsAligned}
use Rattle.free_space.specs.Sites.{first_place, IsSite}
use Rattle.commit_marks.specs.declared.mark.Mark.{Mark}
use Rattle.commit_marks.specs.declared.error.MarkError.{MarkError}
use Rattle.commit_marks.specs.declared.error.MarkError.TheVariants.{NotAStore, NoOpenMark, BadMark, Failed}

-- `MKCOLS`, a carriage return and a newline, and 56 zeros
abbrev pub header : List ℕ
header = 77 ∷ 75 ∷ 67 ∷ 79 ∷ 76 ∷ 83 ∷ 13 ∷ 10 ∷ replicate 56 0

-- the file has a header and both slots
pub record IsHeaded (image : List ℕ) : Type 0 where
  pub long : first_place ≤ length image
  pub header : take 64 image ≡ header

abbrev pub slot_place : ℕ → ℕ
slot_place slot = 64 + 64 * slot

abbrev pub other_slot : ℕ → ℕ
other_slot slot = 1 - slot

-- a slot, its gate, which is its first byte, and its body, which is the rest
abbrev pub slot_range : ℕ → Range
slot_range slot = record { start = slot_place slot; count = 64 }

abbrev pub gate_range : ℕ → Range
gate_range slot = record { start = slot_place slot; count = 1 }

abbrev pub body_range : ℕ → Range
body_range slot = record { start = slot_place slot + 1; count = 63 }

-- the bytes of a slot
abbrev pub slot_bytes : List ℕ → ℕ → List ℕ
slot_bytes image slot = bytes_in image (slot_range slot)

-- the gate of a slot that is open; any other byte closes it
abbrev pub open_byte : ℕ
open_byte = 165

abbrev pub IsOpen : List ℕ → ℕ → Type 0
IsOpen image slot = slice_index image (slot_place slot) ≡ open_byte

-- the body of a mark
abbrev pub body_bytes : Mark → List ℕ
body_bytes m =
    m.version ∷ (replicate 6 0 ++ (little_bytes 8 m.number ++ (little_bytes 8 m.place ++ (little_bytes 8 m.len ++ (little_bytes 8 m.end ++ replicate 24 0)))))

-- a mark that a body may have
pub record IsMark (m : Mark) : Type 0 where
  pub version : (m.version ≡ 1) ⊎ (m.version ≡ 2)
  pub number : m.number < 2 ^ 63
  pub place : m.place < 2 ^ 64
  pub len : m.len < 2 ^ 64
  pub end : m.end < 2 ^ 64

-- the slot is open and its body is that of the mark
pub record HasMark (image : List ℕ) (slot : ℕ) (m : Mark) : Type 0 where
  pub good : IsMark m
  pub bytes : slot_bytes image slot ≡ open_byte ∷ body_bytes m

-- the slot is open and its body is that of no mark
pub record IsSpoiled (image : List ℕ) (slot : ℕ) : Type 0 where
  pub opened : IsOpen image slot
  pub spoiled : (m : Mark) → HasMark image slot m → ⊥

abbrev pub dir_span : Mark → Span
dir_span m = record { place = m.place; len = m.len }

-- the mark fits a file of so many bytes: its end is within the file, and its directory within its end
pub record FitsFile (len : ℕ) (m : Mark) : Type 0 where
  pub aligned : IsAligned m.end
  pub behind : first_place ≤ m.end
  pub within : m.end ≤ len
  pub dir : IsSite m.end (dir_span m)

-- what the other slot has: nothing where its gate is closed, and else a mark with a lesser number
abbrev pub HasOther : List ℕ → ℕ → Mark → Option Mark → Type 0
HasOther image slot chosen None = ¬ IsOpen image slot
HasOther image slot chosen (Some m) = HasMark image slot m × (m.number < chosen.number)

-- The chosen mark stands in this slot, and the other slot has this. Each open slot's body is that of a mark, the two numbers differ, and the
-- greater one is chosen.
pub record Chooses (image : List ℕ) (slot : ℕ) (chosen : Mark) (other : Option Mark) : Type 0 where
  pub headed : IsHeaded image
  pub low : slot ≤ 1
  pub here : HasMark image slot chosen
  pub beside : HasOther image (other_slot slot) chosen other

-- The marks of a file: those that it chooses, where the chosen one fits it.
pub record AreMarks (image : List ℕ) (slot : ℕ) (chosen : Mark) (other : Option Mark) : Type 0 where
  pub chooses : Chooses image slot chosen other
  pub fits : FitsFile (length image) chosen

-- both slots are open, and their marks have one number
abbrev pub HasOneNumber : List ℕ → Type 0
HasOneNumber image = (m : Mark) × (n : Mark) × HasMark image 0 m × HasMark image 1 n × (m.number ≡ n.number)

-- the first slot that is spoiled: slot 0 before slot 1
abbrev pub IsFirstSpoiled : List ℕ → ℕ → Type 0
IsFirstSpoiled image slot = (slot ≤ 1) × IsSpoiled image slot × ((s : ℕ) → s < slot → ¬ IsSpoiled image s)

-- the mark at this place is why: a spoiled one, the second of one number, or a chosen one that does not fit the file
abbrev pub IsBadMark : List ℕ → ℕ → Type 0
IsBadMark image place =
    ((slot : ℕ) × IsFirstSpoiled image slot × (place ≡ slot_place slot))
    ⊎ ((HasOneNumber image × (place ≡ slot_place 1))
    ⊎ ((slot : ℕ) × (m : Mark) × (other : Option Mark) × Chooses image slot m other × (¬ FitsFile (length image) m) × (place ≡ slot_place slot)))

-- The cause of each refusal. No two of them are met together, and none where the file has marks.
abbrev pub IsMarkRefusal : List ℕ → MarkError → Type 0
IsMarkRefusal image NotAStore = ¬ IsHeaded image
IsMarkRefusal image (BadMark place) = IsHeaded image × IsBadMark image place
IsMarkRefusal image NoOpenMark = IsHeaded image × (¬ IsOpen image 0) × (¬ IsOpen image 1)
IsMarkRefusal image Failed = Unit {0}
