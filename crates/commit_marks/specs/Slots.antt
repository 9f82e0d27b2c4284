-- What is read of a file for its marks.
use Rattle.std.specs.Prelude.{◌≡◌, ◌≢◌, ℕ, List, ◌∷◌, length, take, drop, slice_index, Option, Result, MatchResult}
use Rattle.byteorder.specs.Endian.{little_number}
use Rattle.commit_marks.specs.declared.mark.Mark.{Mark}
use Rattle.commit_marks.specs.declared.mark.Marks.{Marks}
use Rattle.commit_marks.specs.declared.slot.Slot.{Slot}
use Rattle.commit_marks.specs.declared.slot.Slot.TheVariants.{Closed, Spoiled, Open}
use Rattle.commit_marks.specs.declared.error.MarkError.{MarkError}
use Rattle.commit_marks.specs.Marks.{AreMarks, HasMark, IsMark, IsMarkRefusal, IsOpen, IsSpoiled, body_bytes, open_byte}

-- What reading the marks of these bytes gives: the marks, or the cause why there are none.
abbrev pub GivesMarks : List ℕ → Result Marks MarkError → Type 0
GivesMarks image result = MatchResult result (λ marks. AreMarks image marks.slot marks.chosen marks.other) (IsMarkRefusal image)

-- they are the marks of some bytes
abbrev pub AreMarksOfSome : ℕ → Mark → Option Mark → Type 0
AreMarksOfSome slot chosen other = (image : List ℕ) × AreMarks image slot chosen other

-- the bytes are the first of an image of this length
pub record IsHeadOf (head : List ℕ) (len : ℕ) (image : List ℕ) : Type 0 where
  pub front : take 192 image ≡ head
  pub long : length image ≡ len

-- what the fields of a slot's bytes say
pub record IsParsed (slot : List ℕ) (m : Mark) : Type 0 where
  pub version : m.version ≡ slice_index slot 1
  pub number : m.number ≡ little_number 8 (drop 8 slot)
  pub place : m.place ≡ little_number 8 (drop 16 slot)
  pub len : m.len ≡ little_number 8 (drop 24 slot)
  pub end : m.end ≡ little_number 8 (drop 32 slot)

-- what the bytes of a slot hold
abbrev pub IsSlot : List ℕ → Slot → Type 0
IsSlot bytes Closed = slice_index bytes 0 ≢ open_byte
IsSlot bytes Spoiled = (slice_index bytes 0 ≡ open_byte) × ((m : Mark) → IsMark m → bytes ≡ open_byte ∷ body_bytes m → ⊥)
IsSlot bytes (Open m) = IsMark m × (bytes ≡ open_byte ∷ body_bytes m)

-- what a slot of an image holds
abbrev pub HasSlot : List ℕ → ℕ → Slot → Type 0
HasSlot image slot Closed = ¬ IsOpen image slot
HasSlot image slot Spoiled = IsSpoiled image slot
HasSlot image slot (Open m) = HasMark image slot m
