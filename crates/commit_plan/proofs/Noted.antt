-- The notes of the commit that follows are notes as a directory may have them.
use Rattle.std.proofs.Common.{◌≡◌, ℕ, zero, suc, ◌+◌, ◌-◌, ◌<◌, ◌≤◌, ◌⊎◌, inl, inr, List, [], ◌∷◌, ◌++◌, length, drop, refl, arith}
use Rattle.std.proofs.lemmas.List.{length-append, length-drop}
use Rattle.mk_value.specs.Data.{IsText}
use Rattle.dir_codec.specs.Dir.{AreNotes, AreNotesFrom, NoteEntry}
use Rattle.recovery.specs.Commits.{version_of}
use Rattle.commit_plan.specs.Following.{IsNote, last_64, noted}

-- a greater number leaves room for all
from_later : (number later least : ℕ) (notes : List NoteEntry) → number ≤ later → AreNotesFrom number least notes → AreNotesFrom later least notes
from_later number later least [] p h = tt
from_later number later least (n ∷ notes) p h =
    (h.0, (let q = h.1 in omega (arith, p, q)), h.2, h.3, h.4, from_later number later (n.number + 1) notes p h.5)

-- notes from some number on are notes from a lesser one on
from_less : (number least less : ℕ) (notes : List NoteEntry) → less ≤ least → AreNotesFrom number least notes → AreNotesFrom number less notes
from_less number least less [] p h = tt
from_less number least less (n ∷ notes) p h = ((let q = h.0 in omega (arith, p, q)), h.1, h.2, h.3, h.4, h.5)

from_dropped : (number least k : ℕ) (notes : List NoteEntry) → AreNotesFrom number least notes → AreNotesFrom number least (drop k notes)
from_dropped number least zero notes h = h
from_dropped number least (suc k) [] h = tt
from_dropped number least (suc k) (n ∷ notes) h =
    from_less number (n.number + 1) least (drop k notes) (let p = h.0 in omega (arith, p)) (from_dropped number (n.number + 1) k notes h.5)

-- one more, of the commit after
from_added : (number least : ℕ) (notes : List NoteEntry) (text : List ℕ) → least ≤ number + 1 → IsText text → 0 < length text → length text ≤ 255 → AreNotesFrom number least notes
    → AreNotesFrom (number + 1) least (notes ++ record { number = number + 1; text = text } ∷ [])
from_added number least [] text p is some few h = (p, omega arith, some, few, is, tt)
from_added number least (n ∷ notes) text p is some few h = (
  h.0,
  (let q = h.1 in omega (arith, q)),
  h.2,
  h.3,
  h.4,
  from_added number (n.number + 1) notes text (let q = h.1 in omega (arith, q)) is some few h.5,
)

version_two : (notes : List NoteEntry) → 0 < length notes → version_of notes ≡ 2
version_two [] p = absurd (omega (arith, p))
version_two (n ∷ notes) p = refl

counted_later : (notes : List NoteEntry) → ((version_of notes ≡ 1) × (notes ≡ [])) ⊎ ((version_of notes ≡ 2) × (0 < length notes))
counted_later [] = inl (refl, refl)
counted_later (n ∷ notes) = inr (refl, omega arith)

pub noted_are : (notes : List NoteEntry) (number : ℕ) (text : List ℕ) → AreNotes (version_of notes) number notes → IsNote text
    → AreNotes (version_of (noted notes (number + 1) text)) (number + 1) (noted notes (number + 1) text)
noted_are notes number [] h is = record { each = from_later number (number + 1) 1 notes (omega arith) h.each; few = h.few; counted = counted_later notes }
noted_are notes number (b ∷ text) h is =
    let added = notes ++ record { number = number + 1; text = b ∷ text } ∷ [] in
    let long : length added ≡ length notes + 1 = length-append notes (record { number = number + 1; text = b ∷ text } ∷ []) in
    let left : length (last_64 added) ≡ length added - (length added - 64) = length-drop (length added - 64) added in
    record {
      each = from_dropped (number + 1) 1 (length added - 64) added (from_added number 1 notes (b ∷ text) (omega arith) is.0 (omega arith) is.1 h.each);
      few = omega (arith, left);
      counted = counted_later (last_64 added);
    }
