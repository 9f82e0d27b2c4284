-- The head of a record, as it stands in a log.
use Rattle.std.proofs.Common.{◌≡◌, refl, sym, ◌∙◌, ap, subst, ℕ, ◌+◌, ◌-◌, ◌^◌, ◌<◌, ◌≤◌, List, [], ◌∷◌, ◌++◌, length, length-drop, replicate, take, ⊎_elim, drop, arith, slice_index}
use Rattle.std.proofs.lemmas.Bool.{cases_lt}
use Rattle.std.proofs.lemmas.List.{drop-drop, drop-take, get_or-drop, get_or-take, get_or_past, length-take, length-take-le, take-take, take_at}
use Rattle.std.proofs.lemmas.Nat.{le_bytes_8}
use Rattle.std.proofs.Math.Seq.{take-add}
use Rattle.std.specs.Int.{w64, from_le_bytes}
use Rattle.byteorder.specs.Endian.{little_bytes, little_number}
use Rattle.byteorder.specs.Numbers.{little_from-take, little_number-reads_back}
use Rattle.host_io.specs.Ranges.{bytes_in}
use Rattle.aside_disk.specs.declared.walking.Head.{Head}
use Rattle.aside_disk.specs.declared.walking.Piece.{Piece}
use Rattle.aside_disk.specs.declared.error.BaseRecord.{BaseRecord}
use Rattle.aside_disk.specs.Logical.{base_bytes}
use Rattle.aside_disk.specs.Records.{Entry, IsRecordAt, head_bytes, record_len}
use Rattle.aside_disk.specs.Walking.{HasPiece, IsHeadAt, Passes}

-- the number in eight bytes, as std has it
number_is : (bytes : List ℕ) → little_number 8 bytes ≡ from_le_bytes w64 bytes
number_is bytes = omega arith

-- eight bytes are those of the number that they are
pub eight_back : (bytes : List ℕ) → length bytes ≡ 8 → ((i : ℕ) → slice_index bytes i < 256) → little_bytes 8 (little_number 8 bytes) ≡ bytes
eight_back bytes long fits = le_bytes_8 bytes (little_number 8 bytes) long fits (number_is bytes)

-- so are those from a place on
from_back : (bytes : List ℕ) (k : ℕ) → k + 8 ≤ length bytes → ((i : ℕ) → slice_index bytes i < 256) → little_bytes 8 (little_number 8 (drop k bytes)) ≡ take 8 (drop k bytes)
from_back bytes k within fits =
    ap (λ (n : ℕ). little_bytes 8 n) (sym (little_from-take 0 8 8 (drop k bytes) (omega arith)))
    ∙ eight_back (take 8 (drop k bytes)) (length-take-le 8 (drop k bytes) (let d = length-drop k bytes in omega (arith, d, within))) each
  where
    each : (i : ℕ) → slice_index (take 8 (drop k bytes)) i < 256
    each i = ⊎_elim
        (λ below. subst (λ (b : ℕ). b < 256) (sym (get_or-take 8 (drop k bytes) i 0 below ∙ get_or-drop k bytes i 0)) (fits (k + i)))
        (λ past. subst (λ (b : ℕ). b < 256) (sym (get_or_past (take 8 (drop k bytes)) i 0 (let l = length-take 8 (drop k bytes) in omega (arith, l, past)))) (omega arith))
        (cases_lt i 8)

-- what stands in a piece stands in the image
in_piece : (image bytes : List ℕ) (place count at n : ℕ) → take count bytes ≡ bytes_in image (record { start = place; count = count }) → place ≤ at → at + n ≤ place + count
    → take n (drop (at - place) bytes) ≡ bytes_in image (record { start = at; count = n })
in_piece image bytes place count at n has behind within =
    front bytes ∙ ap (λ (l : List ℕ). take n (drop (at - place) l)) has ∙ sym (front (drop place image)) ∙ ap (λ (l : List ℕ). take n l) (drop-drop (at - place) place image ∙ ap (λ (k : ℕ). drop k image) back)
  where
    back : place + (at - place) ≡ at
    back = omega (arith, behind)

    parts : at - place + (count - (at - place)) ≡ count
    parts = omega (arith, behind, within)

    front : (l : List ℕ) → take n (drop (at - place) l) ≡ take n (drop (at - place) (take count l))
    front l = sym (take-take n (count - (at - place)) (drop (at - place) l) (omega (arith, behind, within)))
        ∙ ap (λ (x : List ℕ). take n x) (sym (drop-take (at - place) (count - (at - place)) l) ∙ ap (λ (k : ℕ). drop (at - place) (take k l)) parts)

-- two numbers side by side
pub two_numbers : (bytes : List ℕ) (k place len : ℕ) → k + 16 ≤ length bytes → ((i : ℕ) → slice_index bytes i < 256)
    → place ≡ little_number 8 (drop k bytes) → len ≡ little_number 8 (drop (k + 8) bytes) → take 16 (drop k bytes) ≡ little_bytes 8 place ++ little_bytes 8 len
two_numbers bytes k place len within fits place_is len_is =
    take-add 8 8 (drop k bytes)
    ∙ ap (λ (l : List ℕ). take 8 (drop k bytes) ++ take 8 l) (drop-drop 8 k bytes)
    ∙ ap (λ (l : List ℕ). l ++ take 8 (drop (k + 8) bytes)) (sym (ap (λ (n : ℕ). little_bytes 8 n) place_is ∙ from_back bytes k (omega (arith, within)) fits))
    ∙ ap (λ (l : List ℕ). little_bytes 8 place ++ l) (sym (ap (λ (n : ℕ). little_bytes 8 n) len_is ∙ from_back bytes (k + 8) (omega (arith, within)) fits))

-- the head that is read in a piece stands in the image
pub head_stands : (image : List ℕ) (piece : Piece) (at : ℕ) (head : Head) → HasPiece image piece → piece.place ≤ at → at + 16 ≤ piece.place + piece.count → head.place < 2 ^ 64 → head.len < 2 ^ 64
    → take 16 (drop (at - piece.place) piece.bytes) ≡ little_bytes 8 head.place ++ little_bytes 8 head.len → IsHeadAt image at head
head_stands image piece at head has behind within place_fits len_fits is = record {
  place_fits = place_fits;
  len_fits = len_fits;
  bytes = sym (in_piece image piece.bytes piece.place piece.count at 16 has.bytes behind within) ∙ is;
}

-- one head has one place and one length
module _ (image : List ℕ) (at end len : ℕ) (head : Head) (stands : IsHeadAt image at head) where
  same_head : (entry : Entry) → entry.place < 2 ^ 63 → length entry.bytes < 2 ^ 63 → bytes_in image (record { start = at; count = 16 + length entry.bytes }) ≡ head_bytes entry ++ entry.bytes
      → (head.place ≡ entry.place) × (head.len ≡ length entry.bytes)
  same_head entry place_low len_low is = (
    sym (little_number-reads_back 8 head.place (little_bytes 8 head.len) stands.place_fits) ∙ ap (λ (l : List ℕ). little_number 8 l) both ∙ little_number-reads_back 8 entry.place (little_bytes 8 (length entry.bytes)) (omega (arith, place_low)),
    back head.place head.len stands.len_fits ∙ ap (λ (l : List ℕ). little_number 8 (drop 8 l)) both ∙ sym (back entry.place (length entry.bytes) (omega (arith, len_low))),
  ) where
    both : little_bytes 8 head.place ++ little_bytes 8 head.len ≡ head_bytes entry
    both = sym stands.bytes ∙ sym (take-take 16 (16 + length entry.bytes) (drop at image) (omega arith)) ∙ ap (λ (l : List ℕ). take 16 l) is ∙ take_at (head_bytes entry) entry.bytes 16 refl

    back : (p n : ℕ) → n < 2 ^ 64 → n ≡ little_number 8 (drop 8 (little_bytes 8 p ++ little_bytes 8 n))
    back p n low = sym (ap (λ (l : List ℕ). little_number 8 l) (append-nil-right n) ∙ little_number-reads_back 8 n [] low)
      where
        append-nil-right : (k : ℕ) → drop 8 (little_bytes 8 p ++ little_bytes 8 k) ≡ little_bytes 8 k ++ []
        append-nil-right k = refl

  -- where the head passes no test, no record stands
  pub no_record : ¬ Passes head at end len → (entry : Entry) → ¬ IsRecordAt image end at len entry
  no_record fails entry is =
      let f = is.fits in
      let b = f.bound in
      let same = same_head entry (omega (arith, b)) (omega (arith, b)) is.bytes in
      fails (record {
        some = subst (λ (n : ℕ). 0 < n) (sym same.1) f.some;
        within = subst (λ (n : ℕ). n ≤ len) (sym same.0) f.within;
        bound = let p = same.0 in let l = same.1 in omega (arith, p, l, b);
        inside = subst (λ (n : ℕ). at + record_len n ≤ end) (sym same.1) is.inside;
      })

  -- where it passes, one does: its bytes are those behind the head
  abbrev pub entry_here : Entry
  entry_here = record { place = head.place; bytes = bytes_in image (record { start = at + 16; count = head.len }) }

  pub entry_long : Passes head at end len → end ≤ length image → length (bytes_in image (record { start = at + 16; count = head.len })) ≡ head.len
  entry_long passes long = length-take-le head.len (drop (at + 16) image) (let d = length-drop (at + 16) image in let i = passes.inside in omega (arith, d, i, long))

  pub record_here : Passes head at end len → end ≤ length image → IsRecordAt image end at len entry_here
  record_here passes long =
      let l = entry_long passes long in
      record {
        fits = record { some = subst (λ (n : ℕ). 0 < n) (sym l) passes.some; within = passes.within; bound = let b = passes.bound in omega (arith, l, b) };
        inside = subst (λ (n : ℕ). at + record_len n ≤ end) (sym l) passes.inside;
        bytes = ap (λ (n : ℕ). take (16 + n) (drop at image)) l ∙ take-add 16 head.len (drop at image)
            ∙ ap (λ (x : List ℕ). take 16 (drop at image) ++ take head.len x) (drop-drop 16 at image)
            ∙ ap (λ (x : List ℕ). x ++ bytes_in image (record { start = at + 16; count = head.len })) (stands.bytes ∙ ap (λ (n : ℕ). little_bytes 8 head.place ++ little_bytes 8 n) (sym l));
      }

-- the record of a base that is read of bytes is the one that they spell
pub same_base : (bytes : List ℕ) (kept : BaseRecord) (l n : ℕ) → ((i : ℕ) → slice_index bytes i < 256) → bytes ≡ base_bytes kept → l ≡ little_number 8 (drop 8 bytes) → n ≡ little_number 8 (drop 16 bytes)
    → bytes ≡ base_bytes (record { length = l; number = n })
same_base bytes kept l n fits is l_is n_is =
    let long : length bytes ≡ 64 = ap length is in
    let first : little_bytes 8 kept.length ≡ little_bytes 8 l = sym (ap (λ (k : ℕ). little_bytes 8 k) l_is ∙ from_back bytes 8 (omega (arith, long)) fits ∙ ap (λ (x : List ℕ). take 8 (drop 8 x)) is) in
    let then : little_bytes 8 kept.number ≡ little_bytes 8 n = sym (ap (λ (k : ℕ). little_bytes 8 k) n_is ∙ from_back bytes 16 (omega (arith, long)) fits ∙ ap (λ (x : List ℕ). take 8 (drop 16 x)) is) in
    is ∙ ap (λ (x : List ℕ). 77 ∷ 75 ∷ 65 ∷ 83 ∷ 73 ∷ 68 ∷ 69 ∷ 0 ∷ (x ++ (little_bytes 8 kept.number ++ replicate 40 0))) first
    ∙ ap (λ (x : List ℕ). 77 ∷ 75 ∷ 65 ∷ 83 ∷ 73 ∷ 68 ∷ 69 ∷ 0 ∷ (little_bytes 8 l ++ (x ++ replicate 40 0))) then
