-- A record that is laid over a piece of a file.
use Rattle.std.proofs.Common.{◌≡◌, sym, ◌∙◌, ap, subst, ℕ, ◌+◌, ◌-◌, ◌<◌, ◌≤◌, ◌⊎◌, inl, inr, ⊎_elim, List, length, length-drop, take, drop, min, max, arith, rules, slice_index}
use borrow.Rule.Slice.PartMut.{put_mid}
use Rattle.std.proofs.lemmas.Bool.{cases_lt}
use Rattle.std.proofs.lemmas.List.{get_or-drop, get_or-take, length-take-le, places}
use Rattle.host_io.specs.Disk.{IsWithin}
use Rattle.host_io.specs.Calls.{put_bytes}
use Rattle.host_io.specs.Ranges.{bytes_in}
use Rattle.host_io.proofs.Bytes.{length-put_bytes, slice_index-put_bytes_inside, slice_index-put_bytes_outside}
use Rattle.aside_disk.specs.Reading.{Covers}

-- an element of a list after a write to a part of it
module _ (now ys : List ℕ) (start end : ℕ) (order : start < end) (within : end ≤ length now) (long : length ys ≡ end - start) where
  part_before : (k : ℕ) → k < start → slice_index (put_mid start (end - start) now ys) k ≡ slice_index now k
  part_before k l = search (rules, places)

  part_in : (k : ℕ) → start ≤ k → k < end → slice_index (put_mid start (end - start) now ys) k ≡ slice_index ys (k - start)
  part_in k l m = search (rules, places)

  part_behind : (k : ℕ) → end ≤ k → slice_index (put_mid start (end - start) now ys) k ≡ slice_index now k
  part_behind k l = search (rules, places)

  part_long : length (put_mid start (end - start) now ys) ≡ length now
  part_long = search (rules, places)

-- where a record and a piece meet, the bytes of the record are laid over those of the piece
module _ (image file bytes piece read : List ℕ) (place from at start stop : ℕ) (within : place ≤ length file) (has : bytes_in image (record { start = from; count = length bytes }) ≡ bytes)
    (start_is : start ≡ max place at) (stop_is : stop ≡ min (place + length bytes) (at + length piece)) (order : start < stop)
    (read_is : read ≡ take (stop - start) (drop (from + (start - place)) image)) (long : length read ≡ stop - start) (covers : Covers file at piece) where
  one : (i : ℕ) → i < length bytes → slice_index image (from + i) ≡ slice_index bytes i
  one i below = sym (get_or-take (length bytes) (drop from image) i 0 below ∙ get_or-drop from image i 0) ∙ ap (λ (l : List ℕ). slice_index l i) has

  inside : (k : ℕ) → start ≤ at + k → at + k < stop → slice_index read (k - (start - at)) ≡ slice_index (put_bytes file place bytes) (at + k)
  inside k first last =
      let i : ℕ = at + k - place in
      let low : k - (start - at) < stop - start = omega (arith, first, last, start_is) in
      let at_i : place + (at + k - place) ≡ at + k = omega (arith, first, start_is) in
      let below : at + k - place < length bytes = omega (arith, first, last, start_is, stop_is) in
      let same : from + (start - place) + (k - (start - at)) ≡ from + (at + k - place) = omega (arith, first, start_is) in
      ap (λ (l : List ℕ). slice_index l (k - (start - at))) read_is
      ∙ get_or-take (stop - start) (drop (from + (start - place)) image) (k - (start - at)) 0 low
      ∙ get_or-drop (from + (start - place)) image (k - (start - at)) 0
      ∙ ap (λ (n : ℕ). slice_index image n) same
      ∙ one (at + k - place) below
      ∙ sym (slice_index-put_bytes_inside file place bytes within (at + k - place) below)
      ∙ ap (λ (n : ℕ). slice_index (put_bytes file place bytes) n) at_i

  outside : (k : ℕ) → k < length piece → at + k < length (put_bytes file place bytes) → (at + k < start) ⊎ (stop ≤ at + k) → slice_index piece k ≡ slice_index (put_bytes file place bytes) (at + k)
  outside k below reach away =
      let l = length-put_bytes file place bytes within in
      let apart : ¬ IsWithin (at + k) (record { start = place; count = length bytes }) = λ w. let a = w.0 in let b = w.1 in ⊎_elim (λ early. omega (arith, early, a, start_is)) (λ late. omega (arith, late, b, stop_is, below)) away in
      covers k below (⊎_elim (λ early. omega (arith, early, start_is, within)) (λ late. omega (arith, late, stop_is, below, reach, l)) away)
      ∙ sym (slice_index-put_bytes_outside file place bytes (at + k) within apart)

  covers_laid : Covers (put_bytes file place bytes) at (put_mid (start - at) (stop - at - (start - at)) piece read)
  covers_laid = λ k below reach.
      let order_here : start - at < stop - at = omega (arith, order, start_is) in
      let fits : stop - at ≤ length piece = omega (arith, stop_is) in
      let read_long : length read ≡ stop - at - (start - at) = omega (arith, long, start_is, order) in
      let k_below : k < length piece = subst (λ (n : ℕ). k < n) (part_long piece read (start - at) (stop - at) order_here fits read_long) below in
      ⊎_elim
      (λ early. part_before piece read (start - at) (stop - at) order_here fits read_long k (omega (arith, early, start_is)) ∙ outside k k_below reach (inl early))
      (λ first. ⊎_elim
      (λ last. part_in piece read (start - at) (stop - at) order_here fits read_long k (omega (arith, first)) (omega (arith, last)) ∙ inside k first last)
      (λ late. part_behind piece read (start - at) (stop - at) order_here fits read_long k (omega (arith, late)) ∙ outside k k_below reach (inr late))
      (cases_lt (at + k) stop))
      (cases_lt (at + k) start)

-- the same, as it is read into a part of the piece
pub covers_read : (image file bytes piece read : List ℕ) (place from at start stop : ℕ) → place ≤ length file → bytes_in image (record { start = from; count = length bytes }) ≡ bytes → from + length bytes ≤ length image
    → start ≡ max place at → stop ≡ min (place + length bytes) (at + length piece) → start < stop
    → read ≡ take (length (take (stop - at - (start - at)) (drop (start - at) piece))) (drop (from + (start - place)) image) → Covers file at piece
    → Covers (put_bytes file place bytes) at (put_mid (start - at) (stop - at - (start - at)) piece read)
covers_read image file bytes piece read place from at start stop within has long_image start_is stop_is order read_is covers =
    let room : length (take (stop - at - (start - at)) (drop (start - at) piece)) ≡ stop - start =
    length-take-le (stop - at - (start - at)) (drop (start - at) piece) (let d = length-drop (start - at) piece in omega (arith, d, start_is, stop_is, order)) ∙ omega (arith, start_is, order) in
    let is : read ≡ take (stop - start) (drop (from + (start - place)) image) = read_is ∙ ap (λ (n : ℕ). take n (drop (from + (start - place)) image)) room in
    let long : length read ≡ stop - start = ap length is ∙ length-take-le (stop - start) (drop (from + (start - place)) image) (let d = length-drop (from + (start - place)) image in omega (arith, d, start_is, stop_is, order, long_image)) in
    covers_laid image file bytes piece read place from at start stop within has start_is stop_is order is long covers
