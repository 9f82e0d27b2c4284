-- The tables of a pool stand one after another in the list that has the pool.
use Rattle.std.proofs.Common.{◌≡◌, ℕ, ◌+◌, ◌-◌, ◌<◌, ◌≤◌, min, List, [], ◌++◌, length, get_or, take, drop, All, ap, sym, ◌∙◌, length-append, length-drop, arith}
use Rattle.std.proofs.lemmas.List.{length-take, take_all, take-append-le, drop-append-le}
use Rattle.segments.specs.declared.segments.Place.{Place}
use Rattle.segments.specs.Segments.{IsPlace}
use Rattle.segments.specs.Joined.{joined, counts_of}
use Rattle.segments.proofs.Joined.{items_from_place, within_part}
use Rattle.tables.specs.Pools.{HasAllHomes, IsChunkAt}
use Rattle.tables.specs.Shapes.{HasHomes}
use Rattle.tables.specs.Tables.{StoredTable}

-- so many items from a place on are there
taken_within : {X : Type 0} (xs part : List X) (at : ℕ) → part ≡ take (length part) (drop at xs) → 0 < length part → at + length part ≤ length xs
taken_within xs part at is some =
    let long : length part ≡ min (length part) (length (drop at xs)) = ap length is ∙ length-take (length part) (drop at xs) in
    omega (arith, long, length-drop at xs, some)

made : (ts : List StoredTable) (at : ℕ) (chunk : List StoredTable) → chunk ≡ take (length chunk) (drop at ts) → 0 < length chunk → length chunk ≤ 128 → All HasAllHomes chunk → All HasHomes chunk → IsChunkAt ts at chunk
made ts at chunk part some few homed shaped = record {
  some = some;
  few = few;
  within = taken_within ts chunk at part some;
  part = part;
  homed = homed;
  shaped = shaped;
}

-- a chunk that begins at the place
pub chunk_at : (chunks : List (List StoredTable)) (at : ℕ) (p : Place) (chunk : List StoredTable) → IsPlace (counts_of chunks) at p → chunk ≡ get_or chunks p.segment chunk → p.offset ≡ 0 → length chunk ≤ 128 → All HasAllHomes chunk → All HasHomes chunk → IsChunkAt (joined chunks) at chunk
chunk_at chunks at p chunk place here none few homed shaped =
    let n = length chunk in
    let some = within_part chunks at p chunk place here in
    let part = items_from_place chunks at p chunk place here n (omega (arith, none)) ∙ ap (λ k. take n (drop k chunk)) none ∙ take_all n chunk (omega arith) in
    made (joined chunks) at chunk (sym part) (omega (arith, some)) few homed shaped

-- the only chunk
pub chunk_alone : (at : ℕ) (chunk : List StoredTable) → at ≡ 0 → at < length chunk → length chunk ≤ 128 → All HasAllHomes chunk → All HasHomes chunk → IsChunkAt chunk at chunk
chunk_alone at chunk none some few homed shaped =
    let n = length chunk in
    let part = ap (λ k. take n (drop k chunk)) none ∙ take_all n chunk (omega arith) in
    made chunk at chunk (sym part) (omega (arith, some)) few homed shaped

-- other tables behind it
pub chunk_before : (ts more : List StoredTable) (at : ℕ) (chunk : List StoredTable) → IsChunkAt ts at chunk → IsChunkAt (ts ++ more) at chunk
chunk_before ts more at chunk h =
    let n = length chunk in
    let within = h.within in
    let part =
    ap (take n) (drop-append-le at ts more (omega (arith, within))) ∙ take-append-le n (drop at ts) more (omega (arith, within, length-drop at ts)) in
    made (ts ++ more) at chunk (h.part ∙ sym part) h.some h.few h.homed h.shaped
