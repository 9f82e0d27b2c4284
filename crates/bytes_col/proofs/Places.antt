-- Laws of the place of a value, or of the end of the list, in its chunk.
use Rattle.std.proofs.Common.{ℕ, suc, ◌<◌, ◌≤◌, List, [], length, get_or, arith}
use Rattle.segments.specs.declared.segments.Place.{Place}
use Rattle.segments.specs.Joined.{joined, counts_of}
use Rattle.segments.proofs.Counts.{sum-take-suc}
use Rattle.segments.proofs.Places.{start_within}
use Rattle.segments.proofs.Joined.{get_or-counts, length-counts, length-joined}
use Rattle.bytes_col.specs.Places.{IsPlaceOrEnd}

pub place_within : (ss : List (List (List ℕ))) (at : ℕ) (p : Place) → IsPlaceOrEnd ss at p → at ≤ length (joined ss)
place_within ss at p h =
    let cs : List ℕ = counts_of ss in
    let l : p.segment < length cs = omega (arith, h.chunk, length-counts ss) in
    omega (arith, h.sum, h.within, get_or-counts ss p.segment h.chunk, sum-take-suc p.segment cs l, start_within cs (suc p.segment) (omega arith), length-joined ss)

pub value_within : (ss : List (List (List ℕ))) (at : ℕ) (p : Place) → IsPlaceOrEnd ss at p → p.offset < length (get_or ss p.segment []) → at < length (joined ss)
value_within ss at p h more =
    let cs : List ℕ = counts_of ss in
    let l : p.segment < length cs = omega (arith, h.chunk, length-counts ss) in
    omega (arith, h.sum, more, get_or-counts ss p.segment h.chunk, sum-take-suc p.segment cs l, start_within cs (suc p.segment) (omega arith), length-joined ss)
