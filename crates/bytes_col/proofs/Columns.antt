-- Laws of a column as its chunks.
use Rattle.std.proofs.Common.{◌≡◌, ℕ, suc, ◌+◌, ◌-◌, ◌<◌, ◌≤◌, List, [], ◌∷◌, ◌++◌, length, get_or, set, take, drop, sum, sym, ap, ◌∙◌, arith}
use Rattle.std.proofs.lemmas.List.{get_or_default, length-append, length-drop, length-take-le, length_push}
use Rattle.std.proofs.lemmas.List.Elements.{All-append, All-drop, All-head, All-set, All-tail, All-take}
use Rattle.segments.specs.declared.segments.Place.{Place}
use Rattle.segments.specs.Segments.{IsPlace}
use Rattle.segments.specs.Joined.{counts_of}
use Rattle.segments.proofs.Counted.{segments_pushed, segments_spliced}
use Rattle.segments.proofs.Counts.{sum-cons}
use Rattle.segments.proofs.Joined.{counts-spliced, same_counts, within_part}
use Rattle.bytes_col.specs.Spine.{AreSome, IsSpine, LastTakes}

-- the last chunk has room where it takes one more value
pub last_room : (ss : List (List (List ℕ))) (s : List (List ℕ)) (last : ℕ) → LastTakes ss → suc last ≡ length ss → s ≡ get_or ss last s → length s < 512
last_room ss s last takes len here =
    let before : length ss - 1 ≡ last = omega arith in
    let chunk : length s ≡ length (get_or ss (length ss - 1) []) =
    ap length (here ∙ get_or_default ss last s [] (omega arith)) ∙ ap (λ k. length (get_or ss k [])) (sym before) in
    omega (arith, takes.room)

-- there are at most as many chunks as values
pub chunks_count : (ss : List (List (List ℕ))) → AreSome ss → length ss ≤ sum (counts_of ss)
chunks_count [] h = omega arith
chunks_count (s ∷ ss) h =
    let P : List (List ℕ) → Type 0 = λ x. 0 < length x in
    omega (arith, All-head P s ss h, chunks_count ss (All-tail P s ss h), sum-cons (length s) (counts_of ss))

-- chunks in place of those from a up to b

some_spliced : (ss fresh : List (List (List ℕ))) (a b : ℕ) → AreSome ss → AreSome fresh → AreSome (take a ss ++ (fresh ++ drop b ss))
some_spliced ss fresh a b h more =
    let P : List (List ℕ) → Type 0 = λ x. 0 < length x in
    All-append P (take a ss) (fresh ++ drop b ss) (All-take P a ss h) (All-append P fresh (drop b ss) more (All-drop P b ss h))

pub IsSpine-spliced : (ss fresh : List (List (List ℕ))) (counts made new : List ℕ) (a b : ℕ) → IsSpine ss counts → AreSome fresh → made ≡ counts_of fresh → new ≡ take a counts ++ (made ++ drop b counts) → IsSpine (take a ss ++ (fresh ++ drop b ss)) new
IsSpine-spliced ss fresh counts made new a b h more are is = record {
  some = some_spliced ss fresh a b h.some more;
  counted = segments_spliced ss counts h.counted fresh made new a b are is;
}

-- there are few chunks after that
pub spliced_few : (ss fresh : List (List (List ℕ))) (a b : ℕ) → a ≤ b → b ≤ length ss → AreSome ss → AreSome fresh → sum (take a (counts_of ss) ++ (counts_of fresh ++ drop b (counts_of ss))) ≤ 16777216 → a + length fresh + (length ss - b) ≤ 16777216
spliced_few ss fresh a b order in_range h more few =
    omega (arith, few, ap sum (counts-spliced ss fresh a b), chunks_count (take a ss ++ (fresh ++ drop b ss)) (some_spliced ss fresh a b h more), length-append (take a ss) (fresh ++ drop b ss), length-take-le a ss (omega arith), length-append fresh (drop b ss), length-drop b ss)

-- a chunk of as many values in place of the one that a place leads to
pub IsSpine-set : (ss : List (List (List ℕ))) (counts : List ℕ) (at : ℕ) (p : Place) (s t : List (List ℕ)) → IsSpine ss counts → IsPlace (counts_of ss) at p → s ≡ get_or ss p.segment s → length t ≡ length s → IsSpine (set ss p.segment t) counts
IsSpine-set ss counts at p s t h place here same =
    let P : List (List ℕ) → Type 0 = λ x. 0 < length x in
    record {
      some = All-set P ss p.segment t (omega (arith, same, within_part ss at p s place here)) h.some;
      counted = h.counted ∙ sym (same_counts ss at p s place here t same);
    }

-- a value more in the last chunk
pub IsSpine-pushed : (ss : List (List (List ℕ))) (counts new : List ℕ) (s : List (List ℕ)) (v : List ℕ) (last : ℕ) → IsSpine ss counts → suc last ≡ length ss → s ≡ get_or ss last s → new ≡ set counts (length counts - 1) (get_or counts (length counts - 1) 0 + 1) → IsSpine (set ss last (s ++ v ∷ [])) new
IsSpine-pushed ss counts new s v last h len here is =
    let P : List (List ℕ) → Type 0 = λ x. 0 < length x in
    record {
      some = All-set P ss last (s ++ v ∷ []) (omega (arith, length_push s v)) h.some;
      counted = segments_pushed ss counts h.counted s last len here new v is;
    }
