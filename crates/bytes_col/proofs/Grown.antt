-- Laws of chunks, the last of which stands by itself and takes more values.
use Rattle.std.proofs.Common.{◌≡◌, ℕ, zero, suc, ◌+◌, ◌-◌, ◌<◌, List, [], ◌∷◌, ◌++◌, length, get_or, take, pos, sym, ap, subst, ◌∙◌, arith}
use Rattle.std.proofs.lemmas.List.{length-map, length-take-le, take-map, map-append}
use Rattle.std.proofs.lemmas.List.Elements.{All-take}
use Rattle.segments.specs.Joined.{joined}
use Rattle.segments.proofs.Last.{joined-last-more, front_and_last, front_parts, front-push, last_is}
use Rattle.int_col.specs.Numbers.{Numbers, Push as NumbersPush}
use Rattle.bytes_col.specs.declared.cell.Cell.{Cell}
use Rattle.bytes_col.specs.Chunk.{cell_value, cell_values, IsApart, IsCell, AreApart, IsChunk}
use Rattle.bytes_col.specs.Growing.{front}
use Rattle.bytes_col.specs.Prepared.{AreSizes}
use Rattle.bytes_col.specs.Spine.{HasSizes, LastTakes}
use Rattle.bytes_col.specs.Strings.{short_bytes}
use Rattle.bytes_col.proofs.Short.{length-short-append}

apart-take : (k : ℕ) (cs : List Cell) → AreApart cs → AreApart (take k cs)
apart-take zero cs h = tt
apart-take (suc k) [] h = tt
apart-take (suc k) (c ∷ cs) h = (All-take (IsApart c) k cs h.0, apart-take k cs h.1)

-- the last cell is taken away
pub cell_removed : (cs new : List Cell) (bytes : List ℕ) (short count : ℕ) → IsChunk cs bytes short → 0 < length cs → new ≡ take (length cs - 1) cs
    → count ≡ length (short_bytes (get_or (cell_values bytes cs) (length cs - 1) [] ∷ [])) → IsChunk new bytes (short - count) × (cell_values bytes new ≡ front (cell_values bytes cs))
cell_removed cs new bytes short count h some is counted =
    let k : ℕ = length cs - 1 in
    let vs : List (List ℕ) = cell_values bytes cs in
    let long : length vs ≡ length cs = length-map cs (cell_value bytes) in
    let values : cell_values bytes (take k cs) ≡ take k vs = sym (take-map (cell_value bytes) k cs) in
    let ends : front vs ≡ take k vs = ap (λ n. take (n - 1) vs) long in
    let parts : vs ≡ take k vs ++ get_or vs k [] ∷ [] =
    front_parts vs [] (omega (arith, long)) ∙ ap (λ n. take (n - 1) vs ++ get_or vs (n - 1) [] ∷ []) long in
    let total : length (short_bytes vs) ≡ length (short_bytes (take k vs)) + count =
    ap (λ xs. length (short_bytes xs)) parts ∙ length-short-append (take k vs) (get_or vs k [] ∷ []) ∙ ap (λ n. length (short_bytes (take k vs)) + n) (sym counted) in
    let P : List Cell → Type 0 = λ x. IsChunk x bytes (short - count) × (cell_values bytes x ≡ front vs) in
    subst P (sym is) (
      record {
        few = omega (arith, h.few, length-take-le k cs (omega arith));
        each = All-take (IsCell bytes) k cs h.each;
        apart = apart-take k cs h.apart;
        count = omega (arith, h.count, total, ap (λ xs. length (short_bytes xs)) values);
      },
      values ∙ sym ends,
    )

-- the sizes of all values but the last, and of that
pub sizes_prepared : (vs : List (List ℕ)) (sizes : Numbers) (v : List ℕ) (p : NumbersPush) → HasSizes vs sizes → p ≡ record { column = sizes; value = pos (length v) } → AreSizes (vs ++ v ∷ []) p
sizes_prepared vs sizes v p h is =
    let P : NumbersPush → Type 0 = λ x. AreSizes (vs ++ v ∷ []) x in
    let Q : List (List ℕ) → Type 0 = λ xs. HasSizes xs sizes in
    subst P (sym is) (record {
      before = subst Q (sym (front-push vs v)) h;
      after = ap (λ zs. zs ++ pos (length v) ∷ []) h.are ∙ sym (map-append (λ x. pos (length x)) vs (v ∷ []));
    })

-- the last chunk has room
pub last_has_room : (head : List (List (List ℕ))) (s : List (List ℕ)) → LastTakes (head ++ s ∷ []) → length s < 512
last_has_room head s takes = omega (arith, takes.room, ap length (last_is head s))

-- one value more in the last chunk of a list
pub chunks_pushed : (ss : List (List (List ℕ))) (v : List ℕ) → 0 < length ss → joined (take (length ss - 1) ss ++ (get_or ss (length ss - 1) [] ++ v ∷ []) ∷ []) ≡ joined ss ++ v ∷ []
chunks_pushed ss v some =
    joined-last-more (take (length ss - 1) ss) (get_or ss (length ss - 1) []) v ∙ ap (λ xs. joined xs ++ v ∷ []) (sym (front_and_last ss some))
