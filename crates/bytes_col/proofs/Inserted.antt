-- Laws of a chunk into which a value is put, or from which one is taken, at any place.
use Rattle.std.proofs.Common.{◌≡◌, ℕ, zero, suc, ◌+◌, ◌-◌, ◌<◌, ◌≤◌, List, [], ◌∷◌, ◌++◌, length, get_or, take, drop, sym, ap, subst, ◌∙◌, arith}
use Rattle.std.proofs.lemmas.List.{length-append, length-drop, length-map, length-take-le, map-append, take-map, drop-map, take-append-drop}
use Rattle.std.proofs.lemmas.List.Elements.{All-append, All-drop, All-from_recursion, All-head, All-tail, All-take, All-weaker}
use Rattle.std.specs.List.{All}
use Rattle.segments.proofs.Lists.{drop-cons-at}
use Rattle.bytes_col.specs.declared.cell.Cell.{Cell}
use Rattle.bytes_col.specs.Chunk.{cell_value, cell_values, IsApart, IsBehind, IsCell, AreApart, IsChunk}
use Rattle.bytes_col.specs.Strings.{short_bytes}
use Rattle.bytes_col.proofs.CellLaws.{all_apart, apart_sym, bytes_added}
use Rattle.bytes_col.proofs.Short.{length-short-append, length-short-cons}

apart-put : (i : ℕ) (cs : List Cell) (c : Cell) → AreApart cs → All (λ d. IsApart d c) cs → AreApart (take i cs ++ (c ∷ drop i cs))
apart-put zero cs c h a = (All-weaker (λ d. IsApart d c) (IsApart c) (λ d. apart_sym d c) cs a, h)
apart-put (suc i) [] c h a = (All-from_recursion (IsApart c) [] tt, tt)
apart-put (suc i) (d ∷ ds) c h a =
    let P : Cell → Type 0 = λ e. IsApart e c in
    let one : All (IsApart d) (c ∷ drop i ds) = All-append (IsApart d) (c ∷ []) (drop i ds) (All-from_recursion (IsApart d) (c ∷ []) (All-head P d ds a, tt)) (All-drop (IsApart d) i ds h.0) in
    (All-append (IsApart d) (take i ds) (c ∷ drop i ds) (All-take (IsApart d) i ds h.0) one, apart-put i ds c h.1 (All-tail P d ds a))

apart-drop : (i : ℕ) (cs : List Cell) → AreApart cs → AreApart (drop i cs)
apart-drop zero cs h = h
apart-drop (suc i) [] h = tt
apart-drop (suc i) (c ∷ cs) h = apart-drop i cs h.1

apart-taken : (i : ℕ) (cs : List Cell) → AreApart cs → AreApart (take i cs ++ drop (i + 1) cs)
apart-taken zero cs h = apart-drop (0 + 1) cs h
apart-taken (suc i) [] h = apart-drop (suc i + 1) [] h
apart-taken (suc i) (d ∷ ds) h =
    let next : suc i + 1 ≡ suc (i + 1) = omega arith in
    let P : ℕ → Type 0 = λ k. AreApart (take (suc i) (d ∷ ds) ++ drop k (d ∷ ds)) in
    subst P (sym next) (All-append (IsApart d) (take i ds) (drop (i + 1) ds) (All-take (IsApart d) i ds h.0) (All-drop (IsApart d) (i + 1) ds h.0), apart-taken i ds h.1)

-- a cell is put in at a place, whose value is counted
pub cell_put : (cs new : List Cell) (bytes more longer : List ℕ) (short count i : ℕ) (c : Cell) (v : List ℕ) → IsChunk cs bytes short → longer ≡ bytes ++ more → new ≡ take i cs ++ (c ∷ drop i cs) → IsCell longer c → IsBehind (length bytes) c → cell_value longer c ≡ v → length (cell_values bytes cs) < 512 → i ≤ length (cell_values bytes cs)
    → count ≡ length (short_bytes (v ∷ [])) → IsChunk new longer (short + count) × (cell_values longer new ≡ take i (cell_values bytes cs) ++ (v ∷ drop i (cell_values bytes cs)))
cell_put cs new bytes more longer short count i c v h is put cell behind value room within counted =
    let before = bytes_added cs bytes more longer short h is in
    let vs : List (List ℕ) = cell_values bytes cs in
    let long : length vs ≡ length cs = length-map cs (cell_value bytes) in
    let P : List Cell → Type 0 = λ x. IsChunk x longer (short + count) × (cell_values longer x ≡ take i vs ++ (v ∷ drop i vs)) in
    let values : cell_values longer (take i cs ++ (c ∷ drop i cs)) ≡ take i vs ++ (v ∷ drop i vs) =
    map-append (cell_value longer) (take i cs) (c ∷ drop i cs)
    ∙ ap (λ x. x ++ (cell_value longer c ∷ cell_values longer (drop i cs))) (sym (take-map (cell_value longer) i cs) ∙ ap (take i) before.1)
    ∙ ap (λ x. take i vs ++ (cell_value longer c ∷ x)) (sym (drop-map (cell_value longer) i cs) ∙ ap (drop i) before.1)
    ∙ ap (λ x. take i vs ++ (x ∷ drop i vs)) value in
    let total : length (short_bytes vs) ≡ length (short_bytes (take i vs)) + length (short_bytes (drop i vs)) =
    ap (λ xs. length (short_bytes xs)) (sym (take-append-drop i vs)) ∙ length-short-append (take i vs) (drop i vs) in
    let chunk : IsChunk (take i cs ++ (c ∷ drop i cs)) longer (short + count) = record {
      few = omega (arith, length-append (take i cs) (c ∷ drop i cs), length-take-le i cs (omega (arith, long, within)), length-drop i cs, long, room, within);
      each =
          All-append (IsCell longer) (take i cs) (c ∷ drop i cs) (All-take (IsCell longer) i cs before.0.each)
          (All-append (IsCell longer) (c ∷ []) (drop i cs) (All-from_recursion (IsCell longer) (c ∷ []) (cell, tt)) (All-drop (IsCell longer) i cs before.0.each));
      apart = apart-put i cs c h.apart (all_apart bytes cs c behind h.each);
      count = omega (arith, ap (λ xs. length (short_bytes xs)) values, length-short-append (take i vs) (v ∷ drop i vs), length-short-cons v (drop i vs), h.count, total, counted);
    } in
    subst P (sym put) (chunk, values)

-- the cell at a place is taken away
pub cell_taken : (cs new : List Cell) (bytes : List ℕ) (short count i : ℕ) → IsChunk cs bytes short → i < length (cell_values bytes cs) → new ≡ take i cs ++ drop (i + 1) cs → count ≡ length (short_bytes (get_or (cell_values bytes cs) i [] ∷ []))
    → IsChunk new bytes (short - count) × (cell_values bytes new ≡ take i (cell_values bytes cs) ++ drop (i + 1) (cell_values bytes cs))
cell_taken cs new bytes short count i h within is counted =
    let vs : List (List ℕ) = cell_values bytes cs in
    let long : length vs ≡ length cs = length-map cs (cell_value bytes) in
    let P : List Cell → Type 0 = λ x. IsChunk x bytes (short - count) × (cell_values bytes x ≡ take i vs ++ drop (i + 1) vs) in
    let values : cell_values bytes (take i cs ++ drop (i + 1) cs) ≡ take i vs ++ drop (i + 1) vs =
    map-append (cell_value bytes) (take i cs) (drop (i + 1) cs)
    ∙ ap (λ x. x ++ cell_values bytes (drop (i + 1) cs)) (sym (take-map (cell_value bytes) i cs))
    ∙ ap (λ x. take i vs ++ x) (sym (drop-map (cell_value bytes) (i + 1) cs)) in
    let next : suc i ≡ i + 1 = omega arith in
    let rest : drop i vs ≡ get_or vs i [] ∷ drop (i + 1) vs = drop-cons-at vs i [] within ∙ ap (λ k. get_or vs i [] ∷ drop k vs) next in
    let total : length (short_bytes vs) ≡ length (short_bytes (take i vs)) + (count + length (short_bytes (drop (i + 1) vs))) =
    ap (λ xs. length (short_bytes xs)) (sym (take-append-drop i vs)) ∙ length-short-append (take i vs) (drop i vs)
    ∙ ap (λ xs. length (short_bytes (take i vs)) + length (short_bytes xs)) rest
    ∙ ap (λ n. length (short_bytes (take i vs)) + n) (length-short-cons (get_or vs i []) (drop (i + 1) vs) ∙ ap (λ n. n + length (short_bytes (drop (i + 1) vs))) (sym counted)) in
    let chunk : IsChunk (take i cs ++ drop (i + 1) cs) bytes (short - count) = record {
      few = omega (arith, length-append (take i cs) (drop (i + 1) cs), length-take-le i cs (omega (arith, long, within)), length-drop (i + 1) cs, h.few);
      each = All-append (IsCell bytes) (take i cs) (drop (i + 1) cs) (All-take (IsCell bytes) i cs h.each) (All-drop (IsCell bytes) (i + 1) cs h.each);
      apart = apart-taken i cs h.apart;
      count = omega (arith, ap (λ xs. length (short_bytes xs)) values, length-short-append (take i vs) (drop (i + 1) vs), h.count, total);
    } in
    subst P (sym is) (chunk, values)
