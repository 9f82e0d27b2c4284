-- Laws of bytes that are written piece by piece.
use Rattle.std.proofs.Common.{◌≡◌, ℕ, zero, suc, ◌+◌, ◌-◌, ◌<◌, ◌≤◌, ℤ, pos, List, [], ◌∷◌, ◌++◌, length, min, Bool, false, not, cond, get_or, take, drop, inl, inr, refl, sym, ap, subst, ◌∙◌, arith, rules}
use Rattle.std.proofs.lemmas.Int.{ints}
use Rattle.std.proofs.lemmas.Bool.{cases_lt}
use Rattle.std.proofs.lemmas.List.{append-nil, take-append-le, length-append, length-drop, length-take-le, take_all, drop-append-le, drop-drop, drop_at, take_more, map-id, get_or-map, length-map}
use Rattle.std.proofs.lemmas.List.Elements.{filter-append}
use Rattle.std.proofs.lemmas.List.FromFn.{map-range_with_len_more}
use Rattle.std.specs.List.{filter, range_with_len}
use Rattle.segments.proofs.Lists.{take-append-more}
use Rattle.bit_pack.specs.declared.widths.Width.{Width}
use Rattle.bit_pack.specs.declared.widths.Width.TheVariants.{W8}
use Rattle.bit_pack.specs.Width.{bit_count, Holds, IsLeastWidth}
use Rattle.bit_pack.proofs.LeastWidth.{highest-rises}
use Rattle.bytes_col.specs.Strings.{is_short, memo_rows, short_bytes, sizes_of}
use Rattle.segments.specs.Joined.{joined}
use Rattle.bytes_col.proofs.Short.{short-append}
use Rattle.segments.proofs.Joined.{joined-append}

drop-past : (b p : List ℕ) (skip : ℕ) → drop (length b + skip) (b ++ p) ≡ drop skip p
drop-past b p skip =
    sym (drop-drop skip (length b) (b ++ p)) ∙ ap (drop skip) (drop_at b p (length b) refl)

-- what was written so far, of the pieces b, with the part of the next one
pub filled_more : (b p xs ys zs : List ℕ) (from skip done n total : ℕ) → skip ≡ from - length b → done ≡ min (length b - from) total → length xs ≡ total → take done xs ≡ take done (drop from b) → n ≡ min (length p - skip) (total - done) → n ≤ length ys → take n ys ≡ take n (drop skip p) → (skip - length p ≡ from - length (b ++ p)) × (done + n ≡ min (length (b ++ p) - from) total) × (take (done + n) (take done xs ++ (ys ++ zs)) ≡ take (done + n) (drop from (b ++ p)))
filled_more b p xs ys zs from skip done n total skips is len before count room new =
    let sum = length-append b p in (
      omega (arith, sum),
      omega (arith, sum),
      elim (cases_lt from (length b)) [
        | inr past ↦
            let none : done ≡ 0 = omega arith in
            let there : from ≡ length b + skip = omega arith in
            ap (λ k. take (k + n) (take k xs ++ (ys ++ zs))) none
            ∙ ap (λ k. take k (ys ++ zs)) (let e : 0 + n ≡ n = omega arith in e)
            ∙ take-append-le n ys zs room
            ∙ new
            ∙ sym (ap (λ k. take (k + n) (drop from (b ++ p))) none ∙ ap (λ k. take k (drop from (b ++ p))) (let e : 0 + n ≡ n = omega arith in e) ∙ ap (λ k. take n (drop k (b ++ p))) there ∙ ap (take n) (drop-past b p skip))
        | inl inside ↦
            let start : skip ≡ 0 = omega arith in
            let x : List ℕ = drop from b in
            let size : length x ≡ length b - from = length-drop from b in
            let rest : drop from (b ++ p) ≡ x ++ p = drop-append-le from b p (omega arith) in
            elim (cases_lt total (length x)) [
              | inl full ↦
                  let all : done ≡ total = omega arith in
                  let no : n ≡ 0 = omega arith in
                  let same : done + n ≡ done = omega arith in
                  let front : length (take done xs) ≡ done = length-take-le done xs (omega arith) in
                  ap (λ k. take k (take done xs ++ (ys ++ zs))) (same ∙ sym front)
                  ∙ take-append-le (length (take done xs)) (take done xs) (ys ++ zs) (omega arith)
                  ∙ take_all (length (take done xs)) (take done xs) (omega arith)
                  ∙ before
                  ∙ sym (ap (λ k. take k (drop from (b ++ p))) same ∙ ap (take done) rest ∙ take-append-le done x p (omega arith))
              | inr fits ↦
                  let reached : done ≡ length x = omega arith in
                  let front : take done xs ≡ x = before ∙ take_all done x (omega arith) in
                  let more : take n (ys ++ zs) ≡ take n p = take-append-le n ys zs room ∙ new ∙ ap (λ k. take n (drop k p)) start in
                  ap (λ w. take (done + n) (w ++ (ys ++ zs))) front
                  ∙ ap (λ k. take (k + n) (x ++ (ys ++ zs))) reached
                  ∙ take-append-more x (ys ++ zs) n
                  ∙ ap (λ w. x ++ w) more
                  ∙ sym (ap (λ k. take (k + n) (drop from (b ++ p))) reached ∙ ap (take (length x + n)) rest ∙ take-append-more x p n)
            ]
      ],
    )

-- the short bytes of one value more
pub short_value_more : (vs : List (List ℕ)) (i : ℕ) (p : List ℕ) → i < length vs → p ≡ short_bytes (get_or vs i [] ∷ []) → short_bytes (take (i + 1) vs) ≡ short_bytes (take i vs) ++ p
short_value_more vs i p l is =
    ap short_bytes (take_more vs i [] l) ∙ short-append (take i vs) (get_or vs i [] ∷ []) ∙ ap (λ z. short_bytes (take i vs) ++ z) (sym is)

-- the short bytes of one chunk more
pub short_chunk_more : (ss : List (List (List ℕ))) (k : ℕ) (s : List (List ℕ)) → k < length ss → s ≡ get_or ss k s → short_bytes (joined (take (k + 1) ss)) ≡ short_bytes (joined (take k ss)) ++ short_bytes s
short_chunk_more ss k s l here =
    ap (λ z. short_bytes (joined z)) (take_more ss k s l)
    ∙ ap short_bytes (joined-append (take k ss) (get_or ss k s ∷ []) ∙ ap (λ z. joined (take k ss) ++ z) (append-nil (get_or ss k s) ∙ sym here))
    ∙ short-append (joined (take k ss)) s

range_more : (n : ℕ) → range_with_len 0 (n + 1) ≡ range_with_len 0 n ++ n ∷ []
range_more n =
    sym (map-id (range_with_len 0 (n + 1))) ∙ map-range_with_len_more (λ i. i) 0 n n (omega arith) ∙ ap (λ z. z ++ n ∷ []) (map-id (range_with_len 0 n))

-- one row more, where it passes
pub rows_more : (p : ℕ → Bool) (n : ℕ) (b : Bool) → b ≡ p n → filter p (range_with_len 0 (n + 1)) ≡ filter p (range_with_len 0 n) ++ cond b (n ∷ []) []
rows_more p n b is =
    ap (filter p) (range_more n) ∙ filter-append p (range_with_len 0 n) (n ∷ []) ∙ ap (λ x. filter p (range_with_len 0 n) ++ cond x (n ∷ []) []) (sym is)

no_rows : (p : ℕ → Bool) (n : ℕ) → ((k : ℕ) → k < n → p k ≡ false) → filter p (range_with_len 0 n) ≡ []
no_rows p zero none = refl
no_rows p (suc n) none =
    ap (λ k. filter p (range_with_len 0 k)) (let e : suc n ≡ n + 1 = omega arith in e)
    ∙ rows_more p n false (sym (none n (omega arith)))
    ∙ append-nil (filter p (range_with_len 0 n))
    ∙ no_rows p n (λ k below. none k (omega arith))

narrow_is_short : (w : Width) (values : List (List ℕ)) (row : ℕ) → IsLeastWidth w (sizes_of values) → bit_count w ≤ 8 → row < length values → not (is_short (get_or values row [])) ≡ false
narrow_is_short w values row least narrow within =
    let size : ℤ = pos (length (get_or values row [])) in
    let held : Holds w size =
    subst (Holds w) (get_or-map (λ value. pos (length value)) values row [] (pos 0) within) (least.held.each row (pos 0) (omega (arith, length-map values (λ value. pos (length value))))) in
    let small : length (get_or values row []) ≤ 512 = omega (arith, ints, held.high, highest-rises w W8 narrow) in
    grind (rules, small)

-- sizes of 8 bits are those of short values
pub no_memos : (w : Width) (values : List (List ℕ)) → IsLeastWidth w (sizes_of values) → bit_count w ≤ 8 → memo_rows values ≡ []
no_memos w values least narrow =
    no_rows (λ row. not (is_short (get_or values row []))) (length values) (λ row. narrow_is_short w values row least narrow)
