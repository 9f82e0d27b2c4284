-- Laws of a list that is kept in chunks.
use Rattle.std.proofs.Common.{◌≡◌, ℕ, ◌+◌, ◌-◌, ◌<◌, ◌≤◌, List, [], ◌∷◌, ◌++◌, length, get_or, set, take, drop, Result, Ok, Err, refl, sym, ap, subst, ◌∙◌, arith, sum}
use Rattle.std.specs.Prelude.{OnOk, OnErr}
use Rattle.std.specs.List.{All}
use Rattle.std.proofs.lemmas.List.{append_assoc, append-nil, drop-drop, drop_all, get_or_default, length-append, length-set, length-take-le, length-drop, map-set, set-get_or, take-append-drop, take_all}
use Rattle.std.proofs.lemmas.List.Elements.{All-append, All-head, All-replicate, All-same, All-tail, All-take, All-drop}
use Rattle.segments.specs.declared.segments.Place.{Place}
use Rattle.segments.specs.Segments.{IsPlace}
use Rattle.segments.specs.Joined.{joined, counts_of}
use Rattle.segments.proofs.Counts.{sum-cons}
use Rattle.segments.proofs.Lists.{take-split, take-append-more}
use Rattle.segments.proofs.Joined.{joined-append, length-joined, length-joined-take, length-counts, count_is, get_or-counts, counts-spliced, part_within, read_place, same_counts, set_place, within_part}
use Rattle.segments.proofs.Counted.{segments_spliced}
use Rattle.segments.proofs.Grouped.{length_replaced, parts_stay}
use Rattle.segments.proofs.Last.{joined-last, counts-last}
use Rattle.tables.specs.Tables.{StoredTable}
use Rattle.tables.specs.Spine.{IsSpine}

-- a list in two parts without its last item, which the second has
pub front-append : {X : Type 0} (xs ys : List X) → 0 < length ys → xs ++ take (length ys - 1) ys ≡ take (length (xs ++ ys) - 1) (xs ++ ys)
front-append xs ys some =
    sym (take-append-more xs ys (length ys - 1))
    ∙ ap (λ n. take n (xs ++ ys)) (let e : length xs + (length ys - 1) ≡ length (xs ++ ys) - 1 = omega (arith, length-append xs ys) in e)

-- some items of a list behind others, and some more of it
pub taken_more : {X : Type 0} (xs whole : List X) (from done r : ℕ) → (xs ++ take done (drop from whole)) ++ take r (drop (from + done) whole) ≡ xs ++ take (done + r) (drop from whole)
taken_more xs whole from done r =
    let rest = drop from whole in
    let step : done + r - done ≡ r = omega arith in
    append_assoc xs (take done rest) (take r (drop (from + done) whole))
    ∙ ap (λ ys. xs ++ (take done rest ++ take r ys)) (sym (drop-drop done from whole))
    ∙ ap (λ n. xs ++ (take done rest ++ take n (drop done rest))) (sym step)
    ∙ ap (λ ys. xs ++ ys) (sym (take-split rest done (done + r) (omega arith)))

-- a fact of the count of each chunk, with one chunk more, and with chunks in place of those from a up to b

counts_push : {X : Type 0} (P : ℕ → Type 0) (cs new : List (List X)) (s : List X) → All P (counts_of cs) → P (length s) → new ≡ cs ++ s ∷ [] → All P (counts_of new)
counts_push P cs new s all one made =
    All-same P (counts_of new) (counts_of cs ++ length s ∷ []) (ap counts_of made ∙ counts-last cs s) (All-append P (counts_of cs) (length s ∷ []) all (All-replicate P 1 (length s) one))

counts_splice : {X : Type 0} (P : ℕ → Type 0) (cs fresh : List (List X)) (a b : ℕ) → All P (counts_of cs) → All P (counts_of fresh) → All P (counts_of (take a cs ++ (fresh ++ drop b cs)))
counts_splice P cs fresh a b old new =
    let ns : List ℕ = counts_of cs in
    All-same P (counts_of (take a cs ++ (fresh ++ drop b cs))) (take a ns ++ (counts_of fresh ++ drop b ns)) (counts-spliced cs fresh a b)
    (All-append P (take a ns) (counts_of fresh ++ drop b ns) (All-take P a ns old) (All-append P (counts_of fresh) (drop b ns) new (All-drop P b ns old)))

-- one more chunk of a list that is cut
pub cut_more : {X : Type 0} (cs new : List (List X)) (xs s : List X) (from count : ℕ) → joined cs ≡ take from xs → All (λ n. 0 < n) (counts_of cs) → All (λ n. n ≤ 1024) (counts_of cs) → 0 < count → count ≤ 1024 → from + count ≤ length xs → s ≡ take count (drop from xs) → new ≡ cs ++ s ∷ [] → (joined new ≡ take (from + count) xs) × All (λ n. 0 < n) (counts_of new) × All (λ n. n ≤ 1024) (counts_of new)
cut_more cs new xs s from count tables some few one small within is made =
    let step : from + count - from ≡ count = omega arith in
    let len : length s ≡ count = ap length is ∙ length-take-le count (drop from xs) (omega (arith, length-drop from xs)) in (
      ap joined made ∙ joined-last cs s ∙ ap (λ ys. ys ++ s) tables ∙ ap (λ ys. take from xs ++ ys) is
          ∙ ap (λ n. take from xs ++ take n (drop from xs)) (sym step) ∙ sym (take-split xs from (from + count) (omega arith)),
      counts_push (λ n. 0 < n) cs new s some (omega arith) made,
      counts_push (λ n. n ≤ 1024) cs new s few (omega arith) made,
    )

-- no more chunks than tables, where no chunk is empty

few_parts : (ns : List ℕ) → All (λ n. 0 < n) ns → length ns ≤ sum ns
few_parts [] some = omega arith
few_parts (n ∷ ns) some =
    let one : 0 < n = All-head (λ n. 0 < n) n ns some in
    omega (arith, sum-cons n ns, few_parts ns (All-tail (λ n. 0 < n) n ns some))

pub few_chunks : {X : Type 0} (cs : List (List X)) → All (λ n. 0 < n) (counts_of cs) → length cs ≤ length (joined cs)
few_chunks cs some = omega (arith, few_parts (counts_of cs) some, length-counts cs, length-joined cs)

pub few_spliced : {X : Type 0} (cs fresh : List (List X)) (a b : ℕ) → All (λ n. 0 < n) (counts_of cs) → All (λ n. 0 < n) (counts_of fresh) → a ≤ b → b ≤ length cs → sum (take a (counts_of cs) ++ (counts_of fresh ++ drop b (counts_of cs))) ≤ 16777216 → a + length fresh + (length cs - b) ≤ 16777216
few_spliced cs fresh a b some made order within few =
    let new = take a cs ++ (fresh ++ drop b cs) in
    omega (arith, few_chunks new (counts_splice (λ n. 0 < n) cs fresh a b some made), length-joined new, ap sum (counts-spliced cs fresh a b), length_replaced cs fresh a b order within)

-- nothing is removed
pub removed_none : {X : Type 0} (xs : List X) (at n : ℕ) → n ≡ 0 → take at xs ++ drop (at + n) xs ≡ xs
removed_none xs at n none =
    let same : at + n ≡ at = omega arith in
    ap (λ k. take at xs ++ drop k xs) same ∙ take-append-drop at xs

-- chunks behind all others
pub joined_behind : {X : Type 0} (cs fresh : List (List X)) (xs : List X) (end : ℕ) → end ≡ length cs → joined fresh ≡ xs → joined (take end cs ++ (fresh ++ drop end cs)) ≡ joined cs ++ xs
joined_behind cs fresh xs end all made =
    ap (λ ds. joined (ds ++ (fresh ++ drop end cs))) (take_all end cs (omega arith))
    ∙ ap (λ ds. joined (cs ++ (fresh ++ ds))) (drop_all end cs (omega arith))
    ∙ ap (λ ds. joined (cs ++ ds)) (append-nil fresh)
    ∙ joined-append cs fresh
    ∙ ap (λ ys. joined cs ++ ys) made

pub few_behind : {X : Type 0} (cs fresh : List (List X)) (xs : List X) (end : ℕ) → end ≡ length cs → joined fresh ≡ xs → length (joined cs) + length xs ≤ 16777216 → sum (take end (counts_of cs) ++ (counts_of fresh ++ drop end (counts_of cs))) ≤ 16777216
few_behind cs fresh xs end all made few =
    omega (arith, ap sum (counts-spliced cs fresh end end), length-joined (take end cs ++ (fresh ++ drop end cs)), ap length (joined_behind cs fresh xs end all made), length-append (joined cs) xs)

-- the chunks before the last
pub few_front : {X : Type 0} (cs none : List (List X)) (n : ℕ) → none ≡ [] → n ≡ length cs → length (joined cs) ≤ 16777216 → sum (take (n - 1) (counts_of cs) ++ (counts_of none ++ drop n (counts_of cs))) ≤ 16777216
few_front cs none n empty all few =
    let front : take (n - 1) (counts_of cs) ++ (counts_of none ++ drop n (counts_of cs)) ≡ take (n - 1) (counts_of cs) =
    ap (λ ds. take (n - 1) (counts_of cs) ++ (counts_of ds ++ drop n (counts_of cs))) empty
    ∙ ap (λ ns. take (n - 1) (counts_of cs) ++ ns) (drop_all n (counts_of cs) (omega (arith, length-counts cs)))
    ∙ append-nil (take (n - 1) (counts_of cs)) in
    omega (arith, ap sum front, length-joined-take (n - 1) cs, part_within (n - 1) cs)

-- a fact of the count of each chunk, of the one that is read
pub count_holds : {X : Type 0} (P : ℕ → Type 0) (cs : List (List X)) (k : ℕ) (s : List X) → k < length cs → s ≡ get_or cs k s → All P (counts_of cs) → P (length s)
count_holds P cs k s p read all = subst P (count_is cs k s p read) (all k 0 (omega (arith, length-counts cs)))

-- chunks in place of those from a up to b
pub IsSpine-spliced : (cs fresh : List (List StoredTable)) (counts made new : List ℕ) (a b : ℕ) → IsSpine cs counts → made ≡ counts_of fresh → All (λ n. 0 < n) (counts_of fresh) → All (λ n. n ≤ 1024) (counts_of fresh) → new ≡ take a counts ++ (made ++ drop b counts) → IsSpine (take a cs ++ (fresh ++ drop b cs)) new
IsSpine-spliced cs fresh counts made new a b h are some few is = record {
  counted = segments_spliced cs counts h.counted fresh made new a b are is;
  some = counts_splice (λ n. 0 < n) cs fresh a b h.some some;
  each = counts_splice (λ n. n ≤ 1024) cs fresh a b h.each few;
}

-- a table in place of the one at a place of chunk k
pub IsSpine-set : {T E : Type 0} (r : Result T E) (cs new : List (List StoredTable)) (counts : List ℕ) (k at : ℕ) (t : StoredTable) → k < length cs → IsSpine cs counts → OnOk r (new ≡ set cs k (set (get_or cs k []) at t)) → OnErr r (new ≡ cs) → IsSpine new counts
IsSpine-set (Ok x) cs new counts k at t within h put stays =
    let same : counts_of new ≡ counts_of cs =
    ap counts_of put
    ∙ map-set length cs k (set (get_or cs k []) at t)
    ∙ ap (set (counts_of cs) k) (length-set (get_or cs k []) at t ∙ sym (get_or-counts cs k within))
    ∙ set-get_or (counts_of cs) k 0 in
    record { counted = h.counted ∙ sym same; some = All-same (λ n. 0 < n) (counts_of new) (counts_of cs) same h.some; each = All-same (λ n. n ≤ 1024) (counts_of new) (counts_of cs) same h.each }
IsSpine-set (Err e) cs new counts k at t within h put stays = subst (λ ds. IsSpine ds counts) (sym stays) h

-- a table in place of the one that stands at this place
module _ {X : Type 0} (cs : List (List X)) (at : ℕ) (p : Place) (place : IsPlace (counts_of cs) at p) (within : p.segment < length cs) where
  pub offset_within : p.offset < length (get_or cs p.segment [])
  offset_within = omega (arith, place.within, get_or-counts cs p.segment within)

  pub set_joined : (new : List (List X)) (x : X) → new ≡ set cs p.segment (set (get_or cs p.segment []) p.offset x) → joined new ≡ set (joined cs) at x
  set_joined new x put =
      let chunk : List X = get_or cs p.segment [] in
      ap joined put ∙ set_place cs at p chunk place (get_or_default cs p.segment [] chunk within) (set chunk p.offset x) x refl

-- a table in place of the one at a place of chunk k, which stands at this place in group s
module _ {X : Type 0} (gs : List (List (List X))) (counts : List ℕ) (k at : ℕ) (p : Place) (s : List (List X)) (h : counts ≡ counts_of gs) (found : IsPlace counts k p) (here : s ≡ get_or gs p.segment s) where
  place_is : IsPlace (counts_of gs) k p
  place_is =
      let P : List ℕ → Type 0 = λ ns. IsPlace ns k p in
      subst P h found

  pub chunk_within : p.offset < length s
  chunk_within = within_part gs k p s place_is here

  chunk_is : get_or s p.offset [] ≡ get_or (joined gs) k []
  chunk_is = read_place gs k p s place_is here []

  pub table_within : at < length (get_or (joined gs) k []) → at < length (get_or s p.offset [])
  table_within within = omega (arith, ap length chunk_is)

  pub table_set : (new : List (List X)) (x : X) → new ≡ set s p.offset (set (get_or s p.offset []) at x) → joined (set gs p.segment new) ≡ set (joined gs) k (set (get_or (joined gs) k []) at x)
  table_set new x put =
      set_place gs k p s place_is here new (set (get_or s p.offset []) at x) put ∙ ap (λ c. set (joined gs) k (set c at x)) chunk_is

  pub chunks_stay : (new : List (List X)) → new ≡ s → joined (set gs p.segment new) ≡ joined gs
  chunks_stay new stays = ap (λ x. joined (set gs p.segment x)) stays ∙ parts_stay gs counts k p s h found here

  pub counts_kept : (new : List (List X)) → length new ≡ length s → counts ≡ counts_of (set gs p.segment new)
  counts_kept new len = h ∙ sym (same_counts gs k p s place_is here new len)
