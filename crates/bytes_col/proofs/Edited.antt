-- Laws of a list of chunks, one of which is edited.
use Rattle.std.proofs.Common.{◌≡◌, ℕ, suc, ◌+◌, ◌-◌, ◌<◌, ◌≤◌, List, [], ◌∷◌, ◌++◌, length, get_or, set, take, drop, sym, ap, ◌∙◌, arith, sum}
use Rattle.std.proofs.lemmas.List.{get_or_default, length-append, length-drop, length-take-le, map-set, take_all}
use Rattle.std.proofs.lemmas.List.Elements.{All-set}
use Rattle.segments.specs.declared.segments.Place.{Place}
use Rattle.segments.specs.Segments.{start_of, IsPlace}
use Rattle.segments.specs.Joined.{joined, counts_of}
use Rattle.segments.proofs.Counts.{sum-take-suc}
use Rattle.segments.proofs.Joined.{get_or-counts, length-counts, length-joined, spliced_part}
use Rattle.bytes_col.specs.Places.{IsPlaceOrEnd}
use Rattle.bytes_col.specs.Spine.{IsSpine}

-- the place of a value
pub place_is : (ss : List (List (List ℕ))) (at : ℕ) (p : Place) → p.segment < length ss → IsPlace (counts_of ss) at p → IsPlaceOrEnd ss at p
place_is ss at p l h = record {
  chunk = l;
  within = omega (arith, h.within, get_or-counts ss p.segment l);
  sum = h.sum;
}

pub before_end : (ss : List (List (List ℕ))) (at : ℕ) (p : Place) → p.segment < length ss → IsPlace (counts_of ss) at p → p.offset < length (get_or ss p.segment [])
before_end ss at p l h = omega (arith, h.within, get_or-counts ss p.segment l)

-- the place of the end
pub end_is : (ss : List (List (List ℕ))) (s : List (List ℕ)) (p : Place) → 0 < length ss → p.segment ≡ length ss - 1 → s ≡ get_or ss p.segment s → p.offset ≡ length s → IsPlaceOrEnd ss (length (joined ss)) p
end_is ss s p some last here all =
    let cs : List ℕ = counts_of ss in
    let len = length-counts ss in
    let next : suc p.segment ≡ length cs = omega (arith, last, some, len) in
    let l : p.segment < length ss = omega (arith, last, some) in
    let own : length s ≡ length (get_or ss p.segment []) = ap length (here ∙ get_or_default ss p.segment s [] l) in
    record {
      chunk = l;
      within = omega (arith, all, own);
      sum = omega (arith, all, own, get_or-counts ss p.segment l, sum-take-suc p.segment cs (omega (arith, l, len)), ap (start_of cs) next, ap sum (take_all (length cs) cs (omega arith)), length-joined ss);
    }

-- how many values the chunk there has
pub count_at : (ss : List (List (List ℕ))) (k : ℕ) (s : List (List ℕ)) → k < length ss → s ≡ get_or ss k s → length s ≡ length (get_or ss k [])
count_at ss k s l here = ap length (here ∙ get_or_default ss k s [] l)

-- values in place of n others in one chunk
module _ (ss : List (List (List ℕ))) (counts : List ℕ) (at n m : ℕ) (p : Place) (s t r : List (List ℕ)) (h : IsSpine ss counts) (place : IsPlaceOrEnd ss at p) (here : s ≡ get_or ss p.segment s) (within : p.offset + n ≤ length s) (made : t ≡ take p.offset s ++ (r ++ drop (p.offset + n) s)) (count : length t ≡ m) where
  pub joined_edited : joined (set ss p.segment t) ≡ take at (joined ss) ++ (r ++ drop (at + n) (joined ss))
  joined_edited = ap (λ x. joined (set ss p.segment x)) made ∙ spliced_part ss p.segment at p.offset n s r place.chunk here place.sum within

  counts_edited : set counts p.segment m ≡ counts_of (set ss p.segment t)
  counts_edited = ap (λ cs. set cs p.segment m) h.counted ∙ ap (set (counts_of ss) p.segment) (sym count) ∙ sym (map-set length ss p.segment t)

  pub few_edited : length (joined (set ss p.segment t)) ≤ 16777216 → sum (set counts p.segment m) ≤ 16777216
  few_edited few = omega (arith, few, ap sum counts_edited, length-joined (set ss p.segment t))

  pub IsSpine-edited : (new : List ℕ) → 0 < m → new ≡ set counts p.segment m → IsSpine (set ss p.segment t) new
  IsSpine-edited new some is =
      let P : List (List ℕ) → Type 0 = λ x. 0 < length x in
      record {
        some = All-set P ss p.segment t (omega (arith, some, count)) h.some;
        counted = is ∙ counts_edited;
      }

-- one value is put in

pub put_in : (s : List (List ℕ)) (i : ℕ) (v : List ℕ) → take i s ++ (v ∷ drop i s) ≡ take i s ++ ((v ∷ []) ++ drop (i + 0) s)
put_in s i v = ap (λ k. take i s ++ (v ∷ drop k s)) (let e : i ≡ i + 0 = omega arith in e)

pub length-put_in : (s : List (List ℕ)) (i : ℕ) (v : List ℕ) → i ≤ length s → length (take i s ++ (v ∷ drop i s)) ≡ length s + 1
length-put_in s i v le = omega (arith, length-append (take i s) (v ∷ drop i s), length-take-le i s le, length-drop i s)

-- one value is taken away

pub length-taken : (s : List (List ℕ)) (i : ℕ) → i < length s → length (take i s ++ drop (i + 1) s) ≡ length s - 1
length-taken s i l = omega (arith, length-append (take i s) (drop (i + 1) s), length-take-le i s (omega arith), length-drop (i + 1) s)
