-- Laws of segments, the last of which stands by itself and takes more values.
use Rattle.std.proofs.Common.{◌≡◌, ℕ, suc, ◌+◌, ◌-◌, ◌<◌, ◌≤◌, ℤ, List, [], ◌∷◌, ◌++◌, length, get_or, take, drop, refl, sym, ap, subst, ◌∙◌, arith, inl, inr}
use Rattle.std.proofs.lemmas.List.{append-nil, take-map, take_all, drop_all, length_push}
use Rattle.std.proofs.lemmas.Bool.{cases_lt}
use Rattle.segments.specs.Joined.{joined, counts_of}
use Rattle.segments.proofs.Joined.{length-joined, length-counts, get_or-counts}
use Rattle.segments.proofs.Counted.{segments_count}
use Rattle.segments.proofs.Last.{joined-last, counts-last, length-last, last_is, joined-last-more, front_and_last}
use Rattle.int_col.specs.Cuts.{AreCuts}
use Rattle.int_col.specs.Spine.{IsSpine, LastTakes, IsLastFull, HasLastRoom}
use Rattle.int_col.specs.Tail.{AreSegments}
use Rattle.int_col.proofs.CutLaws.{AreCuts-take, AreCuts-append, AreCuts-last-more, Meet, Meet-take, cut_few, cuts_count}

-- the segments before one of them
pub cuts-front : (k : ℕ) (ss : List (List ℤ)) → AreCuts (counts_of ss) → AreCuts (counts_of (take k ss))
cuts-front k ss h = subst AreCuts (take-map length k ss) (AreCuts-take k (counts_of ss) h)

-- there are few segments
pub segments_few : (ss : List (List ℤ)) → AreSegments ss → length ss ≤ 16777216
segments_few ss h = omega (arith, h.few, cuts_count (counts_of ss) h.cut, length-counts ss, length-joined ss)

-- the counts without the last
pub IsSpine-front : (ss : List (List ℤ)) (counts new : List ℕ) (n : ℕ) → IsSpine ss counts → n ≡ length counts → new ≡ take (n - 1) counts ++ ([] ++ drop n counts) → IsSpine (take (length ss - 1) ss) new
IsSpine-front ss counts new n h all is =
    let k : ℕ = length ss - 1 in
    let last : n - 1 ≡ k = omega (arith, segments_count ss counts h.counted) in
    record {
      cut = cuts-front k ss h.cut;
      counted =
          is
          ∙ ap (λ cs. take (n - 1) counts ++ cs) (drop_all n counts (omega arith))
          ∙ append-nil (take (n - 1) counts)
          ∙ ap (λ m. take m counts) last
          ∙ ap (take k) h.counted
          ∙ take-map length k ss;
    }

-- the counts with one more
pub counts_with_last : (ss : List (List ℤ)) (counts : List ℕ) (s : List ℤ) (n k : ℕ) → counts ≡ counts_of ss → k ≡ length counts → n ≡ length s → take k counts ++ (n ∷ drop k counts) ≡ counts_of (ss ++ s ∷ [])
counts_with_last ss counts s n k h all is =
    ap (λ cs. cs ++ (n ∷ drop k counts)) (take_all k counts (omega arith))
    ∙ ap (λ cs. counts ++ (n ∷ cs)) (drop_all k counts (omega arith))
    ∙ ap (λ cs. cs ++ n ∷ []) h
    ∙ ap (λ m. counts_of ss ++ m ∷ []) is
    ∙ sym (counts-last ss s)

-- the last segment has few values
pub last_few : (head : List (List ℤ)) (s : List ℤ) → AreSegments (head ++ s ∷ []) → length s ≤ 2048
last_few head s h =
    let cs : List ℕ = counts_of (head ++ s ∷ []) in
    let k : ℕ = length (head ++ s ∷ []) - 1 in
    let l : k < length (head ++ s ∷ []) = omega (arith, length-last head s) in
    omega (arith, cut_few cs k h.cut (omega (arith, l, length-counts (head ++ s ∷ []))), get_or-counts (head ++ s ∷ []) k l, ap length (last_is head s))

-- one value more in the last segment
pub segments_longer : (head : List (List ℤ)) (s : List ℤ) (v : ℤ) → AreSegments (head ++ s ∷ []) → length s < 2048 → length (joined (head ++ s ∷ [])) < 16777216 → AreSegments (head ++ (s ++ v ∷ []) ∷ [])
segments_longer head s v h room few =
    let longer : counts_of (head ++ (s ++ v ∷ []) ∷ []) ≡ counts_of head ++ (length s + 1) ∷ [] =
    counts-last head (s ++ v ∷ []) ∙ ap (λ n. counts_of head ++ n ∷ []) (length_push s v) in
    record {
      cut = subst AreCuts (sym longer) (AreCuts-last-more (counts_of head) (length s) (subst AreCuts (counts-last head s) h.cut) room);
      few = omega (arith, few, ap length (joined-last-more head s v), length_push (joined (head ++ s ∷ [])) v);
    }

-- one value more in the last segment of a list
pub segments_pushed : (ss : List (List ℤ)) (v : ℤ) → AreCuts (counts_of ss) → HasLastRoom ss → length (joined ss) < 16777216
    → AreSegments (take (length ss - 1) ss ++ (get_or ss (length ss - 1) [] ++ v ∷ []) ∷ []) × (joined (take (length ss - 1) ss ++ (get_or ss (length ss - 1) [] ++ v ∷ []) ∷ []) ≡ joined ss ++ v ∷ [])
segments_pushed ss v cut room few =
    let head : List (List ℤ) = take (length ss - 1) ss in
    let s : List ℤ = get_or ss (length ss - 1) [] in
    let parts : ss ≡ head ++ s ∷ [] = front_and_last ss room.some in
    let P : List (List ℤ) → Type 0 = λ xs. AreCuts (counts_of xs) in
    let whole : AreSegments (head ++ s ∷ []) = record { cut = subst P parts cut; few = omega (arith, few, ap (λ xs. length (joined xs)) parts) } in (
      segments_longer head s v whole room.room (omega (arith, few, ap (λ xs. length (joined xs)) parts)),
      joined-last-more head s v ∙ ap (λ xs. joined xs ++ v ∷ []) (sym parts),
    )

-- a segment of one value behind full ones
pub segments_more : (ss : List (List ℤ)) (v : ℤ) → AreCuts (counts_of ss) → IsLastFull ss → length (joined ss) < 16777216
    → AreSegments (ss ++ (v ∷ []) ∷ []) × (joined (ss ++ (v ∷ []) ∷ []) ≡ joined ss ++ v ∷ [])
segments_more ss v cut full few =
    let cs : List ℕ = counts_of ss in
    let one : AreCuts (1 ∷ []) = (omega arith, omega arith, tt, tt) in
    let meets : Meet cs (1 ∷ []) =
    elim full [
      | inl none ↦ let P : List ℕ → Type 0 = λ xs. Meet xs (1 ∷ []) in subst P (sym (empty cs (none_of none))) tt
      | inr whole ↦
          elim (cases_lt 0 (length ss)) [
            | inl some ↦
                let k : ℕ = length ss - 1 in
                let all : take (suc k) cs ≡ cs = take_all (suc k) cs (omega (arith, length-counts ss)) in
                let count : get_or cs k 0 ≡ 2048 = get_or-counts ss k (omega arith) ∙ whole in
                let P : List ℕ → Type 0 = λ xs. Meet xs (1 ∷ []) in
                subst P all (Meet-take k cs (1 ∷ []) (omega (arith, length-counts ss)) (let e : 2048 < get_or cs k 0 + 1 = omega (arith, count) in e))
            | inr none ↦ let P : List ℕ → Type 0 = λ xs. Meet xs (1 ∷ []) in subst P (sym (empty cs (none_of (let e : length ss ≡ 0 = omega arith in e)))) tt
          ]
    ] in (
      record {
        cut = subst AreCuts (sym (counts-last ss (v ∷ []))) (AreCuts-append cs (1 ∷ []) cut one meets);
        few = omega (arith, few, ap length (joined-last ss (v ∷ [])), length_push (joined ss) v);
      },
      joined-last ss (v ∷ []),
    )
  where
    none_of : length ss ≡ 0 → length (counts_of ss) ≡ 0
    none_of none = length-counts ss ∙ none

    empty : (xs : List ℕ) → length xs ≡ 0 → xs ≡ []
    empty [] e = refl
    empty (x ∷ xs) e = absurd (omega arith)

-- the last segment of those with one that stands by itself
pub last_is_full : (head : List (List ℤ)) (s : List ℤ) → length s ≡ 2048 → IsLastFull (head ++ s ∷ [])
last_is_full head s full = inr (ap length (last_is head s) ∙ full)

pub last_takes : (head : List (List ℤ)) (s : List ℤ) (v : ℤ) → LastTakes (head ++ s ∷ []) v → length s < 2048
last_takes head s v takes = omega (arith, takes.takes.room, ap length (last_is head s))
