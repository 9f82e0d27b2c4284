-- Laws of a splice and of the segments that it replaces.
use Rattle.std.proofs.Common.{◌≡◌, ℕ, suc, ◌+◌, ◌-◌, ◌<◌, ◌≤◌, inl, inr, List, ◌∷◌, ◌++◌, length, map, get_or, take, drop, refl, sym, ap, subst, ◌∙◌, arith, sum}
use Rattle.std.proofs.lemmas.List.{append_assoc, drop_all}
use Rattle.std.specs.List.{All}
use Rattle.std.proofs.lemmas.List.Elements.{All-append, All-take, All-drop}
use Rattle.segments.specs.declared.splice.Splice.{Splice}
use Rattle.segments.specs.declared.splice.Replaced.{Replaced}
use Rattle.segments.specs.Segments.{ends_from, counts_from, AreEnds, start_of}
use Rattle.segments.specs.Splices.{Applies, Covers, size_after, AreApartBefore, FitsBehind, IsApartBehind, AreApartBehind, WithBefore, WithBehind}
use Rattle.segments.proofs.Counts.{sum-take-suc, sum-take-mono, sum-append, take-ends_from, drop-ends_from, ends_from-append, ends_from-shift, ends_made}
use Rattle.segments.proofs.Lists.{drop-cons-at}
use Rattle.segments.proofs.Places.{start_within}

pub size_few : (cs : List ℕ) (e : Splice) (t : Replaced) → Applies (sum cs) e → Covers cs e t → size_after e t ≤ 16777216
size_few cs e t a c = omega (arith, a.few, a.within, c.stop, start_within cs t.after c.in_range)

-- with the segment before

pub covers_before : (cs : List ℕ) (e : Splice) (t u : Replaced) → Covers cs e t → 0 < t.first → u.first ≡ t.first - 1 → u.start ≡ start_of cs u.first → u.after ≡ t.after → u.stop ≡ t.stop → Covers cs e u
covers_before cs e t u c some first start after stop =
    let back : start_of cs u.first ≤ start_of cs t.first = sum-take-mono cs u.first t.first (omega arith) in
    record {
      order = omega (arith, c.order);
      in_range = omega (arith, c.in_range);
      start = start;
      stop = stop ∙ c.stop ∙ ap (start_of cs) (sym after);
      before = omega (arith, c.before, c.start);
      behind = omega (arith, c.behind);
    }

-- there is none
pub none_before : (most : ℕ) (cs : List ℕ) (e : Splice) (t : Replaced) → t.first ≡ 0 → WithBefore most cs e t t
none_before most cs e t none = inl (refl, λ k is. absurd (omega arith))

-- it has no room
pub stays_before : (most start : ℕ) (cs : List ℕ) (e : Splice) (t : Replaced) → Covers cs e t → 0 < t.first → start ≡ start_of cs (t.first - 1) → most < t.start - start + size_after e t → WithBefore most cs e t t
stays_before most start cs e t c some at over =
    let apart : AreApartBefore most cs t.first (size_after e t) = λ k is.
    let l : k < length cs = omega (arith, c.order, c.in_range) in
    let before : t.first - 1 ≡ k = omega arith in
    let to : t.start ≡ start_of cs (suc k) = c.start ∙ ap (start_of cs) is in
    let from : start ≡ start_of cs k = at ∙ ap (start_of cs) before in
    omega (arith, sum-take-suc k cs l)
    in inl (refl, apart)

-- it has room
pub takes_before : (most : ℕ) (cs : List ℕ) (e : Splice) (t u : Replaced) → Covers cs e t → 0 < t.first → u.first ≡ t.first - 1 → u.start ≤ t.start → u.after ≡ t.after → u.stop ≡ t.stop → t.start - u.start + size_after e t ≤ most → WithBefore most cs e t u
takes_before most cs e t u c some first back after stop fits =
    let less : t.first ≡ u.first + 1 = omega arith in
    let size : size_after e u ≤ most = omega (arith, c.before) in
    inr (less, after, size)

-- with the segment behind

pub covers_behind : (cs : List ℕ) (e : Splice) (t u : Replaced) → Covers cs e t → t.after < length cs → u.first ≡ t.first → u.start ≡ t.start → u.after ≡ t.after + 1 → u.stop ≡ start_of cs (t.after + 1) → Covers cs e u
covers_behind cs e t u c l first start after stop = record {
  order = omega (arith, c.order);
  in_range = omega arith;
  start = start ∙ c.start ∙ ap (start_of cs) (sym first);
  stop = stop ∙ ap (start_of cs) (sym after);
  before = omega (arith, c.before);
  behind = omega (arith, c.behind, c.stop, sum-take-mono cs t.after (t.after + 1) (omega arith));
}

-- there is none
pub none_behind : (most : ℕ) (cs : List ℕ) (e : Splice) (t : Replaced) → length cs ≤ t.after → WithBehind most cs e t t
none_behind most cs e t none =
    let P : List ℕ → Type 0 = AreApartBehind most (size_after e t) in
    inl (refl, subst P (sym (drop_all t.after cs none)) tt)

-- how many items the segment behind has, by the places where it begins and ends
count_behind : (cs : List ℕ) (e : Splice) (t : Replaced) (stop : ℕ) → Covers cs e t → t.after < length cs → stop ≡ start_of cs (t.after + 1) → stop - t.stop ≡ get_or cs t.after 0
count_behind cs e t stop c l at =
    let next : t.after + 1 ≡ suc t.after = omega arith in
    omega (arith, c.stop, ap (start_of cs) next, sum-take-suc t.after cs l)

-- it does not fit
pub stays_behind : (most stop : ℕ) (cs : List ℕ) (e : Splice) (t : Replaced) → Covers cs e t → t.after < length cs → stop ≡ start_of cs (t.after + 1) → IsApartBehind most (size_after e t) (stop - t.stop) → WithBehind most cs e t t
stays_behind most stop cs e t c l at apart =
    let P : List ℕ → Type 0 = AreApartBehind most (size_after e t) in
    let Q : ℕ → Type 0 = IsApartBehind most (size_after e t) in
    let behind : AreApartBehind most (size_after e t) (get_or cs t.after 0 ∷ drop (suc t.after) cs) = subst Q (count_behind cs e t stop c l at) apart in
    inl (refl, subst P (sym (drop-cons-at cs t.after 0 l)) behind)

-- it fits
pub takes_behind : (most : ℕ) (cs : List ℕ) (e : Splice) (t u : Replaced) → Covers cs e t → t.after < length cs → u.first ≡ t.first → u.after ≡ t.after + 1 → u.stop ≡ start_of cs (t.after + 1) → FitsBehind most (size_after e t) (u.stop - t.stop) → WithBehind most cs e t u
takes_behind most cs e t u c l first after at fits =
    let Q : ℕ → Type 0 = FitsBehind most (size_after e t) in
    let there : FitsBehind most (size_after e t) (get_or cs t.after 0) = subst Q (count_behind cs e t u.stop c l at) fits in
    inr (first, after, there)

-- where the segments end with others in place of those from a up to b
pub ends_spliced : (most : ℕ) (es fresh : List ℕ) (a b start from to : ℕ) → AreEnds most es → start ≡ start_of (counts_from 0 es) a → from ≡ start_of (counts_from 0 es) b → to ≡ start + sum fresh → take a es ++ ends_from start fresh ++ map (λ e. e - from + to) (drop b es) ≡ ends_from 0 (take a (counts_from 0 es) ++ (fresh ++ drop b (counts_from 0 es)))
ends_spliced most es fresh a b start from to h at_start at_from at_to =
    let cs : List ℕ = counts_from 0 es in
    let first : take a es ≡ ends_from 0 (take a cs) = ap (take a) h.placed ∙ take-ends_from 0 a cs in
    let old : drop b es ≡ ends_from from (drop b cs) =
    ap (drop b) h.placed ∙ drop-ends_from 0 b cs ∙ ap (λ n. ends_from n (drop b cs)) (let e : 0 + sum (take b cs) ≡ from = omega arith in e) in
    let moved : map (λ e. e - from + to) (drop b es) ≡ ends_from to (drop b cs) = ap (map (λ e. e - from + to)) old ∙ ends_from-shift from to (drop b cs) in
    let begin : 0 + sum (take a cs) ≡ start = omega arith in
    let all : ends_from 0 (take a cs ++ (fresh ++ drop b cs)) ≡ ends_from 0 (take a cs) ++ (ends_from start fresh ++ ends_from to (drop b cs)) =
    ends_from-append 0 (take a cs) (fresh ++ drop b cs)
    ∙ ap (λ n. ends_from 0 (take a cs) ++ ends_from n (fresh ++ drop b cs)) begin
    ∙ ap (λ es. ends_from 0 (take a cs) ++ es) (ends_from-append start fresh (drop b cs) ∙ ap (λ n. ends_from start fresh ++ ends_from n (drop b cs)) (sym at_to)) in
    ap (λ xs. xs ++ ends_from start fresh ++ map (λ e. e - from + to) (drop b es)) first
    ∙ ap (λ xs. ends_from 0 (take a cs) ++ ends_from start fresh ++ xs) moved
    ∙ append_assoc (ends_from 0 (take a cs)) (ends_from start fresh) (ends_from to (drop b cs))
    ∙ sym all

pub each_spliced : (most : ℕ) (cs fresh : List ℕ) (a b : ℕ) → All (λ n. n ≤ most) cs → All (λ n. n ≤ most) fresh → All (λ n. n ≤ most) (take a cs ++ (fresh ++ drop b cs))
each_spliced most cs fresh a b old new =
    let P : ℕ → Type 0 = λ n. n ≤ most in
    All-append P (take a cs) (fresh ++ drop b cs) (All-take P a cs old) (All-append P fresh (drop b cs) new (All-drop P b cs old))

-- the fresh segments behind the first a are part of all
pub fresh_few : (cs fresh : List ℕ) (a b : ℕ) → start_of cs a + sum fresh ≤ sum (take a cs ++ (fresh ++ drop b cs))
fresh_few cs fresh a b = omega (arith, sum-append (take a cs) (fresh ++ drop b cs), sum-append fresh (drop b cs))

pub spliced_made : (most : ℕ) (es fresh new : List ℕ) (a b start from to : ℕ) → AreEnds most es → All (λ n. n ≤ most) fresh → sum (take a (counts_from 0 es) ++ (fresh ++ drop b (counts_from 0 es))) ≤ 16777216 → start ≡ start_of (counts_from 0 es) a → from ≡ start_of (counts_from 0 es) b → to ≡ start + sum fresh → new ≡ take a es ++ ends_from start fresh ++ map (λ e. e - from + to) (drop b es) → AreEnds most new × (counts_from 0 new ≡ take a (counts_from 0 es) ++ (fresh ++ drop b (counts_from 0 es)))
spliced_made most es fresh new a b start from to h each few at_start at_from at_to made =
    let cs : List ℕ = counts_from 0 es in
    ends_made most (take a cs ++ (fresh ++ drop b cs)) new h.some (each_spliced most cs fresh a b h.each each) few
    (made ∙ ends_spliced most es fresh a b start from to h at_start at_from at_to)
