-- Blocks that are placed one after another in a map of what is free.
use Rattle.std.proofs.Common.{◌≡◌, ℕ, zero, suc, ◌+◌, ◌-◌, ◌<◌, ◌≤◌, List, [], ◌∷◌, ◌++◌, length, get_or, take, drop, max, refl, ap, sym, subst, ◌∙◌, arith, append_assoc}
use Rattle.std.specs.Prelude.{Contains, IsPermutation}
use Rattle.std.proofs.lemmas.List.{length-append, take_all, take_more}
use Rattle.std.proofs.lemmas.List.Elements.{All-append, All-cons, All-head, All-nil, All-tail, Contains-append_right}
use Rattle.std.proofs.lemmas.List.Sorted.{IsPermutation-sym}
use Rattle.mk_value.specs.declared.span.Span.{Span}
use Rattle.free_space.specs.Extents.{IsAligned, Meets, extent_end, extent_len}
use Rattle.free_space.specs.FreeSpace.{CanStandAt, FreeSpace, IsLeastPlace, end_of}
use Rattle.free_space.specs.Sites.{ArePlaced, IsPlaced, no_span}
use Rattle.free_space.proofs.PlaceLemmas.{free_permutation}
use Rattle.free_space.proofs.Placing.{extent_of_none, placed_unique}
use Rattle.commit_plan.specs.Following.{last_end}
use Rattle.commit_plan.specs.Placing.{ArePut, IsPut, LeaveSame, OnePasses, Passes, stacked}

-- What leaves the same free.
pub leave_self : (used : List Span) → LeaveSame used used
leave_self used = record { there = λ s h. h; back = λ s h. h }

pub leave_joins : (a b c : List Span) → LeaveSame a b → LeaveSame b c → LeaveSame a c
leave_joins a b c one two = record { there = λ s h. two.there s (one.there s h); back = λ s h. one.back s (two.back s h) }

pub leave_with : (s : Span) (a b : List Span) → LeaveSame a b → LeaveSame (s ∷ a) (s ∷ b)
leave_with s a b same = record {
  there = λ o h. All-cons (λ x. ¬ Meets x o) s b (All-head (λ x. ¬ Meets x o) s a h) (same.there o (All-tail (λ x. ¬ Meets x o) s a h));
  back = λ o h. All-cons (λ x. ¬ Meets x o) s a (All-head (λ x. ¬ Meets x o) s b h) (same.back o (All-tail (λ x. ¬ Meets x o) s b h));
}

pub leave_stacked : (spans a b : List Span) → LeaveSame a b → LeaveSame (stacked spans a) (stacked spans b)
leave_stacked [] a b same = same
leave_stacked (s ∷ spans) a b same = leave_stacked spans (s ∷ a) (s ∷ b) (leave_with s a b same)

pub leave_permuted : (a b : List Span) → IsPermutation a b → LeaveSame a b
leave_permuted a b same = record { there = λ s h. free_permutation a b s same h; back = λ s h. free_permutation b a s (IsPermutation-sym a b same) h }

none_meets : (s : Span) → ¬ Meets no_span s
none_meets s m = let b = m.1 in let z = extent_of_none in absurd (omega (arith, b, z))

-- a span of no bytes leaves all free
pub leave_none : (used : List Span) → LeaveSame used (no_span ∷ used)
leave_none used = record { there = λ s h. All-cons (λ x. ¬ Meets x s) no_span used (none_meets s) h; back = λ s h. All-tail (λ x. ¬ Meets x s) no_span used h }

stands_same : (floor len place : ℕ) (a b : List Span) → LeaveSame a b → CanStandAt floor a len place → CanStandAt floor b len place
stands_same floor len place a b same h = record { aligned = h.aligned; from_floor = h.from_floor; free = same.there (record { place = place; len = len }) h.free }

turned : (a b : List Span) → LeaveSame a b → LeaveSame b a
turned a b same = record { there = same.back; back = same.there }

pub placed_beside : (floor len : ℕ) (span : Span) (a b : List Span) → LeaveSame a b → IsPlaced floor a len span → IsPlaced floor b len span
placed_beside floor zero span a b same h = h
placed_beside floor (suc n) span a b same h = (
  h.0,
  record {
    stands = stands_same floor (suc n) span.place a b same h.1.stands;
    least = λ other is. h.1.least other (stands_same floor (suc n) other b a (turned a b same) is);
  },
)

pub all_placed_beside : (floor : ℕ) (lens : List ℕ) (spans a b : List Span) → LeaveSame a b → ArePlaced floor a lens spans → ArePlaced floor b lens spans
all_placed_beside floor [] [] a b same h = tt
all_placed_beside floor [] (s ∷ spans) a b same h = absurd h
all_placed_beside floor (n ∷ lens) [] a b same h = absurd h
all_placed_beside floor (n ∷ lens) (s ∷ spans) a b same h = (placed_beside floor n s a b same h.0, all_placed_beside floor lens spans (s ∷ a) (s ∷ b) (leave_with s a b same) h.1)

-- One more.
stacked_more : (spans used : List Span) (s : Span) → stacked (spans ++ s ∷ []) used ≡ s ∷ stacked spans used
stacked_more [] used s = refl
stacked_more (o ∷ spans) used s = stacked_more spans (o ∷ used) s

pub placed_more : (floor : ℕ) (used : List Span) (lens : List ℕ) (spans : List Span) (len : ℕ) (s : Span) → ArePlaced floor used lens spans → IsPlaced floor (stacked spans used) len s → ArePlaced floor used (lens ++ len ∷ []) (spans ++ s ∷ [])
placed_more floor used [] [] len s h one = (one, tt)
placed_more floor used [] (o ∷ spans) len s h one = absurd h
placed_more floor used (n ∷ lens) [] len s h one = absurd h
placed_more floor used (n ∷ lens) (o ∷ spans) len s h one = (h.0, placed_more floor (o ∷ used) lens spans len s h.1 one)

-- A block of no bytes, and one of some.
pub none_put : (len : ℕ) (free : FreeSpace) → len ≡ 0 → IsPut len free free no_span
none_put len free e = record {
  placed = subst (λ n. IsPlaced free.floor free.used n no_span) (sym e) refl;
  fits = let z = extent_of_none in omega (arith, z);
  taken = record { floor = refl; used = leave_none free.used; spare = omega arith };
}

some_placed : (floor len place : ℕ) (used : List Span) → 0 < len → IsLeastPlace floor used len place → IsPlaced floor used len (record { place = place; len = len })
some_placed floor zero place used p h = absurd (omega (arith, p))
some_placed floor (suc n) place used p h = (refl, h)

pub some_put : (len place : ℕ) (old new : FreeSpace) → 0 < len → IsLeastPlace old.floor old.used len place → extent_end (record { place = place; len = len }) ≤ last_end
    → new.floor ≡ old.floor → IsPermutation (let s : Span = record { place = place; len = len } in s ∷ old.used) new.used → new.spare + 1 ≡ old.spare → IsPut len old new (record { place = place; len = len })
some_put len place old new p least fits floor same spare = record {
  placed = some_placed old.floor len place old.used p least;
  fits = fits;
  taken = record {
    floor = floor;
    used = turned _ _ (leave_permuted _ _ same);
    spare = omega (arith, spare);
  };
}

-- where a block fits below an end that is a multiple of 16, its extent does
pub fits_below : (place len end : ℕ) → IsAligned place → IsAligned end → place ≤ end → len ≤ end - place → place + extent_len len ≤ end
unfolding extent_len
fits_below place len end even even' p q = omega arith

-- The blocks so far.
pub all_put_none : (free : FreeSpace) (lens : List ℕ) → ArePut (take 0 lens) free free []
all_put_none free lens = record { placed = tt; fit = All-nil (λ s. extent_end s ≤ last_end); taken = record { floor = refl; used = leave_self free.used; spare = omega arith } }

pub all_put_more : (lens : List ℕ) (k : ℕ) (old mid new : FreeSpace) (spans : List Span) (s : Span) → k < length lens → ArePut (take k lens) old mid spans → IsPut (get_or lens k 0) mid new s → ArePut (take (k + 1) lens) old new (spans ++ s ∷ [])
all_put_more lens k old mid new spans s p done one =
    let placed : IsPlaced old.floor (stacked spans old.used) (get_or lens k 0) s =
    placed_beside old.floor (get_or lens k 0) s mid.used (stacked spans old.used) done.taken.used (subst (λ f. IsPlaced f mid.used (get_or lens k 0) s) done.taken.floor one.placed) in
    let long = length-append spans (s ∷ []) in
    let before = done.taken.spare in
    let now = one.taken.spare in
    record {
      placed = subst (λ ls. ArePlaced old.floor old.used ls (spans ++ s ∷ [])) (sym (take_more lens k 0 p)) (placed_more old.floor old.used (take k lens) spans (get_or lens k 0) s done.placed placed);
      fit = All-append (λ s. extent_end s ≤ last_end) spans (s ∷ []) done.fit (All-cons (λ s. extent_end s ≤ last_end) s [] one.fits (All-nil (λ s. extent_end s ≤ last_end)));
      taken = record {
        floor = one.taken.floor ∙ done.taken.floor;
        used = leave_joins new.used (s ∷ mid.used) (stacked (spans ++ s ∷ []) old.used) one.taken.used
            (subst (LeaveSame (s ∷ mid.used)) (sym (stacked_more spans old.used s)) (leave_with s mid.used (stacked spans old.used) done.taken.used));
        spare = omega (arith, long, before, now);
      };
    }

pub all_put_all : (lens : List ℕ) (k : ℕ) (old new : FreeSpace) (spans : List Span) → length lens ≤ k → ArePut (take k lens) old new spans → ArePut lens old new spans
all_put_all lens k old new spans p h = subst (λ ls. ArePut ls old new spans) (take_all k lens p) h

pub placed_count : (floor : ℕ) (used : List Span) (lens : List ℕ) (spans : List Span) → ArePlaced floor used lens spans → length spans ≡ length lens
placed_count floor used [] [] p = refl
placed_count floor used [] (s ∷ spans) p = absurd p
placed_count floor used (n ∷ lens) [] p = absurd p
placed_count floor used (n ∷ lens) (s ∷ spans) p = let e = placed_count floor (s ∷ used) lens spans p.1 in omega (arith, e)

-- The first blocks of many, and the next.
pub record AreCut (floor : ℕ) (used : List Span) (lens : List ℕ) (len : ℕ) (spans : List Span) : Type 0 where
  pub front : List Span
  pub next : Span
  pub placed : ArePlaced floor used lens front
  pub here : IsPlaced floor (stacked front used) len next
  pub among : Contains spans next

cut : (floor : ℕ) (used : List Span) (lens : List ℕ) (len : ℕ) (more : List ℕ) (spans : List Span) → ArePlaced floor used (lens ++ len ∷ more) spans → AreCut floor used lens len spans
cut floor used [] len more [] h = absurd h
cut floor used [] len more (s ∷ spans) h = record { front = []; next = s; placed = tt; here = h.0; among = (0, omega arith, refl) }
cut floor used (n ∷ lens) len more [] h = absurd h
cut floor used (n ∷ lens) len more (s ∷ spans) h =
    let rest = cut floor (s ∷ used) lens len more spans h.1 in
    record { front = s ∷ rest.front; next = rest.next; placed = (h.0, rest.placed); here = rest.here; among = Contains-append_right (s ∷ []) spans rest.next rest.among }

split_at : (lens : List ℕ) (k : ℕ) → k < length lens → lens ≡ take k lens ++ get_or lens k 0 ∷ drop (k + 1) lens
split_at [] k p = absurd (omega (arith, p))
split_at (n ∷ lens) zero p = refl
split_at (n ∷ lens) (suc k) p =
    ap (λ ls. n ∷ ls) (split_at lens k (omega (arith, p))) ∙ ap (λ j. n ∷ (take k lens ++ get_or lens k 0 ∷ drop j (n ∷ lens))) (let e : suc (k + 1) ≡ suc k + 1 = omega arith in e)

pub one_passes : (lens : List ℕ) (k : ℕ) (old mid : FreeSpace) (spans : List Span) → k < length lens → ArePut (take k lens) old mid spans → Passes (get_or lens k 0) mid → OnePasses lens old
one_passes lens k old mid spans p done passes more all h =
    let found = cut old.floor old.used (take k lens) (get_or lens k 0) (drop (k + 1) lens ++ more) all
    (subst (λ ls. ArePlaced old.floor old.used ls all) (ap (λ ls. ls ++ more) (split_at lens k p) ∙ append_assoc (take k lens) (get_or lens k 0 ∷ drop (k + 1) lens) more) h) in
    let same : found.front ≡ spans = placed_unique old.floor old.used (take k lens) found.front spans found.placed done.placed in
    let here : IsPlaced old.floor (stacked spans old.used) (get_or lens k 0) found.next = subst (λ ss. IsPlaced old.floor (stacked ss old.used) (get_or lens k 0) found.next) same found.here in (
      found.next,
      found.among,
      passes found.next (subst (λ f. IsPlaced f mid.used (get_or lens k 0) found.next) (sym done.taken.floor)
          (placed_beside old.floor (get_or lens k 0) found.next (stacked spans old.used) mid.used (turned mid.used (stacked spans old.used) done.taken.used) here)),
    )

-- The end of several extents.
pub end_more : (floor : ℕ) (spans : List Span) (s : Span) → end_of floor (spans ++ s ∷ []) ≡ max (end_of floor spans) (extent_end s)
end_more floor [] s = omega arith
end_more floor (o ∷ spans) s = let e = end_more floor spans s in omega (arith, e)
