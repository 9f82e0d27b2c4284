-- Blocks that were placed one after another, as those of a footprint and as what is written.
use Rattle.std.proofs.Common.{◌≡◌, ℕ, suc, ◌<◌, ◌≤◌, ◌⊎◌, inl, inr, ⊎_elim, max, List, [], ◌∷◌, length, map, Bool, true, false, cond, All, refl, ap, sym, subst, ◌∙◌, arith, true≢false}
use Rattle.std.specs.Prelude.{Contains, nat_lt}
use Rattle.std.specs.List.{filter}
use Rattle.std.proofs.lemmas.Bool.Decides.{Decides-ltb}
use Rattle.std.proofs.lemmas.List.Elements.{All-head, All-tail, All-cons, All-nil, All-contains}
use Rattle.std.proofs.lemmas.List.Kept.{AllPairs-filter}
use Rattle.tables.proofs.Apart.{in_cons, none_in}
use Rattle.mk_value.specs.declared.span.Span.{Span}
use Rattle.free_space.specs.Extents.{AreApart, Meets, extent_end, extent_len}
use Rattle.free_space.specs.FreeSpace.{end_of}
use Rattle.free_space.specs.Sites.{ArePlaced, IsPlaced, first_place, no_span}
use Rattle.free_space.proofs.Placing.{BeginBelow, IsApartFrom, IsPut}
use Rattle.commit_writes.specs.Blocks.{BeginWithin, Block, IsBlockWithin, IsSited, no_block, spans_of}
use Rattle.recovery.specs.Commits.{blocks_at}
use Rattle.commit_plan.specs.Following.{is_some}

pub placed_long : (floor : ℕ) (used : List Span) (lens : List ℕ) (spans : List Span) → ArePlaced floor used lens spans → length spans ≡ length lens
placed_long floor used [] [] p = refl
placed_long floor used [] (s ∷ spans) p = absurd p
placed_long floor used (n ∷ lens) [] p = absurd p
placed_long floor used (n ∷ lens) (s ∷ spans) p = let e = placed_long floor (s ∷ used) lens spans p.1 in omega (arith, e)

-- no block at all, or one in its place
site_or_none : (floor : ℕ) (used : List Span) (bytes : List ℕ) (span : Span) (end : ℕ) → first_place ≤ floor → IsPlaced floor used (length bytes) span → extent_end span ≤ end
    → IsSited end (record { span = span; bytes = bytes })
site_or_none floor used [] span end p placed q = inl (ap (λ (s : Span). let b : Block = record { span = s; bytes = [] } in b) placed)
site_or_none floor used (x ∷ bytes) span end p placed q =
    let stands = placed.1.stands in
    let from = stands.from_floor in
    let long = placed.0 in
    inr (record {
      site = record { aligned = stands.aligned; behind = omega (arith, p, from); some = omega (arith, long); within = q };
      len = long;
    })

pub placed_sited : (floor : ℕ) (used : List Span) (bytes : List (List ℕ)) (spans : List Span) (end : ℕ) → first_place ≤ floor → ArePlaced floor used (map length bytes) spans
    → All (λ s. extent_end s ≤ end) spans → All (IsSited end) (blocks_at spans bytes)
placed_sited floor used [] [] end p placed q = All-nil (IsSited end)
placed_sited floor used [] (s ∷ spans) end p placed q = absurd placed
placed_sited floor used (b ∷ bytes) [] end p placed q = absurd placed
placed_sited floor used (b ∷ bytes) (s ∷ spans) end p placed q =
    All-cons (IsSited end) _ (blocks_at spans bytes)
    (site_or_none floor used b s end p placed.0 (All-head (λ s. extent_end s ≤ end) s spans q))
    (placed_sited floor (s ∷ used) bytes spans end p placed.1 (All-tail (λ s. extent_end s ≤ end) s spans q))

-- the blocks that have bytes
some_of : (b : Block) → is_some b ≡ true → 0 < b.span.len
some_of b e = (Decides-ltb 0 b.span.len).0 e

pub kept_some : (P : Block → Type 0) (blocks : List Block) → All (λ b. 0 < b.span.len → P b) blocks → All P (filter is_some blocks)
kept_some P [] h = All-nil P
kept_some P (b ∷ blocks) h = by_test (is_some b) refl (kept_some P blocks (All-tail (λ b. 0 < b.span.len → P b) b blocks h))
  where
    by_test : (t : Bool) → is_some b ≡ t → All P (filter is_some blocks) → All P (filter is_some (b ∷ blocks))
    by_test true e rest =
        subst (All P) (sym (ap (λ (t : Bool). cond t (b ∷ filter is_some blocks) (filter is_some blocks)) e))
        (All-cons P b (filter is_some blocks) (All-head (λ b. 0 < b.span.len → P b) b blocks h (some_of b e)) rest)
    by_test false e rest = subst (All P) (sym (ap (λ (t : Bool). cond t (b ∷ filter is_some blocks) (filter is_some blocks)) e)) rest

spans_of-some : (blocks : List Block) → spans_of (filter is_some blocks) ≡ filter (λ s. nat_lt 0 s.len) (spans_of blocks)
spans_of-some [] = refl
spans_of-some (b ∷ blocks) = by_test (is_some b) refl (spans_of-some blocks)
  where
    by_test : (t : Bool) → is_some b ≡ t → spans_of (filter is_some blocks) ≡ filter (λ s. nat_lt 0 s.len) (spans_of blocks) → spans_of (filter is_some (b ∷ blocks)) ≡ filter (λ s. nat_lt 0 s.len) (spans_of (b ∷ blocks))
    by_test true e rest =
        ap (λ (t : Bool). spans_of (cond t (b ∷ filter is_some blocks) (filter is_some blocks))) e
        ∙ ap (λ ss. b.span ∷ ss) rest
        ∙ sym (ap (λ (t : Bool). cond t (b.span ∷ filter (λ s. nat_lt 0 s.len) (spans_of blocks)) (filter (λ s. nat_lt 0 s.len) (spans_of blocks))) e)
    by_test false e rest =
        ap (λ (t : Bool). spans_of (cond t (b ∷ filter is_some blocks) (filter is_some blocks))) e
        ∙ rest
        ∙ sym (ap (λ (t : Bool). cond t (b.span ∷ filter (λ s. nat_lt 0 s.len) (spans_of blocks)) (filter (λ s. nat_lt 0 s.len) (spans_of blocks))) e)

pub some_apart : (blocks : List Block) → AreApart (spans_of blocks) → AreApart (spans_of (filter is_some blocks))
some_apart blocks h = subst AreApart (sym (spans_of-some blocks)) (AllPairs-filter (λ one other. ¬ Meets one other) (λ s. nat_lt 0 s.len) (spans_of blocks) h)

contains_filter : {X : Type 0} (p : X → Bool) (xs : List X) (x : X) → Contains xs x → p x ≡ true → Contains (filter p xs) x
contains_filter p [] x there e = absurd (none_in x there)
contains_filter p (y ∷ xs) x there e =
    ⊎_elim
    (λ (same : y ≡ x). subst (λ ys. Contains ys x) (sym (ap (λ (t : Bool). cond t (y ∷ filter p xs) (filter p xs)) (ap p same ∙ e))) (0, omega arith, same))
    (λ (later : Contains xs x). by_test (p y) refl (contains_filter p xs x later e))
    (in_cons y xs x there)
  where
    by_test : (t : Bool) → p y ≡ t → Contains (filter p xs) x → Contains (filter p (y ∷ xs)) x
    by_test true f h = subst (λ ys. Contains ys x) (sym (ap (λ (t : Bool). cond t (y ∷ filter p xs) (filter p xs)) f)) (suc h.0, (let q = h.1 in omega arith), h.2)
    by_test false f h = subst (λ ys. Contains ys x) (sym (ap (λ (t : Bool). cond t (y ∷ filter p xs) (filter p xs)) f)) h

-- a block that is not written has no bytes
pub written_or_none : (end : ℕ) (blocks : List Block) (b : Block) → All (IsSited end) blocks → Contains blocks b → (b ≡ no_block) ⊎ Contains (filter is_some blocks) b
written_or_none end blocks b sited there = by_test (is_some b) refl
  where
    by_test : (t : Bool) → is_some b ≡ t → (b ≡ no_block) ⊎ Contains (filter is_some blocks) b
    by_test true e = inr (contains_filter is_some blocks b there e)
    by_test false e = ⊎_elim (λ none. inl none) (λ (site : IsBlockWithin end b). absurd (true≢false (sym ((Decides-ltb 0 b.span.len).1 site.site.some) ∙ e))) (All-contains (IsSited end) blocks b sited there)

-- the end of a file does not see blocks without bytes
pub no_extent : extent_end no_span ≡ 0
unfolding extent_len
no_extent = refl

zero_below : (n m : ℕ) → n ≡ 0 → max n m ≡ m
zero_below n m e = omega (arith, e)

max_none : (n m e : ℕ) → n ≡ 0 → m ≤ e → max n m ≤ e
max_none n m e z p = omega (arith, z, p)

end_of-some : (floor : ℕ) (base : ℕ) (used : List Span) (spans : List Span) → All (IsPut floor used) spans → end_of base (filter (λ s. nat_lt 0 s.len) spans) ≡ end_of base spans
end_of-some floor base used [] h = refl
end_of-some floor base used (s ∷ spans) h = by_test (nat_lt 0 s.len) refl (end_of-some floor base used spans (All-tail (IsPut floor used) s spans h))
  where
    by_test : (t : Bool) → nat_lt 0 s.len ≡ t → end_of base (filter (λ s. nat_lt 0 s.len) spans) ≡ end_of base spans → end_of base (filter (λ s. nat_lt 0 s.len) (s ∷ spans)) ≡ end_of base (s ∷ spans)
    by_test true e rest = ap (λ (t : Bool). end_of base (cond t (s ∷ filter (λ s. nat_lt 0 s.len) spans) (filter (λ s. nat_lt 0 s.len) spans))) e ∙ ap (λ n. max (extent_end s) n) rest
    by_test false e rest =
        let none : extent_end s ≡ 0 =
        ⊎_elim (λ (n : s ≡ no_span). ap extent_end n ∙ no_extent) (λ (a : IsApartFrom floor used s). absurd (true≢false (sym ((Decides-ltb 0 s.len).1 a.some) ∙ e))) (All-head (IsPut floor used) s spans h) in
        ap (λ (t : Bool). end_of base (cond t (s ∷ filter (λ s. nat_lt 0 s.len) spans) (filter (λ s. nat_lt 0 s.len) spans))) e ∙ rest ∙ sym (zero_below (extent_end s) (end_of base spans) none)

pub writes_end : (floor : ℕ) (base : ℕ) (used : List Span) (blocks : List Block) → All (IsPut floor used) (spans_of blocks) → end_of base (spans_of (filter is_some blocks)) ≡ end_of base (spans_of blocks)
writes_end floor base used blocks h = ap (λ ss. end_of base ss) (spans_of-some blocks) ∙ end_of-some floor base used (spans_of blocks) h

-- each begins within the file
max_mono : (a b c d : ℕ) → a ≤ b → c ≤ d → max a c ≤ max d b
max_mono a b c d p q = omega (arith, p, q)

-- a span is none, or it has bytes
abbrev pub IsNoneOrSome : Span → Type 0
IsNoneOrSome s = (s ≡ no_span) ⊎ (0 < s.len)

pub begin_some : (floor : ℕ) (used : List Span) (blocks : List Block) (end : ℕ) → end_of floor used ≤ end → All IsNoneOrSome (spans_of blocks) → BeginBelow floor used (spans_of blocks)
    → BeginWithin end (filter is_some blocks)
begin_some floor used [] end p sure h = tt
begin_some floor used (b ∷ blocks) end p sure h = by_test (is_some b) refl (λ e q. begin_some floor (b.span ∷ used) blocks e q (All-tail IsNoneOrSome b.span (spans_of blocks) sure) h.1)
  where
    none_end : is_some b ≡ false → extent_end b.span ≡ 0
    none_end e =
        ⊎_elim (λ (n : b.span ≡ no_span). ap extent_end n ∙ no_extent) (λ (a : 0 < b.span.len). absurd (true≢false (sym ((Decides-ltb 0 b.span.len).1 a) ∙ e))) (All-head IsNoneOrSome b.span (spans_of blocks) sure)

    by_test : (t : Bool) → is_some b ≡ t → ((e : ℕ) → end_of floor (b.span ∷ used) ≤ e → BeginWithin e (filter is_some blocks)) → BeginWithin end (filter is_some (b ∷ blocks))
    by_test true e rest =
        subst (λ bs. BeginWithin end bs) (sym (ap (λ (t : Bool). cond t (b ∷ filter is_some blocks) (filter is_some blocks)) e))
        ((let q = h.0 in omega (arith, p, q)), rest (max end (extent_end b.span)) (max_mono (extent_end b.span) (extent_end b.span) (end_of floor used) end (omega arith) p))
    by_test false e rest =
        subst (λ bs. BeginWithin end bs) (sym (ap (λ (t : Bool). cond t (b ∷ filter is_some blocks) (filter is_some blocks)) e))
        (rest end (max_none (extent_end b.span) (end_of floor used) end (none_end e) p))
