-- The memos of a column: their rows ascend, and each has its block.
use Rattle.std.proofs.Common.{◌≡◌, ℕ, suc, ◌+◌, ◌<◌, ◌≤◌, ⊎_elim, List, [], ◌∷◌, length, get_or, drop, map, Bool, true, false, cond, All, refl, ap, sym, subst, ◌∙◌, arith}
use Rattle.std.specs.Prelude.{not}
use Rattle.std.specs.List.{filter, range_with_len}
use Rattle.std.proofs.lemmas.Bool.{leb-false}
use Rattle.std.proofs.lemmas.List.Elements.{All-head, All-tail}
use Rattle.mk_value.specs.declared.span.Span.{Span}
use Rattle.mk_value.specs.Limits.{max_bytes}
use Rattle.bytes_col.specs.Strings.{is_short, long_values, memo_rows}
use Rattle.commit_writes.specs.Blocks.{Block, IsBlockWithin, IsSited, no_block}
use Rattle.dir_codec.specs.declared.dir.Memo.{Memo}
use Rattle.dir_codec.specs.Dir.{AreMemos}
use Rattle.tables.proofs.Lists.{drop_at}
use Rattle.recovery.specs.Commits.{blocks_at, memos_at}

-- the rows of the memos among values, the first of which has this row
pub rows_from : ℕ → List (List ℕ) → List ℕ
rows_from k [] = []
rows_from k (v ∷ values) = cond (is_short v) (rows_from (k + 1) values) (k ∷ rows_from (k + 1) values)

turned : {X : Type 0} (b : Bool) (x y : X) → cond (not b) x y ≡ cond b y x
turned true x y = refl
turned false x y = refl

rows_behind : (all values : List (List ℕ)) (k : ℕ) → drop k all ≡ values → filter (λ row. not (is_short (get_or all row []))) (range_with_len k (length values)) ≡ rows_from k values
unfolding rows_from
rows_behind all [] k e = refl
rows_behind all (v ∷ values) k e =
    let found = drop_at all k v values [] e in
    let p = λ (row : ℕ). not (is_short (get_or all row [])) in
    let rest = filter p (range_with_len (k + 1) (length values)) in
    ap (λ w. cond (not (is_short w)) (k ∷ rest) rest) found.here
    ∙ turned (is_short v) (k ∷ rest) rest
    ∙ ap (λ rs. cond (is_short v) rs (k ∷ rs)) (rows_behind all values (k + 1) found.next)

pub memo_rows-from : (values : List (List ℕ)) → memo_rows values ≡ rows_from 0 values
memo_rows-from values = rows_behind values values 0 refl

-- the long values are those of their rows
values_behind : (all values : List (List ℕ)) (k : ℕ) → drop k all ≡ values → map (λ row. get_or all row []) (rows_from k values) ≡ long_values values
unfolding rows_from
values_behind all [] k e = refl
values_behind all (v ∷ values) k e =
    let found = drop_at all k v values [] e in
    by_size (is_short v) refl found.here (values_behind all values (k + 1) found.next)
  where
    by_size : (b : Bool) → is_short v ≡ b → get_or all k [] ≡ v → map (λ row. get_or all row []) (rows_from (k + 1) values) ≡ long_values values
        → map (λ row. get_or all row []) (cond (is_short v) (rows_from (k + 1) values) (k ∷ rows_from (k + 1) values)) ≡ cond (not (is_short v)) (v ∷ long_values values) (long_values values)
    by_size true f here rest =
        ap (λ (t : Bool). map (λ row. get_or all row []) (cond t (rows_from (k + 1) values) (k ∷ rows_from (k + 1) values))) f ∙ rest
        ∙ sym (ap (λ (t : Bool). cond (not t) (v ∷ long_values values) (long_values values)) f)
    by_size false f here rest =
        ap (λ (t : Bool). map (λ row. get_or all row []) (cond t (rows_from (k + 1) values) (k ∷ rows_from (k + 1) values))) f
        ∙ ap (λ w. w ∷ map (λ row. get_or all row []) (rows_from (k + 1) values)) here ∙ ap (λ vs. v ∷ vs) rest
        ∙ sym (ap (λ (t : Bool). cond (not t) (v ∷ long_values values) (long_values values)) f)

pub rows_are_long : (values : List (List ℕ)) → map (λ row. get_or values row []) (memo_rows values) ≡ long_values values
rows_are_long values = ap (map (λ row. get_or values row [])) (memo_rows-from values) ∙ values_behind values values 0 refl

less : (end rows least low : ℕ) (memos : List Memo) → low ≤ least → AreMemos end rows least memos → AreMemos end rows low memos
less end rows least low [] p h = tt
less end rows least low (m ∷ memos) p h = ((let q = h.0 in omega (arith, p, q)), h.1, h.2, h.3, h.4, h.5)

abbrev block : Span → List ℕ → Block
block span bytes = record { span = span; bytes = bytes }

not_short : (v : List ℕ) → is_short v ≡ false → 512 < length v
not_short v f = leb-false (length v) 512 f

pub memos_fit : (end : ℕ) (values : List (List ℕ)) (k rows : ℕ) (memos : List Span) → rows ≡ k + length values → All (λ v. length v ≤ max_bytes) values → length memos ≡ length (long_values values)
    → All (IsSited end) (blocks_at memos (long_values values)) → AreMemos end rows k (memos_at (rows_from k values) memos)
unfolding rows_from
memos_fit end [] k rows memos e fit long sited = tt
memos_fit end (v ∷ values) k rows memos e fit long sited = by_size (is_short v) refl (λ ms l s. memos_fit end values (k + 1) rows ms (omega (arith, e)) (All-tail (λ v. length v ≤ max_bytes) v values fit) l s)
  where
    longs : (b : Bool) → is_short v ≡ b → long_values (v ∷ values) ≡ cond (not b) (v ∷ long_values values) (long_values values)
    longs b e = ap (λ (t : Bool). cond (not t) (v ∷ long_values values) (long_values values)) e

    by_size : (b : Bool) → is_short v ≡ b
        → ((ms : List Span) → length ms ≡ length (long_values values) → All (IsSited end) (blocks_at ms (long_values values)) → AreMemos end rows (k + 1) (memos_at (rows_from (k + 1) values) ms))
        → AreMemos end rows k (memos_at (cond (is_short v) (rows_from (k + 1) values) (k ∷ rows_from (k + 1) values)) memos)
    by_size true f rest =
        subst (λ (t : Bool). AreMemos end rows k (memos_at (cond t (rows_from (k + 1) values) (k ∷ rows_from (k + 1) values)) memos)) (sym f)
        (less end rows (k + 1) k (memos_at (rows_from (k + 1) values) memos) (omega arith)
        (rest memos (long ∙ ap length (longs true f)) (subst (λ vs. All (IsSited end) (blocks_at memos vs)) (longs true f) sited)))
    by_size false f rest =
        subst (λ (t : Bool). AreMemos end rows k (memos_at (cond t (rows_from (k + 1) values) (k ∷ rows_from (k + 1) values)) memos)) (sym f)
        (one memos (long ∙ ap length (longs false f)) (subst (λ vs. All (IsSited end) (blocks_at memos vs)) (longs false f) sited) rest)
      where
        one : (ms : List Span) → length ms ≡ length (v ∷ long_values values) → All (IsSited end) (blocks_at ms (v ∷ long_values values))
            → ((ms : List Span) → length ms ≡ length (long_values values) → All (IsSited end) (blocks_at ms (long_values values)) → AreMemos end rows (k + 1) (memos_at (rows_from (k + 1) values) ms))
            → AreMemos end rows k (memos_at (k ∷ rows_from (k + 1) values) ms)
        one [] l s rest = absurd (omega (arith, l))
        one (m ∷ ms) l s rest =
            let big : 512 < length v = not_short v f in
            let size : length v ≤ max_bytes = All-head (λ v. length v ≤ max_bytes) v values fit in
            ⊎_elim
            (λ (none : block m v ≡ no_block). let z = ap (λ (b : Block). length b.bytes) none in absurd (omega (arith, big, z)))
            (λ (site : IsBlockWithin end (block m v)).
            let n = site.len in (
              omega arith,
              omega (arith, e),
              site.site,
              omega (arith, n, big),
              omega (arith, n, size),
              rest ms (omega (arith, l)) (All-tail (IsSited end) (block m v) (blocks_at ms (long_values values)) s),
            ))
            (All-head (IsSited end) (block m v) (blocks_at ms (long_values values)) s)

-- there are as many rows of memos as memos
pub rows_long : (k : ℕ) (values : List (List ℕ)) → length (rows_from k values) ≡ length (long_values values)
unfolding rows_from
rows_long k [] = refl
rows_long k (v ∷ values) = by_size (is_short v) refl (rows_long (k + 1) values)
  where
    by_size : (b : Bool) → is_short v ≡ b → length (rows_from (k + 1) values) ≡ length (long_values values)
        → length (cond (is_short v) (rows_from (k + 1) values) (k ∷ rows_from (k + 1) values)) ≡ length (cond (not (is_short v)) (v ∷ long_values values) (long_values values))
    by_size true e rest =
        ap (λ (t : Bool). length (cond t (rows_from (k + 1) values) (k ∷ rows_from (k + 1) values))) e ∙ rest
        ∙ sym (ap (λ (t : Bool). length (cond (not t) (v ∷ long_values values) (long_values values))) e)
    by_size false e rest =
        ap (λ (t : Bool). length (cond t (rows_from (k + 1) values) (k ∷ rows_from (k + 1) values))) e ∙ ap suc rest
        ∙ sym (ap (λ (t : Bool). length (cond (not t) (v ∷ long_values values) (long_values values))) e)
