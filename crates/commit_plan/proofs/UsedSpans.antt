-- What a whole commit uses of its file, without the spans of no bytes.
use Rattle.std.proofs.Common.{◌≡◌, ℕ, ◌<◌, ◌^◌, ⊎_elim, List, [], ◌∷◌, ◌++◌, Bool, true, false, cond, All, refl, ap, sym, subst, ◌∙◌, arith}
use Rattle.std.specs.Prelude.{IsPermutation}
use Rattle.std.specs.List.{filter, flat_map}
use Rattle.std.proofs.lemmas.Bool.{ltb-false}
use Rattle.std.proofs.lemmas.Bool.Decides.{Decides-ltb}
use Rattle.std.proofs.lemmas.List.{map-append}
use Rattle.std.proofs.lemmas.List.Elements.{All-cons, All-head, All-map, All-nil, All-tail, All-weaker}
use Rattle.std.proofs.lemmas.List.Kept.{AllPairs-filter}
use Rattle.mk_value.specs.declared.span.Span.{Span}
use Rattle.free_space.specs.Extents.{AreApart, IsBlock, Meets, extent_len}
use Rattle.free_space.proofs.Placing.{extent_of_none}
use Rattle.commit_writes.specs.Blocks.{Block, IsBlockWithin, IsSited, no_block}
use Rattle.tables.specs.Rests.{blocks}
use Rattle.recovery.specs.Commits.{Commit, IsCommit, column_blocks, commit_blocks, dir_block, plain_views}
use Rattle.recovery.proofs.PlainParts.{columns_spans, views_parts}
use Rattle.commit_plan.specs.Following.{commit_spans}
use Rattle.commit_plan.specs.Placing.{LeaveSame, has_bytes}
use Rattle.commit_plan.proofs.Placed.{leave_joins, leave_permuted, leave_with}

pub commit_spans-are : (c : Commit) → IsCommit c → commit_spans c ≡ blocks (plain_views c.views) ++ c.dir ∷ []
commit_spans-are c whole =
    map-append (λ b. b.span) (flat_map column_blocks (plain_views c.views)) (dir_block c ∷ [])
    ∙ ap (λ ss. ss ++ c.dir ∷ []) (columns_spans (plain_views c.views) (views_parts c.views whole.views.whole whole.shaped))

all_some : (P : Span → Type 0) (spans : List Span) → All (λ s. 0 < s.len → P s) spans → All P (filter has_bytes spans)
all_some P [] h = All-nil P
all_some P (s ∷ spans) h = by_test (has_bytes s) refl (all_some P spans (All-tail (λ s. 0 < s.len → P s) s spans h))
  where
    by_test : (t : Bool) → has_bytes s ≡ t → All P (filter has_bytes spans) → All P (cond (has_bytes s) (s ∷ filter has_bytes spans) (filter has_bytes spans))
    by_test true e rest =
        subst (λ (t : Bool). All P (cond t (s ∷ filter has_bytes spans) (filter has_bytes spans))) (sym e)
        (All-cons P s (filter has_bytes spans) (All-head (λ s. 0 < s.len → P s) s spans h ((Decides-ltb 0 s.len).0 e)) rest)
    by_test false e rest = subst (λ (t : Bool). All P (cond t (s ∷ filter has_bytes spans) (filter has_bytes spans))) (sym e) rest

site_block : (end : ℕ) (b : Block) → end < 2 ^ 64 → IsSited end b → 0 < b.span.len → IsBlock b.span
site_block end b few sited some = ⊎_elim
    (λ (none : b ≡ no_block). let z = ap (λ (x : Block). x.span.len) none in absurd (omega (arith, some, z)))
    (λ (site : IsBlockWithin end b). record { aligned = site.site.aligned; not_empty = some; end_fits = let w = site.site.within in omega (arith, w, few) })
    sited

pub used_are_blocks : (c : Commit) → IsCommit c → All IsBlock (filter has_bytes (commit_spans c))
used_are_blocks c whole =
    all_some IsBlock (commit_spans c)
    (All-map (λ s. 0 < s.len → IsBlock s) (λ b. b.span) (commit_blocks c) (All-weaker (IsSited c.end) (λ b. 0 < b.span.len → IsBlock b.span) (λ b h some. site_block c.end b whole.end_fits h some) (commit_blocks c) whole.sited))

pub used_apart : (c : Commit) → IsCommit c → AreApart (filter has_bytes (commit_spans c))
used_apart c whole = AllPairs-filter (λ one other. ¬ Meets one other) has_bytes (commit_spans c) whole.apart

meets_none : (s o : Span) → s.len ≡ 0 → ¬ Meets s o
meets_none s o e m = let a = m.1.0 in let b = m.1.1 in let z = ap extent_len e ∙ extent_of_none in absurd (omega (arith, a, b, z))

not_some : (s : Span) → has_bytes s ≡ false → s.len ≡ 0
not_some s e = (let by : s.len ≡ 0 = omega (arith, ltb-false 0 s.len e) in by)

pub leave_filtered : (spans : List Span) → LeaveSame (filter has_bytes spans) spans
leave_filtered [] = record { there = λ s h. h; back = λ s h. h }
leave_filtered (s ∷ spans) = by_test (has_bytes s) refl (leave_filtered spans)
  where
    by_test : (t : Bool) → has_bytes s ≡ t → LeaveSame (filter has_bytes spans) spans → LeaveSame (cond (has_bytes s) (s ∷ filter has_bytes spans) (filter has_bytes spans)) (s ∷ spans)
    by_test true e rest = subst (λ (t : Bool). LeaveSame (cond t (s ∷ filter has_bytes spans) (filter has_bytes spans)) (s ∷ spans)) (sym e) (leave_with s (filter has_bytes spans) spans rest)
    by_test false e rest = subst (λ (t : Bool). LeaveSame (cond t (s ∷ filter has_bytes spans) (filter has_bytes spans)) (s ∷ spans)) (sym e) (record {
      there = λ o h. All-cons (λ x. ¬ Meets x o) s spans (meets_none s o (not_some s e)) (rest.there o h);
      back = λ o h. rest.back o (All-tail (λ x. ¬ Meets x o) s spans h);
    })

pub leave_beside : (c : Commit) (spans used : List Span) → spans ≡ filter has_bytes (commit_spans c) → IsPermutation spans used → LeaveSame used (commit_spans c)
leave_beside c spans used is same =
    let found = leave_permuted spans used same in
    leave_joins used spans (commit_spans c) (record { there = found.back; back = found.there }) (subst (λ ss. LeaveSame ss (commit_spans c)) (sym is) (leave_filtered (commit_spans c)))
