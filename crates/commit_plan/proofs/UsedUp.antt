-- What spans take up, added one after another.
use Rattle.std.proofs.Common.{◌≡◌, ℕ, ◌+◌, ◌≤◌, List, [], ◌∷◌, ◌++◌, length, take, map, ap, sym, subst, ◌∙◌, arith, length-append}
use Rattle.std.specs.List.{filter}
use Rattle.std.proofs.lemmas.Grind.{flat_map-append}
use Rattle.std.proofs.lemmas.List.{take_all}
use Rattle.std.proofs.lemmas.List.Elements.{filter-append}
use Rattle.std.proofs.lemmas.List.Sums.{sum_by-append}
use Rattle.mk_value.specs.declared.span.Span.{Span}
use Rattle.free_space.specs.Extents.{extent_len}
use Rattle.tables.specs.Homes.{PlainColumn}
use Rattle.tables.specs.Rests.{blocks, blocks_of}
use Rattle.tables.specs.Tables.{StoredTable}
use Rattle.view_store.specs.Views.{NamedTable}
use Rattle.recovery.specs.Commits.{Commit, IsCommit, plain_views}
use Rattle.commit_plan.specs.declared.measuring.Usage.{Usage}
use Rattle.commit_plan.specs.Following.{commit_spans}
use Rattle.commit_plan.specs.Placing.{has_bytes}
use Rattle.commit_plan.specs.Plain.{plain_tables}
use Rattle.commit_plan.specs.Usage.{Adds, block_count, extents_sum, held, usage_of}
use Rattle.commit_plan.proofs.UsedSpans.{commit_spans-are}
use Rattle.commit_plan.proofs.ViewColumns.{tables_of_views}

-- what columns add
abbrev pub AddsOf : List PlainColumn → Usage → Usage → Type 0
AddsOf columns old new = Adds (blocks columns) old new

sums : (xs ys : List Span) → extents_sum (xs ++ ys) ≡ extents_sum xs + extents_sum ys
sums xs ys = sum_by-append (λ (s : Span). extent_len s.len) xs ys

counts : (xs ys : List Span) → block_count (xs ++ ys) ≡ block_count xs + block_count ys
counts xs ys = ap length (filter-append has_bytes xs ys) ∙ length-append (filter has_bytes xs) (filter has_bytes ys)

pub adds_both : (xs ys : List Span) (old mid new : Usage) → Adds xs old mid → Adds ys mid new → Adds (xs ++ ys) old new
adds_both xs ys old mid new one two = record {
  bytes = (let a = one.bytes in let b = two.bytes in let s = sums xs ys in omega (arith, a, b, s));
  blocks = (let a = one.blocks in let b = two.blocks in let s = counts xs ys in omega (arith, a, b, s));
}

pub adds_joins : (xs ys : List PlainColumn) (old mid new : Usage) → AddsOf xs old mid → AddsOf ys mid new → AddsOf (xs ++ ys) old new
adds_joins xs ys old mid new one two =
    subst (λ ss. Adds ss old new) (sym (flat_map-append (λ (c : PlainColumn). blocks_of c.home) xs ys)) (adds_both (blocks xs) (blocks ys) old mid new one two)

-- all tables of views
pub adds_all_views : (views : List NamedTable) (tables : List StoredTable) (k : ℕ) (old new : Usage) → tables ≡ map (λ v. v.table) views → length tables ≤ k → AddsOf (plain_tables (take k tables)) old new → AddsOf (plain_views views) old new
adds_all_views views tables k old new same p h =
    subst (λ cs. AddsOf cs old new) (ap plain_tables (take_all k tables p ∙ same) ∙ tables_of_views views) h

-- all blocks of a commit
pub measured : (c : Commit) (mid new : Usage) → IsCommit c → AddsOf (plain_views c.views) (record { bytes = 0; blocks = 0 }) mid → Adds (c.dir ∷ []) mid new → new ≡ usage_of (commit_spans c)
measured c mid new whole one two =
    let spans = blocks (plain_views c.views) ++ c.dir ∷ [] in
    let both = adds_both (blocks (plain_views c.views)) (c.dir ∷ []) (record { bytes = 0; blocks = 0 }) mid new one two in
    let bytes : new.bytes ≡ held (extents_sum spans) = (let a = both.bytes in omega (arith, a)) in
    let count : new.blocks ≡ held (block_count spans) = (let a = both.blocks in omega (arith, a)) in
    ap (λ b. let u : Usage = record { bytes = b; blocks = new.blocks } in u) bytes
    ∙ ap (λ k. let u : Usage = record { bytes = held (extents_sum spans); blocks = k } in u) count
    ∙ sym (ap usage_of (commit_spans-are c whole))
