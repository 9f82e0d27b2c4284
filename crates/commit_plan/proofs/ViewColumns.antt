-- The plain columns of views are those of their tables, and what is due of them is due of their leaves.
use Rattle.std.proofs.Common.{◌≡◌, ℕ, ◌+◌, ◌<◌, ◌≤◌, List, [], ◌∷◌, ◌++◌, length, get_or, take, map, cond, None, Some, refl, ap, sym, subst, ◌∙◌, append-nil}
use Rattle.std.specs.List.{filter, flat_map}
use Rattle.std.proofs.lemmas.Grind.{flat_map-append}
use Rattle.std.proofs.lemmas.List.{take_all, take_more}
use Rattle.std.proofs.lemmas.List.Elements.{filter-append}
use Rattle.mk_value.specs.declared.span.Span.{Span}
use Rattle.mk_value.specs.Heading.{Domain}
use Rattle.mk_value.specs.Tables.{IsPlainDomain}
use Rattle.bit_pack.specs.Packed.{packed}
use Rattle.int_col.specs.Numbers.{Numbers}
use Rattle.bytes_col.specs.Strings.{Strings, string_blocks}
use Rattle.bytes_col.specs.declared.home.BytesHome.{BytesHome}
use Rattle.tables.specs.Homes.{PlainColumn}
use Rattle.tables.specs.Tables.{StoredTable}
use Rattle.tables.specs.Columns.{integers, texts, home_of, home_of_numbers, home_of_strings, column_values, IsColumnOf}
use Rattle.tables.specs.Blocks.{has_home, plain_columns}
use Rattle.tables.specs.Rests.{blocks, blocks_of}
use Rattle.view_store.specs.Views.{NamedTable}
use Rattle.recovery.specs.Commits.{plain_views}
use Rattle.commit_plan.specs.Following.{blocks_due, due_of}
use Rattle.commit_plan.specs.declared.leaves.Leaf.{Leaf}
use Rattle.commit_plan.specs.declared.leaves.Leaf.TheVariants.{Ints, Blobs}
use Rattle.commit_plan.specs.Leaves.{AreLeaves, Gains, homes_in}
use Rattle.commit_plan.specs.Placing.{has_bytes}
use Rattle.commit_plan.specs.Plain.{plain_tables}
use Rattle.commit_plan.specs.Settling.{column_due, stored_blocks}
use Rattle.commit_plan.proofs.DueBlocks.{due_is, one_due}
use Rattle.commit_plan.proofs.Plain.{numbers_kind, plain_one, strings_kind}

pub tables_of_views : (views : List NamedTable) → plain_tables (map (λ v. v.table) views) ≡ plain_views views
tables_of_views [] = refl
tables_of_views (v ∷ views) = ap (λ cs. plain_columns v.table ++ cs) (tables_of_views views)

pub leaves_together : (views : List NamedTable) (tables : List StoredTable) (k : ℕ) (leaves : List Leaf) → tables ≡ map (λ v. v.table) views → length tables ≤ k → Gains (plain_tables (take k tables)) [] leaves → AreLeaves (plain_views views) leaves
leaves_together views tables k leaves same p h =
    let all = ap plain_tables (take_all k tables p ∙ same) ∙ tables_of_views views in
    let found = subst (λ cs. Gains cs [] leaves) all h in
    subst (AreLeaves (plain_views views)) (sym found.added) found.are

-- What leaves are due, and the spans of their homes that have bytes.
abbrev pub leaf_spans : Leaf → List Span
leaf_spans leaf = filter has_bytes (homes_in leaf)

spans_filtered : (leaves : List Leaf) → flat_map leaf_spans leaves ≡ filter has_bytes (flat_map homes_in leaves)
spans_filtered [] = refl
spans_filtered (l ∷ leaves) = ap (λ ss. leaf_spans l ++ ss) (spans_filtered leaves) ∙ sym (filter-append has_bytes (homes_in l) (flat_map homes_in leaves))

pub leaves_used : (columns : List PlainColumn) (leaves : List Leaf) → AreLeaves columns leaves → flat_map leaf_spans leaves ≡ filter has_bytes (blocks columns)
leaves_used columns leaves are = spans_filtered leaves ∙ ap (filter has_bytes) are.homes

-- One leaf more.
pub flat_more : {X : Type 0} (f : Leaf → List X) (leaves : List Leaf) (k : ℕ) (leaf : Leaf) → k < length leaves → leaf ≡ get_or leaves k leaf → flat_map f (take (k + 1) leaves) ≡ flat_map f (take k leaves) ++ f leaf
flat_more f leaves k leaf p at =
    ap (flat_map f) (take_more leaves k leaf p ∙ ap (λ x. take k leaves ++ x ∷ []) (sym at)) ∙ flat_map-append f (take k leaves) (leaf ∷ []) ∙ ap (λ xs. flat_map f (take k leaves) ++ xs) (append-nil (f leaf))

-- what a column with a home is due, and one without
pub numbers_homed : (c : Numbers) (block : Span) → c.home ≡ Some block → column_due (integers c) ≡ []
numbers_homed c block is = ap (λ h. cond (has_home (home_of_numbers h)) [] (stored_blocks (integers c))) is

pub numbers_homeless : (c : Numbers) → c.home ≡ None → column_due (integers c) ≡ packed c.values ∷ []
numbers_homeless c is = ap (λ h. cond (has_home (home_of_numbers h)) [] (stored_blocks (integers c))) is

pub strings_homed : (c : Strings) (home : BytesHome) → c.home ≡ Some home → column_due (texts c) ≡ []
strings_homed c home is = ap (λ h. cond (has_home (home_of_strings h)) [] (stored_blocks (texts c))) is

pub strings_homeless : (c : Strings) → c.home ≡ None → column_due (texts c) ≡ string_blocks c.values
strings_homeless c is = ap (λ h. cond (has_home (home_of_strings h)) [] (stored_blocks (texts c))) is
