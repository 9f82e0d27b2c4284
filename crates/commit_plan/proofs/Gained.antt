-- Leaves that are added behind others.
use Rattle.std.proofs.Common.{◌≡◌, ℕ, suc, ◌+◌, ◌≤◌, List, [], ◌∷◌, ◌++◌, length, take, drop, All, cond, true, Bool, refl, ap, sym, subst, ◌∙◌, arith, append_assoc, append-nil}
use Rattle.std.specs.List.{flat_map}
use Rattle.std.proofs.lemmas.Grind.{flat_map-append}
use Rattle.std.proofs.lemmas.List.{length-drop, take-append-drop}
use Rattle.std.proofs.lemmas.List.Elements.{All-head, All-tail}
use Rattle.mk_value.specs.declared.span.Span.{Span}
use Rattle.mk_value.specs.Heading.{Attribute, Domain, heading_of}
use Rattle.mk_value.specs.Data.{Datum}
use Rattle.mk_value.specs.Tables.{IsPlainDomain}
use Rattle.int_col.specs.Numbers.{Numbers}
use Rattle.bytes_col.specs.Strings.{Strings}
use Rattle.tables.specs.Homes.{PlainColumn, column_homes, column_of}
use Rattle.tables.specs.Blocks.{blocks_of_values, is_homed, plain_columns, plain_from, plain_in}
use Rattle.tables.specs.Columns.{StoredColumn, integers, texts, home_of, column_values, IsColumnOf}
use Rattle.tables.specs.Cells.{IsWholeColumn}
use Rattle.tables.specs.Pools.{HasAllHomes, IsPlacedAt, block_count, blocks_count, home_at, homes_at}
use Rattle.tables.specs.Rests.{blocks, blocks_of}
use Rattle.tables.specs.Tables.{StoredTable}
use Rattle.commit_plan.specs.declared.leaves.Leaf.{Leaf}
use Rattle.commit_plan.specs.Following.{blocks_due, due_of}
use Rattle.commit_plan.specs.Leaves.{AreLeaves, Gains, due_in, homes_in}
use Rattle.commit_plan.specs.Plain.{plain_of}
use Rattle.commit_plan.specs.Settling.{column_due}
use Rattle.commit_plan.proofs.DueBlocks.{due_is}
use Rattle.commit_plan.proofs.Plain.{numbers_kind, plain_one, strings_kind}

pub gains_none : (leaves : List Leaf) → Gains [] leaves leaves
gains_none leaves = record { more = []; added = sym (append-nil leaves); are = record { due = refl; homes = refl } }

pub gains_joins : (xs ys : List PlainColumn) (old mid new : List Leaf) → Gains xs old mid → Gains ys mid new → Gains (xs ++ ys) old new
gains_joins xs ys old mid new one two = record {
  more = one.more ++ two.more;
  added = two.added ∙ ap (λ l. l ++ two.more) one.added ∙ append_assoc old one.more two.more;
  are = record {
    due = flat_map-append due_in one.more two.more ∙ ap (λ bs. bs ++ flat_map due_in two.more) one.are.due ∙ ap (λ bs. blocks_due xs ++ bs) two.are.due ∙ sym (flat_map-append due_of xs ys);
    homes = flat_map-append homes_in one.more two.more ∙ ap (λ ss. ss ++ flat_map homes_in two.more) one.are.homes ∙ ap (λ ss. blocks xs ++ ss) two.are.homes ∙ sym (flat_map-append (λ c. blocks_of c.home) xs ys);
  };
}

-- one leaf of these columns
gains_one : (columns : List PlainColumn) (leaf : Leaf) (old new : List Leaf) → due_in leaf ≡ blocks_due columns → homes_in leaf ≡ blocks columns → new ≡ old ++ leaf ∷ [] → Gains columns old new
gains_one columns leaf old new due homes added = record {
  more = leaf ∷ [];
  added = added;
  are = record { due = append-nil (due_in leaf) ∙ due; homes = append-nil (homes_in leaf) ∙ homes };
}

-- one leaf of a whole column
gains_leaf : (e : Domain) (c : StoredColumn) (leaf : Leaf) (old new : List Leaf) → IsWholeColumn e c → IsPlainDomain e → due_in leaf ≡ column_due c → homes_in leaf ≡ blocks_of (home_of c) → new ≡ old ++ leaf ∷ [] → Gains (plain_of e c) old new
gains_leaf e c leaf old new whole kind due homes added =
    let n = length (column_values e c) in
    gains_one (plain_of e c) leaf old new
    (due ∙ sym (due_is n e c whole))
    (homes ∙ sym (append-nil (blocks_of (home_of c))) ∙ sym (ap blocks (plain_one n e c whole kind)))
    added

pub gains_ints : (e : Domain) (c : StoredColumn) (leaf : Leaf) (k : Numbers) (old new : List Leaf) → c ≡ integers k → due_in leaf ≡ column_due (integers k) → homes_in leaf ≡ blocks_of (home_of (integers k)) → IsWholeColumn e c → new ≡ old ++ leaf ∷ [] → Gains (plain_of e c) old new
gains_ints e c leaf k old new is due homes whole added =
    gains_leaf e c leaf old new whole (numbers_kind (length (column_values e c)) e k (subst (λ x. IsColumnOf (length (column_values e c)) e x) is whole)) (due ∙ sym (ap column_due is)) (homes ∙ sym (ap (λ x. blocks_of (home_of x)) is)) added

pub gains_blobs : (e : Domain) (c : StoredColumn) (leaf : Leaf) (k : Strings) (old new : List Leaf) → c ≡ texts k → due_in leaf ≡ column_due (texts k) → homes_in leaf ≡ blocks_of (home_of (texts k)) → IsWholeColumn e c → new ≡ old ++ leaf ∷ [] → Gains (plain_of e c) old new
gains_blobs e c leaf k old new is due homes whole added =
    gains_leaf e c leaf old new whole (strings_kind (length (column_values e c)) e k (subst (λ x. IsColumnOf (length (column_values e c)) e x) is whole)) (due ∙ sym (ap column_due is)) (homes ∙ sym (ap (λ x. blocks_of (home_of x)) is)) added

-- columns that have a home are due nothing
pub nothing_due : (columns : List PlainColumn) → All (λ c. is_homed c ≡ true) columns → blocks_due columns ≡ []
nothing_due [] homed = refl
nothing_due (c ∷ columns) homed =
    ap (λ (b : Bool). cond b [] (blocks_of_values c.domain c.values) ++ blocks_due columns) (All-head (λ c. is_homed c ≡ true) c columns homed)
    ∙ nothing_due columns (All-tail (λ c. is_homed c ≡ true) c columns homed)

-- the blocks of a column that has the home of the first of some
one_placed : (e : Domain) (spans : List Span) (values : List Datum) → block_count e ≤ length spans → blocks (plain_in (home_at e spans) e values) ≡ take (block_count e) spans
one_placed Domain.integer [] values p = absurd (omega (arith, p))
one_placed Domain.integer (s ∷ spans) values p = refl
one_placed Domain.long [] values p = absurd (omega (arith, p))
one_placed Domain.long (s ∷ spans) values p = refl
one_placed Domain.text [] values p = absurd (omega (arith, p))
one_placed Domain.text (s ∷ []) values p = absurd (omega (arith, p))
one_placed Domain.text (s ∷ t ∷ spans) values p = refl
one_placed Domain.bytes [] values p = absurd (omega (arith, p))
one_placed Domain.bytes (s ∷ []) values p = absurd (omega (arith, p))
one_placed Domain.bytes (s ∷ t ∷ spans) values p = refl
one_placed (Domain.relation h) spans values p = refl

none_left : (spans : List Span) → length spans ≡ 0 → [] ≡ spans
none_left [] e = refl
none_left (s ∷ spans) e = absurd (omega (arith, e))

-- and those of the columns of a table
all_placed : (schema : List Attribute) (spans : List Span) (k : ℕ) (rows : List (List Datum)) → length spans ≡ blocks_count schema → blocks (plain_from (column_homes (homes_at schema spans)) (heading_of schema) k rows) ≡ spans
all_placed [] spans k rows long = none_left spans long
all_placed (a ∷ schema) spans k rows long =
    let left = length-drop (block_count a.domain) spans in
    flat_map-append (λ c. blocks_of c.home) (plain_in (home_at a.domain spans) a.domain (column_of rows k)) (plain_from (column_homes (homes_at schema (drop (block_count a.domain) spans))) (heading_of schema) (k + 1) rows)
    ∙ ap (λ ss. ss ++ blocks (plain_from (column_homes (homes_at schema (drop (block_count a.domain) spans))) (heading_of schema) (k + 1) rows)) (one_placed a.domain spans (column_of rows k) (omega (arith, long)))
    ∙ ap (λ ss. take (block_count a.domain) spans ++ ss) (all_placed schema (drop (block_count a.domain) spans) (k + 1) rows (omega (arith, long, left)))
    ∙ take-append-drop (block_count a.domain) spans

pub placed_blocks : (t : StoredTable) (spans : List Span) → IsPlacedAt t spans → blocks (plain_columns t) ≡ spans
placed_blocks t spans placed = ap (λ u. blocks (plain_columns u)) placed.placed ∙ all_placed t.schema spans 0 t.rows placed.counted

-- the leaf of a table that has no columns of its own
pub gains_placed : (t : StoredTable) (spans : List Span) (leaf : Leaf) (old new : List Leaf) → IsPlacedAt t spans → due_in leaf ≡ [] → homes_in leaf ≡ spans → new ≡ old ++ leaf ∷ [] → Gains (plain_columns t) old new
gains_placed t spans leaf old new placed due homes added =
    gains_one (plain_columns t) leaf old new (due ∙ sym (nothing_due (plain_columns t) placed.homed)) (homes ∙ sym (placed_blocks t spans placed)) added
