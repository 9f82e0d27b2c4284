-- What is read of the tables of a pool.
use Rattle.std.proofs.Common.{◌≡◌, ℕ, zero, suc, ◌+◌, ◌-◌, ◌*◌, ◌<◌, ◌≤◌, List, [], ◌∷◌, length, get_or, take, drop, All, refl, ap, sym, subst, ◌∙◌, arith}
use Rattle.std.proofs.lemmas.List.{drop-drop, length-drop, length-take-le}
use Rattle.mk_value.specs.declared.span.Span.{Span}
use Rattle.mk_value.specs.Heading.{Attribute}
use Rattle.mk_value.specs.Data.{Datum, AreRowsOf, IsRowOf}
use Rattle.tables.specs.Pools.{AreEnds, IsPool, blocks_count, no_table, part_at, parts, parts_from}
use Rattle.tables.specs.Slices.{sliced}
use Rattle.tables.specs.Tables.{StoredTable, IsTable}
use Rattle.tables.proofs.Slices.{sliced_at}

pub length-parts_from : (schema : List Attribute) (rows : List (List Datum)) (from : ℕ) (ends : List ℕ) (blocks : List Span) → length (parts_from schema rows from ends blocks) ≡ length ends
length-parts_from schema rows from [] blocks = refl
length-parts_from schema rows from (end ∷ ends) blocks = ap suc (length-parts_from schema rows end ends (drop (blocks_count schema) blocks))

pub one_more : (n w : ℕ) → w + n * w ≡ suc n * w
one_more n w = omega arith

pub part_read : (schema : List Attribute) (rows : List (List Datum)) (from : ℕ) (ends : List ℕ) (blocks : List Span) (n : ℕ) (d : StoredTable) → n < length ends
    → get_or (parts_from schema rows from ends blocks) n d ≡ part_at schema rows (get_or (from ∷ ends) n 0) (get_or ends n 0) (drop (n * blocks_count schema) blocks)
part_read schema rows from [] blocks n d p = absurd (omega arith)
part_read schema rows from (end ∷ ends) blocks zero d p =
    let none : 0 ≡ 0 * blocks_count schema = omega arith in
    ap (λ m. part_at schema rows from end (drop m blocks)) none
part_read schema rows from (end ∷ ends) blocks (suc n) d p =
    part_read schema rows end ends (drop (blocks_count schema) blocks) n d (omega arith)
    ∙ ap (part_at schema rows (get_or (end ∷ ends) n 0) (get_or ends n 0))
    (drop-drop (n * blocks_count schema) (blocks_count schema) blocks ∙ ap (λ m. drop m blocks) (one_more n (blocks_count schema)))

ends_within : (from : ℕ) (ends : List ℕ) (most : ℕ) → AreEnds from ends most → from ≤ most
ends_within from [] most h = h
ends_within from (end ∷ ends) most h = let first = h.0 in let rest = ends_within end ends most h.1 in omega (arith, first, rest)

-- the rows of a table are some of those of all
pub record IsBetween (from end most : ℕ) : Type 0 where
  pub ordered : from ≤ end
  pub within : end ≤ most

pub end_read : (from : ℕ) (ends : List ℕ) (most n : ℕ) → AreEnds from ends most → n < length ends → IsBetween (get_or (from ∷ ends) n 0) (get_or ends n 0) most
end_read from [] most n h p = absurd (omega arith)
end_read from (end ∷ ends) most zero h p = record { ordered = h.0; within = ends_within end ends most h.1 }
end_read from (end ∷ ends) most (suc n) h p = end_read end ends most n h.1 (omega arith)

pub length-sliced : {X : Type 0} (from count : ℕ) (xs : List X) → from + count ≤ length xs → length (sliced from count xs) ≡ count
length-sliced from count xs p = length-take-le count (drop from xs) (omega (arith, length-drop from xs))

-- they are rows of the schema too
pub rows_sliced : (from count : ℕ) (rows : List (List Datum)) (schema : List Attribute) → from + count ≤ length rows → AreRowsOf rows schema → AreRowsOf (sliced from count rows) schema
rows_sliced from count rows schema p h =
    let long = length-sliced from count rows p in
    let few = h.few in
    record {
      few = omega (arith, long, few, p);
      whole = λ i d q. let within : i < count = omega (arith, long, q) in subst (λ r. IsRowOf r schema) (sym (sliced_at from count i rows d within)) (h.whole (from + i) d (omega arith));
    }

-- a table of a pool, and where its rows are
pub record IsFound (t : StoredTable) (from end : ℕ) (part : StoredTable) : Type 0 where
  pub between : IsBetween from end (length t.rows)
  pub rows : sliced from (end - from) t.rows ≡ part.rows
  pub count : end - from ≡ length part.rows
  pub schema : t.schema ≡ part.schema
  pub whole : IsTable part

pub found : (t : StoredTable) (ends : List ℕ) (blocks : List Span) (n : ℕ) (d : StoredTable) → IsTable t → IsPool t ends blocks → n < length (parts t ends blocks)
    → IsFound t (get_or (0 ∷ ends) n 0) (get_or ends n 0) (get_or (parts t ends blocks) n d)
found t ends blocks n d whole pool p =
    let long = length-parts_from t.schema t.rows 0 ends blocks in
    let q : n < length ends = omega (arith, long, p) in
    let from = get_or (0 ∷ ends) n 0 in
    let end = get_or ends n 0 in
    let between = end_read 0 ends (length t.rows) n pool.ascend q in
    let ordered = between.ordered in
    let within = between.within in
    let fits : from + (end - from) ≤ length t.rows = omega (arith, ordered, within) in
    let rows = length-sliced from (end - from) t.rows fits in
    let here : IsFound t from end (part_at t.schema t.rows from end (drop (n * blocks_count t.schema) blocks)) = record {
      between = between;
      rows = refl;
      count = sym rows;
      schema = refl;
      whole = record { schema = whole.schema; rows = rows_sliced from (end - from) t.rows t.schema fits whole.rows };
    } in
    subst (IsFound t from end) (sym (part_read t.schema t.rows 0 ends blocks n d q)) here

pub number_within : (t : StoredTable) (ends : List ℕ) (blocks : List Span) (ts : List StoredTable) (n : ℕ) → parts t ends blocks ≡ ts → n < length ts → n < length ends
number_within t ends blocks ts n view p = let same = ap length view in omega (arith, same, length-parts_from t.schema t.rows 0 ends blocks)

-- the same, by what is seen of the pool
pub found_in : (t : StoredTable) (ends : List ℕ) (blocks : List Span) (ts : List StoredTable) (n : ℕ) → parts t ends blocks ≡ ts → IsTable t → IsPool t ends blocks → n < length ts
    → IsFound t (get_or (0 ∷ ends) n 0) (get_or ends n 0) (get_or ts n no_table)
found_in t ends blocks ts n view whole pool p =
    subst (λ us. IsFound t (get_or (0 ∷ ends) n 0) (get_or ends n 0) (get_or us n no_table)) view
    (found t ends blocks n no_table whole pool (let same = ap length view in omega (arith, same)))

-- the same, at the places that are found
pub found_at : (t : StoredTable) (ends items others : List ℕ) (blocks : List Span) (ts : List StoredTable) (n from end : ℕ) → from ≡ get_or (0 ∷ items) n 0 → items ≡ ends → end ≡ get_or others n 0 → others ≡ ends
    → parts t ends blocks ≡ ts → IsTable t → IsPool t ends blocks → n < length ts → IsFound t from end (get_or ts n no_table)
found_at t ends items others blocks ts n from end starts same stops also view whole pool p =
    let first = starts ∙ ap (λ (es : List ℕ). get_or (0 ∷ es) n 0) same in
    let last = stops ∙ ap (λ (es : List ℕ). get_or es n 0) also in
    subst (λ e. IsFound t from e (get_or ts n no_table)) (sym last)
    (subst (λ f. IsFound t f (get_or ends n 0) (get_or ts n no_table)) (sym first) (found_in t ends blocks ts n view whole pool p))

-- all have the one schema
pub alike : (t : StoredTable) (from : ℕ) (ends : List ℕ) (blocks : List Span) → All (λ (u : StoredTable). u.schema ≡ t.schema) (parts_from t.schema t.rows from ends blocks)
alike t from ends blocks n d p =
    let long = length-parts_from t.schema t.rows from ends blocks in
    ap (λ (u : StoredTable). u.schema) (part_read t.schema t.rows from ends blocks n d (omega (arith, long, p)))
