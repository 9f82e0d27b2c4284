-- The tables of a pool are placed at their blocks, and so each of their columns has a home.
use Rattle.std.proofs.Common.{◌≡◌, ℕ, zero, suc, ◌+◌, ◌-◌, ◌*◌, ◌<◌, ◌≤◌, true, List, [], ◌∷◌, ◌++◌, length, get_or, take, drop, All, refl, ap, sym, subst, ◌∙◌, arith}
use Rattle.std.proofs.Math.Nat.{mul-le-mul_right}
use Rattle.std.proofs.lemmas.Nat.{mul-le}
use Rattle.std.proofs.lemmas.List.{drop-take, length-drop, length-take-le}
use Rattle.std.proofs.lemmas.List.Elements.{All-nil, All-cons, All-append}
use Rattle.mk_value.specs.declared.span.Span.{Span}
use Rattle.mk_value.specs.Heading.{Domain, Attribute, IsHeading, heading_of}
use Rattle.mk_value.specs.Data.{Datum}
use Rattle.tables.specs.Blocks.{is_homed, plain_from, plain_in}
use Rattle.tables.specs.Homes.{Home, PlainColumn, column_homes, column_of, numbers, strings}
use Rattle.tables.specs.Pools.{HasAllHomes, IsPlacedAt, IsPool, block_count, blocks_count, home_at, homed_table, homes_at, no_table, part_at, parts}
use Rattle.tables.specs.Shapes.{AreHomesOf, HasHomes, IsHomeOf}
use Rattle.tables.specs.Slices.{sliced}
use Rattle.tables.specs.Tables.{StoredTable}
use Rattle.tables.proofs.Homed.{blocks_most}
use Rattle.tables.proofs.Pools.{length-parts_from, one_more, part_read}

-- a home has its blocks among the first of them already
home_taken : (e : Domain) (n : ℕ) (blocks : List Span) → block_count e ≤ n → home_at e (take n blocks) ≡ home_at e blocks
home_taken Domain.integer zero blocks p = absurd (omega arith)
home_taken Domain.integer (suc n) [] p = refl
home_taken Domain.integer (suc n) (b ∷ blocks) p = refl
home_taken Domain.long zero blocks p = absurd (omega arith)
home_taken Domain.long (suc n) [] p = refl
home_taken Domain.long (suc n) (b ∷ blocks) p = refl
home_taken Domain.text zero blocks p = absurd (omega arith)
home_taken Domain.text (suc zero) blocks p = absurd (omega arith)
home_taken Domain.text (suc (suc n)) [] p = refl
home_taken Domain.text (suc (suc n)) (a ∷ []) p = refl
home_taken Domain.text (suc (suc n)) (a ∷ b ∷ blocks) p = refl
home_taken Domain.bytes zero blocks p = absurd (omega arith)
home_taken Domain.bytes (suc zero) blocks p = absurd (omega arith)
home_taken Domain.bytes (suc (suc n)) [] p = refl
home_taken Domain.bytes (suc (suc n)) (a ∷ []) p = refl
home_taken Domain.bytes (suc (suc n)) (a ∷ b ∷ blocks) p = refl
home_taken (Domain.relation h) n blocks p = refl

drop_taken : (k n : ℕ) (blocks : List Span) → k ≤ n → drop k (take n blocks) ≡ take (n - k) (drop k blocks)
drop_taken k n blocks p =
    let split : n ≡ k + (n - k) = omega arith in
    ap (λ m. drop k (take m blocks)) split ∙ drop-take k (n - k) blocks

homes_taken : (schema : List Attribute) (n : ℕ) (blocks : List Span) → blocks_count schema ≤ n → homes_at schema (take n blocks) ≡ homes_at schema blocks
homes_taken [] n blocks p = refl
homes_taken (a ∷ schema) n blocks p =
    let k = block_count a.domain in
    ap (λ h. h ∷ homes_at schema (drop k (take n blocks))) (home_taken a.domain n blocks (omega arith))
    ∙ ap (λ bs. home_at a.domain blocks ∷ homes_at schema bs) (drop_taken k n blocks (omega arith))
    ∙ ap (λ hs. home_at a.domain blocks ∷ hs) (homes_taken schema (n - k) (drop k blocks) (omega arith))

-- such a column has a home
abbrev AreHomed : List PlainColumn → Type 0
AreHomed columns = All (λ c. is_homed c ≡ true) columns

one_homed : (c : PlainColumn) → is_homed c ≡ true → AreHomed (c ∷ [])
one_homed c h = All-cons (λ x. is_homed x ≡ true) c [] h (All-nil (λ x. is_homed x ≡ true))

home_homed : (e : Domain) (blocks : List Span) (values : List Datum) → IsHomeOf (home_at e blocks) e values → block_count e ≤ length blocks → AreHomed (plain_in (home_at e blocks) e values)
home_homed Domain.integer [] values shaped p = absurd (omega arith)
home_homed Domain.integer (b ∷ blocks) values shaped p = one_homed (record { domain = Domain.integer; values = values; home = numbers b }) refl
home_homed Domain.long [] values shaped p = absurd (omega arith)
home_homed Domain.long (b ∷ blocks) values shaped p = one_homed (record { domain = Domain.long; values = values; home = numbers b }) refl
home_homed Domain.text [] values shaped p = absurd (omega arith)
home_homed Domain.text (a ∷ []) values shaped p = absurd (omega arith)
home_homed Domain.text (a ∷ b ∷ blocks) values shaped p = one_homed (record { domain = Domain.text; values = values; home = strings a b [] }) refl
home_homed Domain.bytes [] values shaped p = absurd (omega arith)
home_homed Domain.bytes (a ∷ []) values shaped p = absurd (omega arith)
home_homed Domain.bytes (a ∷ b ∷ blocks) values shaped p = one_homed (record { domain = Domain.bytes; values = values; home = strings a b [] }) refl
home_homed (Domain.relation h) blocks values shaped p = absurd shaped

homes_homed : (schema : List Attribute) (blocks : List Span) (k : ℕ) (rows : List (List Datum)) → AreHomesOf (column_homes (homes_at schema blocks)) (heading_of schema) k rows → blocks_count schema ≤ length blocks
    → AreHomed (plain_from (column_homes (homes_at schema blocks)) (heading_of schema) k rows)
homes_homed [] blocks k rows shaped p = All-nil (λ c. is_homed c ≡ true)
homes_homed (a ∷ schema) blocks k rows shaped p =
    let rest = drop (block_count a.domain) blocks in
    All-append (λ c. is_homed c ≡ true) (plain_in (home_at a.domain blocks) a.domain (column_of rows k)) (plain_from (column_homes (homes_at schema rest)) (heading_of schema) (k + 1) rows)
    (home_homed a.domain blocks (column_of rows k) shaped.0 (omega arith))
    (homes_homed schema rest (k + 1) rows shaped.1 (omega (arith, length-drop (block_count a.domain) blocks)))

-- where there are blocks for all homes, each column has one
pub pool_homed : (schema : List Attribute) (rows : List (List Datum)) (blocks : List Span) → HasHomes (homed_table schema rows blocks) → blocks_count schema ≤ length blocks → HasAllHomes (homed_table schema rows blocks)
pool_homed schema rows blocks shaped p = homes_homed schema blocks 0 rows shaped p

-- the blocks of the table of a number are all there
enough : (t : StoredTable) (ends : List ℕ) (blocks : List Span) (n : ℕ) → IsPool t ends blocks → n < length ends → blocks_count t.schema ≤ length (drop (n * blocks_count t.schema) blocks)
enough t ends blocks n pool p =
    let width = blocks_count t.schema in
    let counted = pool.counted in
    let all : suc n * width ≤ length ends * width = mul-le-mul_right width (omega arith) in
    let more = one_more n width in
    omega (arith, counted, all, more, length-drop (n * width) blocks)

pub blocks_within : (t : StoredTable) (ends : List ℕ) (blocks : List Span) (n : ℕ) → IsPool t ends blocks → n < length ends → n * blocks_count t.schema + blocks_count t.schema ≤ length blocks
blocks_within t ends blocks n pool p =
    let width = blocks_count t.schema in
    let counted = pool.counted in
    let all : suc n * width ≤ length ends * width = mul-le-mul_right width (omega arith) in
    let more = one_more n width in
    omega (arith, counted, all, more)

abbrev made : List Attribute → List (List Datum) → List Home → StoredTable
made s rows homes = record { schema = s; rows = rows; homes = homes }

part_placed : (schema : List Attribute) (rows : List (List Datum)) (blocks : List Span) → HasHomes (homed_table schema rows blocks) → blocks_count schema ≤ length blocks → IsPlacedAt (homed_table schema rows blocks) (take (blocks_count schema) blocks)
part_placed schema rows blocks shaped p = record {
  counted = length-take-le (blocks_count schema) blocks p;
  placed = ap (made schema rows) (sym (homes_taken schema (blocks_count schema) blocks (omega arith)));
  homed = pool_homed schema rows blocks shaped p;
  shaped = shaped;
}

-- a table of a pool is placed at its blocks
pub placed_at : (t : StoredTable) (ends : List ℕ) (blocks : List Span) (n : ℕ) (d : StoredTable) → IsPool t ends blocks → n < length ends
    → IsPlacedAt (get_or (parts t ends blocks) n d) (take (blocks_count t.schema) (drop (n * blocks_count t.schema) blocks))
placed_at t ends blocks n d pool p =
    let own = drop (n * blocks_count t.schema) blocks in
    let from = get_or (0 ∷ ends) n 0 in
    let end = get_or ends n 0 in
    let read = part_read t.schema t.rows 0 ends blocks n d p in
    let q : n < length (parts t ends blocks) = omega (arith, length-parts_from t.schema t.rows 0 ends blocks) in
    subst (λ u. IsPlacedAt u (take (blocks_count t.schema) own)) (sym read)
    (part_placed t.schema (sliced from (end - from) t.rows) own (subst HasHomes read (pool.shaped n d q)) (enough t ends blocks n pool p))

-- the same, by what is seen of the pool
pub placed_in : (t : StoredTable) (ends : List ℕ) (blocks : List Span) (ts : List StoredTable) (n : ℕ) → parts t ends blocks ≡ ts → IsPool t ends blocks → n < length ends
    → IsPlacedAt (get_or ts n no_table) (take (blocks_count t.schema) (drop (n * blocks_count t.schema) blocks))
placed_in t ends blocks ts n view pool p =
    subst (λ us. IsPlacedAt (get_or us n no_table) (take (blocks_count t.schema) (drop (n * blocks_count t.schema) blocks))) view (placed_at t ends blocks n no_table pool p)

-- all tables of a pool have all homes
pub all_homed : (t : StoredTable) (ends : List ℕ) (blocks : List Span) (ts : List StoredTable) → parts t ends blocks ≡ ts → IsPool t ends blocks → All HasAllHomes ts
all_homed t ends blocks ts view pool =
    subst (All HasAllHomes) view
    (λ n d q. let p : n < length ends = omega (arith, length-parts_from t.schema t.rows 0 ends blocks) in
    (placed_at t ends blocks n d pool p).homed)

-- they are few
pub blocks_few : (t : StoredTable) (ends : List ℕ) (blocks : List Span) → IsPool t ends blocks → IsHeading t.schema → length blocks ≤ 16384
blocks_few t ends blocks pool whole =
    let counted = pool.counted in
    let few = pool.few in
    let limits = whole.limits in
    let width : blocks_count t.schema ≤ 128 = omega (arith, limits, blocks_most t.schema) in
    let all : length ends * blocks_count t.schema ≤ 128 * 128 = mul-le (length ends) (blocks_count t.schema) 128 128 few width in
    omega (arith, counted, all)

-- the place of the blocks of a table among those of all
pub record ArePlaced (t : StoredTable) (blocks : List Span) (first width : ℕ) : Type 0 where
  pub within : first + width ≤ length blocks
  pub few : length blocks ≤ 16384

pub are_placed : (t : StoredTable) (ends : List ℕ) (blocks : List Span) (n width : ℕ) → IsPool t ends blocks → IsHeading t.schema → n < length ends → width ≡ blocks_count t.schema → ArePlaced t blocks (n * width) width
are_placed t ends blocks n width pool whole p e =
    subst (λ w. ArePlaced t blocks (n * w) w) (sym e) (record { within = blocks_within t ends blocks n pool p; few = blocks_few t ends blocks pool whole })

pub blocks_read : (t : StoredTable) (ends : List ℕ) (blocks items : List Span) (ts : List StoredTable) (n width : ℕ) → items ≡ blocks → parts t ends blocks ≡ ts → IsPool t ends blocks → n < length ends → width ≡ blocks_count t.schema
    → IsPlacedAt (get_or ts n no_table) (take ((n * width + width) - n * width) (drop (n * width) items))
blocks_read t ends blocks items ts n width same view pool p e =
    let count : (n * width + width) - n * width ≡ width = omega arith in
    let P = λ (bs : List Span). IsPlacedAt (get_or ts n no_table) bs in
    let placed = placed_in t ends blocks ts n view pool p in
    subst P (sym (ap (λ m. take m (drop (n * width) items)) count ∙ ap (λ bs. take width (drop (n * width) bs)) same ∙ ap (λ w. take w (drop (n * w) blocks)) e)) placed
