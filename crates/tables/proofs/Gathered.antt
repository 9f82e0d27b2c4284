-- Tables that are gathered in a pool: it has them again.
use Rattle.std.proofs.Common.{◌≡◌, ℕ, zero, suc, ◌+◌, ◌-◌, ◌*◌, ◌<◌, ◌≤◌, List, [], ◌∷◌, ◌++◌, length, get_or, take, drop, map, All, refl, ap, sym, subst, ◌∙◌, append_assoc, append-nil, length-append, arith}
use Rattle.std.specs.List.{flat_map}
use Rattle.std.proofs.lemmas.List.{drop_at, take_at, take_more, take_all, take-append-drop}
use Rattle.std.proofs.lemmas.List.Concat.{flat_map-append}
use Rattle.std.proofs.lemmas.List.Elements.{All-nil, All-cons, All-head, All-tail, All-append, All-take, All-drop, All-same}
use Rattle.mk_value.specs.declared.span.Span.{Span}
use Rattle.mk_value.specs.Heading.{Attribute}
use Rattle.mk_value.specs.Data.{Datum, AreRowsOf, IsRowOf}
use Rattle.tables.specs.Compact.{IsCompact}
use Rattle.tables.specs.Homes.{Home}
use Rattle.tables.specs.Pools.{AreEnds, IsPool, IsPoolable, blocks_at_home, blocks_count, blocks_of_tables, ends_of, homes_at, part_at, parts, parts_from, rows_of_tables}
use Rattle.tables.specs.Shapes.{HasHomes}
use Rattle.tables.specs.Slices.{sliced}
use Rattle.tables.specs.Tables.{StoredTable}
use Rattle.tables.proofs.Pools.{one_more}

-- what a list is taken to, with one item more
pub flat_more : {X Y : Type 0} (f : X → List Y) (xs : List X) (k : ℕ) (x : X) → k < length xs → x ≡ get_or xs k x → flat_map f (take (k + 1) xs) ≡ flat_map f (take k xs) ++ f x
flat_more f xs k x p read =
    ap (flat_map f) (take_more xs k x p ∙ ap (λ y. take k xs ++ y ∷ []) (sym read))
    ∙ flat_map-append f (take k xs) (x ∷ [])
    ∙ ap (λ ys. flat_map f (take k xs) ++ ys) (append-nil (f x))

pub flat_all : {X Y : Type 0} (f : X → List Y) (xs : List X) (k : ℕ) → length xs ≤ k → flat_map f (take k xs) ≡ flat_map f xs
flat_all f xs k p = ap (flat_map f) (take_all k xs p)

pub flat_of_map : {X Y Z : Type 0} (f : Y → List Z) (g : X → Y) (xs : List X) → flat_map f (map g xs) ≡ flat_map (λ x. f (g x)) xs
flat_of_map f g [] = refl
flat_of_map f g (x ∷ xs) = ap (λ zs. f (g x) ++ zs) (flat_of_map f g xs)

-- what is so of all that items are taken to is so of what one of them is taken to
All-left : {X : Type 0} (P : X → Type 0) (xs ys : List X) → All P (xs ++ ys) → All P xs
All-left P xs ys h = All-same P xs (take (length xs) (xs ++ ys)) (sym (take_at xs ys (length xs) refl)) (All-take P (length xs) (xs ++ ys) h)

All-right : {X : Type 0} (P : X → Type 0) (xs ys : List X) → All P (xs ++ ys) → All P ys
All-right P xs ys h = All-same P ys (drop (length xs) (xs ++ ys)) (sym (drop_at xs ys (length xs) refl)) (All-drop P (length xs) (xs ++ ys) h)

pub flat_one : {X Y : Type 0} (P : Y → Type 0) (f : X → List Y) (xs : List X) (k : ℕ) (x : X) → k < length xs → x ≡ get_or xs k x → All P (flat_map f xs) → All P (f x)
flat_one P f [] k x p read h = absurd (omega arith)
flat_one P f (y ∷ xs) zero x p read h = All-same P (f x) (f y) (ap f read) (All-left P (f y) (flat_map f xs) h)
flat_one P f (y ∷ xs) (suc k) x p read h = flat_one P f xs k x (omega arith) read (All-right P (f y) (flat_map f xs) h)

-- some of the items come to no more than all
pub flat_within : {X Y : Type 0} (f : X → List Y) (xs : List X) (k : ℕ) → length (flat_map f (take k xs)) ≤ length (flat_map f xs)
flat_within f xs k =
    let all = ap length (ap (flat_map f) (sym (take-append-drop k xs)) ∙ flat_map-append f (take k xs) (drop k xs)) in
    omega (arith, all, length-append (flat_map f (take k xs)) (flat_map f (drop k xs)))

-- one table more, and where its rows end
pub ends_more : (from : ℕ) (ts : List StoredTable) (t : StoredTable) → ends_of from (ts ++ t ∷ []) ≡ ends_of from ts ++ (from + length (rows_of_tables ts) + length t.rows) ∷ []
ends_more from [] t = ap (λ n. n ∷ []) (let e : from + length t.rows ≡ from + 0 + length t.rows = omega arith in e)
ends_more from (u ∷ ts) t =
    let here = from + length u.rows in
    let end : here + length (rows_of_tables ts) + length t.rows ≡ from + length (u.rows ++ rows_of_tables ts) + length t.rows = omega (arith, length-append u.rows (rows_of_tables ts)) in
    ap (λ es. here ∷ es) (ends_more here ts t ∙ ap (λ n. ends_of here ts ++ n ∷ []) end)

-- the ends so far, and how many rows there are
pub record AreEndsSoFar (ts : List StoredTable) (k : ℕ) (ends : List ℕ) (end : ℕ) : Type 0 where
  pub ends_are : ends ≡ ends_of 0 (take k ts)
  pub end_is : end ≡ length (rows_of_tables (take k ts))

pub ends_so_far : (ts : List StoredTable) (k : ℕ) (t : StoredTable) (ends new : List ℕ) (end : ℕ) → k < length ts → t ≡ get_or ts k t → AreEndsSoFar ts k ends end → new ≡ ends ++ (end + length t.rows) ∷ [] → AreEndsSoFar ts (k + 1) new (end + length t.rows)
ends_so_far ts k t ends new end p read h e =
    let one = take_more ts k t p ∙ ap (λ y. take k ts ++ y ∷ []) (sym read) in
    let last : 0 + length (rows_of_tables (take k ts)) + length t.rows ≡ end + length t.rows = let before = h.end_is in omega (arith, before) in
    let long = ap length (flat_more (λ (u : StoredTable). u.rows) ts k t p read) in
    let before = h.end_is in
    record {
      ends_are = e ∙ ap (λ es. es ++ (end + length t.rows) ∷ []) h.ends_are ∙ sym (ap (ends_of 0) one ∙ ends_more 0 (take k ts) t ∙ ap (λ n. ends_of 0 (take k ts) ++ n ∷ []) last);
      end_is = omega (arith, long, before, length-append (rows_of_tables (take k ts)) t.rows);
    }

-- the end fits
pub end_fits : (ts : List StoredTable) (k : ℕ) (t : StoredTable) (ends : List ℕ) (end most : ℕ) → k < length ts → t ≡ get_or ts k t → AreEndsSoFar ts k ends end → length (rows_of_tables ts) ≤ most → end + length t.rows ≤ most
end_fits ts k t ends end most p read h few =
    let long = ap length (flat_more (λ (u : StoredTable). u.rows) ts k t p read) in
    let before = h.end_is in
    omega (arith, long, before, few, length-append (rows_of_tables (take k ts)) t.rows, flat_within (λ (u : StoredTable). u.rows) ts (k + 1))

sliced_among : {X : Type 0} (before xs behind : List X) → sliced (length before) ((length before + length xs) - length before) (before ++ (xs ++ behind)) ≡ xs
sliced_among before xs behind =
    let count : (length before + length xs) - length before ≡ length xs = omega arith in
    ap (λ n. sliced (length before) n (before ++ (xs ++ behind))) count
    ∙ ap (take (length xs)) (drop_at before (xs ++ behind) (length before) refl)
    ∙ take_at xs behind (length xs) refl

abbrev made : List Attribute → List (List Datum) → List Home → StoredTable
made s rows homes = record { schema = s; rows = rows; homes = homes }

-- the first of the tables that are left
part_again : (schema : List Attribute) (t : StoredTable) (before behind : List (List Datum)) (blocks : List Span) → IsPoolable schema t
    → part_at schema (before ++ (t.rows ++ behind)) (length before) (length before + length t.rows) (blocks_at_home t ++ blocks) ≡ t
part_again schema t before behind blocks h =
    ap (λ rows. made schema rows (homes_at schema (blocks_at_home t ++ blocks))) (sliced_among before t.rows behind)
    ∙ ap (made schema t.rows) (h.homes blocks)
    ∙ ap (λ (s : List Attribute). made s t.rows t.homes) (sym h.same_schema)

pub parts_again : (schema : List Attribute) (ts : List StoredTable) (before : List (List Datum)) → All (IsPoolable schema) ts
    → parts_from schema (before ++ rows_of_tables ts) (length before) (ends_of (length before) ts) (blocks_of_tables ts) ≡ ts
parts_again schema [] before each = refl
parts_again schema (t ∷ ts) before each =
    let first = All-head (IsPoolable schema) t ts each in
    let more = before ++ t.rows in
    let long : length before + length t.rows ≡ length more = sym (length-append before t.rows) in
    let rest : drop (blocks_count schema) (blocks_at_home t ++ blocks_of_tables ts) ≡ blocks_of_tables ts = drop_at (blocks_at_home t) (blocks_of_tables ts) (blocks_count schema) first.counted in
    ap (λ u. u ∷ parts_from schema (before ++ (t.rows ++ rows_of_tables ts)) (length before + length t.rows) (ends_of (length before + length t.rows) ts) (drop (blocks_count schema) (blocks_at_home t ++ blocks_of_tables ts)))
    (part_again schema t before (rows_of_tables ts) (blocks_of_tables ts) first)
    ∙ ap (λ bs. t ∷ parts_from schema (before ++ (t.rows ++ rows_of_tables ts)) (length before + length t.rows) (ends_of (length before + length t.rows) ts) bs) rest
    ∙ ap (λ n. t ∷ parts_from schema (before ++ (t.rows ++ rows_of_tables ts)) n (ends_of n ts) (blocks_of_tables ts)) long
    ∙ ap (λ rows. t ∷ parts_from schema rows (length more) (ends_of (length more) ts) (blocks_of_tables ts)) (sym (append_assoc before t.rows (rows_of_tables ts)))
    ∙ ap (λ us. t ∷ us) (parts_again schema ts more (All-tail (IsPoolable schema) t ts each))

ends_ascend : (from : ℕ) (ts : List StoredTable) → AreEnds from (ends_of from ts) (from + length (rows_of_tables ts))
ends_ascend from [] = omega arith
ends_ascend from (t ∷ ts) =
    let long = length-append t.rows (rows_of_tables ts) in
    let all : (from + length t.rows) + length (rows_of_tables ts) ≡ from + length (t.rows ++ rows_of_tables ts) = omega (arith, long) in
    (omega arith, subst (AreEnds (from + length t.rows) (ends_of (from + length t.rows) ts)) all (ends_ascend (from + length t.rows) ts))

pub length-ends_of : (from : ℕ) (ts : List StoredTable) → length (ends_of from ts) ≡ length ts
length-ends_of from [] = refl
length-ends_of from (t ∷ ts) = let e = length-ends_of (from + length t.rows) ts in omega (arith, e)

shaped_all : (schema : List Attribute) (ts : List StoredTable) → All (IsPoolable schema) ts → All HasHomes ts
shaped_all schema ts each = λ k d p. (each k d p).shaped

rows_whole : (schema : List Attribute) (ts : List StoredTable) → All (IsPoolable schema) ts → All (λ row. IsRowOf row schema) (rows_of_tables ts)
rows_whole schema [] each = All-nil (λ row. IsRowOf row schema)
rows_whole schema (t ∷ ts) each =
    All-append (λ row. IsRowOf row schema) t.rows (rows_of_tables ts) (All-head (IsPoolable schema) t ts each).rows.whole (rows_whole schema ts (All-tail (IsPoolable schema) t ts each))

rows_counted : (schema : List Attribute) (ts : List StoredTable) → All (IsPoolable schema) ts → length (rows_of_tables ts) ≤ 64 * length ts
rows_counted schema [] each = omega arith
rows_counted schema (t ∷ ts) each =
    let first = (All-head (IsPoolable schema) t ts each).small in
    let rest = rows_counted schema ts (All-tail (IsPoolable schema) t ts each) in
    omega (arith, length-append t.rows (rows_of_tables ts), first, rest)

-- they have few rows
pub rows_few : (schema : List Attribute) (ts : List StoredTable) → All (IsPoolable schema) ts → length ts ≤ 128 → length (rows_of_tables ts) ≤ 8192
rows_few schema ts each few = omega (arith, rows_counted schema ts each)

-- the rows of all are rows of the schema
pub rows_gathered : (schema : List Attribute) (ts : List StoredTable) → All (IsPoolable schema) ts → length ts ≤ 128 → AreRowsOf (rows_of_tables ts) schema
rows_gathered schema ts each few = record { few = omega (arith, rows_few schema ts each few); whole = rows_whole schema ts each }

blocks_counted : (schema : List Attribute) (ts : List StoredTable) → All (IsPoolable schema) ts → length (blocks_of_tables ts) ≡ length ts * blocks_count schema
blocks_counted schema [] each = omega arith
blocks_counted schema (t ∷ ts) each =
    let first = (All-head (IsPoolable schema) t ts each).counted in
    let rest = blocks_counted schema ts (All-tail (IsPoolable schema) t ts each) in
    let more = one_more (length ts) (blocks_count schema) in
    omega (arith, length-append (blocks_at_home t) (blocks_of_tables ts), first, rest, more)

-- their blocks go into six bytes
pub blocks_compact : (schema : List Attribute) (ts : List StoredTable) → All (IsPoolable schema) ts → All IsCompact (blocks_of_tables ts)
blocks_compact schema [] each = All-nil IsCompact
blocks_compact schema (t ∷ ts) each =
    All-append IsCompact (blocks_at_home t) (blocks_of_tables ts) (All-head (IsPoolable schema) t ts each).compact (blocks_compact schema ts (All-tail (IsPoolable schema) t ts each))

none_before : (n : ℕ) → 0 + n ≡ n
none_before n = omega arith

-- what is gathered
pub record IsGathered (schema : List Attribute) (ts : List StoredTable) (t : StoredTable) (ends : List ℕ) (blocks : List Span) : Type 0 where
  pub schema_is : t.schema ≡ schema
  pub rows : t.rows ≡ rows_of_tables ts
  pub ends_are : ends ≡ ends_of 0 ts
  pub blocks_are : blocks ≡ blocks_of_tables ts

pub gathered_again : (schema : List Attribute) (ts : List StoredTable) (t : StoredTable) (ends : List ℕ) (blocks : List Span) → IsGathered schema ts t ends blocks → All (IsPoolable schema) ts → parts t ends blocks ≡ ts
gathered_again schema ts t ends blocks g each =
    ap (λ (s : List Attribute). parts_from s t.rows 0 ends blocks) g.schema_is
    ∙ ap (λ rows. parts_from schema rows 0 ends blocks) g.rows
    ∙ ap (λ es. parts_from schema (rows_of_tables ts) 0 es blocks) g.ends_are
    ∙ ap (λ bs. parts_from schema (rows_of_tables ts) 0 (ends_of 0 ts) bs) g.blocks_are
    ∙ parts_again schema ts [] each

pub gathered_pool : (schema : List Attribute) (ts : List StoredTable) (t : StoredTable) (ends : List ℕ) (blocks : List Span) → IsGathered schema ts t ends blocks → All (IsPoolable schema) ts → 0 < length ts → length ts ≤ 128 → IsPool t ends blocks
gathered_pool schema ts t ends blocks g each some few = record {
  some = omega (arith, ap length g.ends_are, length-ends_of 0 ts);
  few = omega (arith, ap length g.ends_are, length-ends_of 0 ts);
  ascend = subst (λ es. AreEnds 0 es (length t.rows)) (sym g.ends_are) (subst (λ rows. AreEnds 0 (ends_of 0 ts) (length rows)) (sym g.rows) (subst (AreEnds 0 (ends_of 0 ts)) (none_before (length (rows_of_tables ts))) (ends_ascend 0 ts)));
  counted =
      ap length g.blocks_are ∙ blocks_counted schema ts each ∙ ap (λ n. n * blocks_count schema) (sym (ap length g.ends_are ∙ length-ends_of 0 ts))
      ∙ ap (λ (s : List Attribute). length ends * blocks_count s) (sym g.schema_is);
  shaped = subst (All HasHomes) (sym (gathered_again schema ts t ends blocks g each)) (shaped_all schema ts each);
}
