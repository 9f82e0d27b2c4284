-- The homes of a view column row by row: their shape, and the homed columns in them.
use Rattle.std.proofs.Common.{◌≡◌, ℕ, zero, suc, ◌<◌, List, [], ◌∷◌, ◌++◌, length, get_or, set, take, drop, replicate, pos, refl, ap, sym, ◌∙◌, arith, append_assoc}
use Rattle.mk_value.specs.Heading.{Domain, Heading}
use Rattle.mk_value.specs.Data.{Datum, integer}
use Rattle.tables.specs.Homes.{PlainColumn, Home, column_homes, row_homes, rows_in}
use Rattle.tables.specs.Tables.{inner_schema}
use Rattle.tables.specs.Rests.{homed_rows, homed_from, Rest}
use Rattle.tables.specs.Shapes.{AreRowHomesOf, AreHomesOf}
use Rattle.tables.proofs.Apart.{Rest-self, Rest-append}

-- the homes of the tables in the rows of a view column have their shape
abbrev pub AreEach : List (List Home) → Heading → List Datum → Type 0
AreEach rows h values = AreRowHomesOf (row_homes rows) h values

pub each-length : (rows : List (List Home)) (h : Heading) (values : List Datum) → AreEach rows h values → length rows ≡ length values
each-length [] h [] s = refl
each-length [] h (d ∷ values) s = absurd s
each-length (r ∷ rows) h [] s = absurd s
each-length (r ∷ rows) h (d ∷ values) s = let e = each-length rows h values s.1 in omega (arith, e)

pub each-append : (xs ys : List (List Home)) (h : Heading) (us vs : List Datum) → AreEach xs h us → AreEach ys h vs → AreEach (xs ++ ys) h (us ++ vs)
each-append [] ys h [] vs s t = t
each-append [] ys h (u ∷ us) vs s t = absurd s
each-append (x ∷ xs) ys h [] vs s t = absurd s
each-append (x ∷ xs) ys h (u ∷ us) vs s t = (s.0, each-append xs ys h us vs s.1 t)

pub each-take : (n : ℕ) (rows : List (List Home)) (h : Heading) (values : List Datum) → AreEach rows h values → AreEach (take n rows) h (take n values)
each-take zero rows h values s = tt
each-take (suc n) [] h [] s = tt
each-take (suc n) [] h (d ∷ values) s = absurd s
each-take (suc n) (r ∷ rows) h [] s = absurd s
each-take (suc n) (r ∷ rows) h (d ∷ values) s = (s.0, each-take n rows h values s.1)

pub each-drop : (n : ℕ) (rows : List (List Home)) (h : Heading) (values : List Datum) → AreEach rows h values → AreEach (drop n rows) h (drop n values)
each-drop zero rows h values s = s
each-drop (suc n) [] h [] s = tt
each-drop (suc n) [] h (d ∷ values) s = absurd s
each-drop (suc n) (r ∷ rows) h [] s = absurd s
each-drop (suc n) (r ∷ rows) h (d ∷ values) s = each-drop n rows h values s.1

pub each-replicate : (n : ℕ) (homes : List Home) (h : Heading) (d : Datum) → AreHomesOf (column_homes homes) h 0 (rows_in d) → AreEach (replicate n homes) h (replicate n d)
each-replicate zero homes h d s = tt
each-replicate (suc n) homes h d s = (s, each-replicate n homes h d s)

pub each-set : (rows : List (List Home)) (i : ℕ) (homes : List Home) (h : Heading) (values : List Datum) (d : Datum) → AreEach rows h values → AreHomesOf (column_homes homes) h 0 (rows_in d)
    → AreEach (set rows i homes) h (set values i d)
each-set [] i homes h [] d s t = tt
each-set [] i homes h (v ∷ values) d s t = absurd s
each-set (r ∷ rows) i homes h [] d s t = absurd s
each-set (r ∷ rows) zero homes h (v ∷ values) d s t = (t, s.1)
each-set (r ∷ rows) (suc i) homes h (v ∷ values) d s t = (s.0, each-set rows i homes h values d s.1 t)

pub each-at : (rows : List (List Home)) (i : ℕ) (h : Heading) (values : List Datum) → i < length values → AreEach rows h values
    → AreHomesOf (column_homes (get_or rows i [])) h 0 (rows_in (get_or values i (integer (pos 0))))
each-at [] i h [] p s = absurd (omega arith)
each-at [] i h (d ∷ values) p s = absurd s
each-at (r ∷ rows) i h [] p s = absurd s
each-at (r ∷ rows) zero h (d ∷ values) p s = s.0
each-at (r ∷ rows) (suc i) h (d ∷ values) p s = each-at rows i h values (omega arith) s.1

-- the homed columns in the rows of a view column
abbrev pub homed_each : List (List Home) → Domain → List Datum → List PlainColumn
homed_each rows e values = homed_rows (row_homes rows) e values

pub homed_each-append : (xs ys : List (List Home)) (e : Domain) (us vs : List Datum) → length xs ≡ length us → homed_each (xs ++ ys) e (us ++ vs) ≡ homed_each xs e us ++ homed_each ys e vs
homed_each-append [] ys e [] vs p = refl
homed_each-append [] ys e (u ∷ us) vs p = absurd (omega (arith, p))
homed_each-append (x ∷ xs) ys e [] vs p = absurd (omega (arith, p))
homed_each-append (x ∷ xs) ys e (u ∷ us) vs p =
    let here = homed_from (column_homes x) (inner_schema e) 0 (rows_in u) in
    ap (λ cs. here ++ cs) (homed_each-append xs ys e us vs (omega (arith, p)))
    ∙ sym (append_assoc here (homed_each xs e us) (homed_each ys e vs))

pub homed_each-replicate : (n : ℕ) (homes : List Home) (e : Domain) (d : Datum) → homed_from (column_homes homes) (inner_schema e) 0 (rows_in d) ≡ [] → homed_each (replicate n homes) e (replicate n d) ≡ []
homed_each-replicate zero homes e d none = refl
homed_each-replicate (suc n) homes e d none =
    ap (λ cs. cs ++ homed_each (replicate n homes) e (replicate n d)) none ∙ homed_each-replicate n homes e d none

-- one row is given other homes, which rest on those before
pub homed_each-set : (rows : List (List Home)) (i : ℕ) (homes : List Home) (e : Domain) (values : List Datum) (d : Datum) → length rows ≡ length values
    → Rest (homed_from (column_homes homes) (inner_schema e) 0 (rows_in d)) (homed_from (column_homes (get_or rows i [])) (inner_schema e) 0 (rows_in (get_or values i (integer (pos 0)))))
    → Rest (homed_each (set rows i homes) e (set values i d)) (homed_each rows e values)
homed_each-set [] i homes e [] d p r = Rest-self []
homed_each-set [] i homes e (v ∷ values) d p r = absurd (omega (arith, p))
homed_each-set (x ∷ rows) i homes e [] d p r = absurd (omega (arith, p))
homed_each-set (x ∷ rows) zero homes e (v ∷ values) d p r =
    Rest-append (homed_from (column_homes homes) (inner_schema e) 0 (rows_in d)) (homed_each rows e values)
    (homed_from (column_homes x) (inner_schema e) 0 (rows_in v)) (homed_each rows e values) r (Rest-self (homed_each rows e values))
homed_each-set (x ∷ rows) (suc i) homes e (v ∷ values) d p r =
    let here = homed_from (column_homes x) (inner_schema e) 0 (rows_in v) in
    Rest-append here (homed_each (set rows i homes) e (set values i d)) here (homed_each rows e values) (Rest-self here)
    (homed_each-set rows i homes e values d (omega (arith, p)) r)
