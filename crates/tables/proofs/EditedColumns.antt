-- One column after an edit: its home has its shape, and the homed columns in it are among those before.
use Rattle.std.proofs.Common.{◌≡◌, ℕ, ◌+◌, ◌<◌, List, [], ◌∷◌, ◌++◌, length, get_or, set, map, take, drop, replicate, pos, refl, ap, sym, subst, ◌∙◌}
use Rattle.std.proofs.lemmas.List.{take-append-drop, drop-drop}
use Rattle.mk_value.specs.Heading.{Domain, Heading, no_attributes, attribute, attributes_of}
use Rattle.mk_value.specs.Data.{Datum, integer}
use Rattle.tables.specs.Homes.{PlainColumn, Home, tables, column_homes, each_of, column_of, rows_in, empty_home, empty_homes_from}
use Rattle.tables.specs.Tables.{homes_in, home_with}
use Rattle.tables.specs.Rows.{inserted, removed, home_inserted, home_removed}
use Rattle.tables.specs.Rests.{homed_in, homed_rows, homed_from, Rest}
use Rattle.tables.specs.Shapes.{IsHomeOf, AreRowHomesOf, AreHomesOf}
use Rattle.tables.proofs.Apart.{Rest-self, Rest-append}
use Rattle.tables.proofs.Resting.{Rest-none, homed_from-empty}
use Rattle.tables.proofs.ColumnwiseHomes.{row_homes-each_of}
use Rattle.tables.proofs.RowHomes.{AreEach, each-length, each-append, each-take, each-drop, each-replicate, each-set, each-at, homed_each, homed_each-append, homed_each-replicate, homed_each-set}

-- where no column has a home, the homes have the shape all the same
each-map : (f : Datum → List Home) (h : Heading) → ((d : Datum) → AreHomesOf (column_homes (f d)) h 0 (rows_in d)) → (values : List Datum) → AreEach (map f values) h values
each-map f h shape [] = tt
each-map f h shape (d ∷ values) = (shape d, each-map f h shape values)

mutual
  pub empty_home-shape : (e : Domain) (values : List Datum) → IsHomeOf (empty_home e values) e values
  empty_home-shape Domain.integer values = tt
  empty_home-shape Domain.long values = tt
  empty_home-shape Domain.text values = tt
  empty_home-shape Domain.bytes values = tt
  empty_home-shape (Domain.relation h) values = each-map (λ d. empty_homes_from h 0 (rows_in d)) h (λ d. empty_homes-shape h 0 (rows_in d)) values

  pub empty_homes-shape : (h : Heading) (k : ℕ) (rows : List (List Datum)) → AreHomesOf (column_homes (empty_homes_from h k rows)) h k rows
  empty_homes-shape no_attributes k rows = tt
  empty_homes-shape (attribute n e rest) k rows = (empty_home-shape e (column_of rows k), empty_homes-shape rest (k + 1) rows)

-- rows put in
pub home_inserted-shape : (e : Domain) (at n : ℕ) (d : Datum) (values : List Datum) (h : Home) → IsHomeOf h e values → IsHomeOf (home_inserted at n e d h) e (inserted at n d values)
home_inserted-shape Domain.integer at n d values (tables rows) s = absurd s
home_inserted-shape Domain.integer at n d values _ s = tt
home_inserted-shape Domain.long at n d values (tables rows) s = absurd s
home_inserted-shape Domain.long at n d values _ s = tt
home_inserted-shape Domain.text at n d values (tables rows) s = absurd s
home_inserted-shape Domain.text at n d values _ s = tt
home_inserted-shape Domain.bytes at n d values (tables rows) s = absurd s
home_inserted-shape Domain.bytes at n d values _ s = tt
home_inserted-shape (Domain.relation g) at n d values (tables rows) s =
    let homes = empty_homes_from g 0 (rows_in d) in
    let each : AreEach (each_of rows) g values = subst (λ rs. AreRowHomesOf rs g values) (sym (row_homes-each_of rows)) s in
    each-append (take at (each_of rows)) (replicate n homes ++ drop at (each_of rows)) g (take at values) (replicate n d ++ drop at values)
    (each-take at (each_of rows) g values each)
    (each-append (replicate n homes) (drop at (each_of rows)) g (replicate n d) (drop at values)
    (each-replicate n homes g d (empty_homes-shape g 0 (rows_in d))) (each-drop at (each_of rows) g values each))
home_inserted-shape (Domain.relation g) at n d values _ s = absurd s

inserted_same : (g : Heading) (at n : ℕ) (d : Datum) (values : List Datum) (rows : List (List Home)) → AreEach rows g values
    → homed_each (inserted at n (empty_homes_from g 0 (rows_in d)) rows) (Domain.relation g) (inserted at n d values) ≡ homed_each rows (Domain.relation g) values
inserted_same g at n d values rows each =
    let e = Domain.relation g in
    let homes = empty_homes_from g 0 (rows_in d) in
    let front = each-length (take at rows) g (take at values) (each-take at rows g values each) in
    let put = each-length (replicate n homes) g (replicate n d) (each-replicate n homes g d (empty_homes-shape g 0 (rows_in d))) in
    let none = homed_from-empty g 0 (rows_in d) (attributes_of g) 0 (rows_in d) in
    homed_each-append (take at rows) (replicate n homes ++ drop at rows) e (take at values) (replicate n d ++ drop at values) front
    ∙ ap (λ cs. homed_each (take at rows) e (take at values) ++ cs)
    (homed_each-append (replicate n homes) (drop at rows) e (replicate n d) (drop at values) put
    ∙ ap (λ cs. cs ++ homed_each (drop at rows) e (drop at values)) (homed_each-replicate n homes e d none))
    ∙ sym (homed_each-append (take at rows) (drop at rows) e (take at values) (drop at values) front)
    ∙ ap (λ rs. homed_each rs e (take at values ++ drop at values)) (take-append-drop at rows)
    ∙ ap (λ vs. homed_each rows e vs) (take-append-drop at values)

pub home_inserted-rests : (e : Domain) (at n : ℕ) (d : Datum) (values : List Datum) (h : Home) → IsHomeOf h e values
    → Rest (homed_in (home_inserted at n e d h) e (inserted at n d values)) (homed_in h e values)
home_inserted-rests Domain.integer at n d values (tables rows) s = absurd s
home_inserted-rests Domain.integer at n d values _ s = Rest-none [] _ refl
home_inserted-rests Domain.long at n d values (tables rows) s = absurd s
home_inserted-rests Domain.long at n d values _ s = Rest-none [] _ refl
home_inserted-rests Domain.text at n d values (tables rows) s = absurd s
home_inserted-rests Domain.text at n d values _ s = Rest-none [] _ refl
home_inserted-rests Domain.bytes at n d values (tables rows) s = absurd s
home_inserted-rests Domain.bytes at n d values _ s = Rest-none [] _ refl
home_inserted-rests (Domain.relation g) at n d values (tables rows) s =
    let e = Domain.relation g in
    let each : AreEach (each_of rows) g values = subst (λ rs. AreRowHomesOf rs g values) (sym (row_homes-each_of rows)) s in
    let same = inserted_same g at n d values (each_of rows) each ∙ ap (λ rs. homed_rows rs e values) (row_homes-each_of rows) in
    subst (λ cs. Rest cs (homed_rows rows e values)) (sym same) (Rest-self (homed_rows rows e values))
home_inserted-rests (Domain.relation g) at n d values _ s = absurd s

-- rows removed
pub home_removed-shape : (e : Domain) (at n : ℕ) (values : List Datum) (h : Home) → IsHomeOf h e values → IsHomeOf (home_removed at n h) e (removed at n values)
home_removed-shape Domain.integer at n values (tables rows) s = absurd s
home_removed-shape Domain.integer at n values _ s = tt
home_removed-shape Domain.long at n values (tables rows) s = absurd s
home_removed-shape Domain.long at n values _ s = tt
home_removed-shape Domain.text at n values (tables rows) s = absurd s
home_removed-shape Domain.text at n values _ s = tt
home_removed-shape Domain.bytes at n values (tables rows) s = absurd s
home_removed-shape Domain.bytes at n values _ s = tt
home_removed-shape (Domain.relation g) at n values (tables rows) s =
    let each : AreEach (each_of rows) g values = subst (λ rs. AreRowHomesOf rs g values) (sym (row_homes-each_of rows)) s in
    each-append (take at (each_of rows)) (drop (at + n) (each_of rows)) g (take at values) (drop (at + n) values)
    (each-take at (each_of rows) g values each) (each-drop (at + n) (each_of rows) g values each)
home_removed-shape (Domain.relation g) at n values _ s = absurd s

-- what stands last in a list rests on the list
last_rests : (front back : List PlainColumn) → Rest back (front ++ back)
last_rests front back = Rest-append [] back front back (Rest-none [] front refl) (Rest-self back)

removed_rests : (g : Heading) (at n : ℕ) (values : List Datum) (rows : List (List Home)) → AreEach rows g values
    → Rest (homed_each (removed at n rows) (Domain.relation g) (removed at n values)) (homed_each rows (Domain.relation g) values)
removed_rests g at n values rows each =
    let e = Domain.relation g in
    let behind = each-drop at rows g values each in
    let front = each-length (take at rows) g (take at values) (each-take at rows g values each) in
    let gone = each-length (take n (drop at rows)) g (take n (drop at values)) (each-take n (drop at rows) g (drop at values) behind) in
    let first = homed_each (take at rows) e (take at values) in
    let middle = homed_each (take n (drop at rows)) e (take n (drop at values)) in
    let rest = homed_each (drop (at + n) rows) e (drop (at + n) values) in
    let left : homed_each (removed at n rows) e (removed at n values) ≡ first ++ rest =
    homed_each-append (take at rows) (drop (at + n) rows) e (take at values) (drop (at + n) values) front in
    let parts : homed_each (drop at rows) e (drop at values) ≡ middle ++ rest =
    ap (λ rs. homed_each rs e (drop at values)) (sym (take-append-drop n (drop at rows)))
    ∙ ap (λ vs. homed_each (take n (drop at rows) ++ drop n (drop at rows)) e vs) (sym (take-append-drop n (drop at values)))
    ∙ homed_each-append (take n (drop at rows)) (drop n (drop at rows)) e (take n (drop at values)) (drop n (drop at values)) gone
    ∙ ap (λ rs. middle ++ homed_each rs e (drop n (drop at values))) (drop-drop n at rows)
    ∙ ap (λ vs. middle ++ homed_each (drop (at + n) rows) e vs) (drop-drop n at values) in
    let was : homed_each rows e values ≡ first ++ (middle ++ rest) =
    ap (λ rs. homed_each rs e values) (sym (take-append-drop at rows))
    ∙ ap (λ vs. homed_each (take at rows ++ drop at rows) e vs) (sym (take-append-drop at values))
    ∙ homed_each-append (take at rows) (drop at rows) e (take at values) (drop at values) front
    ∙ ap (λ cs. first ++ cs) parts in
    subst (λ cs. Rest (homed_each (removed at n rows) e (removed at n values)) cs) (sym was)
    (subst (λ cs. Rest cs (first ++ (middle ++ rest))) (sym left)
    (Rest-append first rest first (middle ++ rest) (Rest-self first) (last_rests middle rest)))

pub home_removed-rests : (e : Domain) (at n : ℕ) (values : List Datum) (h : Home) → IsHomeOf h e values → Rest (homed_in (home_removed at n h) e (removed at n values)) (homed_in h e values)
home_removed-rests Domain.integer at n values (tables rows) s = absurd s
home_removed-rests Domain.integer at n values _ s = Rest-none [] _ refl
home_removed-rests Domain.long at n values (tables rows) s = absurd s
home_removed-rests Domain.long at n values _ s = Rest-none [] _ refl
home_removed-rests Domain.text at n values (tables rows) s = absurd s
home_removed-rests Domain.text at n values _ s = Rest-none [] _ refl
home_removed-rests Domain.bytes at n values (tables rows) s = absurd s
home_removed-rests Domain.bytes at n values _ s = Rest-none [] _ refl
home_removed-rests (Domain.relation g) at n values (tables rows) s =
    let e = Domain.relation g in
    let each : AreEach (each_of rows) g values = subst (λ rs. AreRowHomesOf rs g values) (sym (row_homes-each_of rows)) s in
    subst (λ rs. Rest (homed_each (removed at n (each_of rows)) e (removed at n values)) (homed_rows rs e values)) (row_homes-each_of rows)
    (removed_rests g at n values (each_of rows) each)
home_removed-rests (Domain.relation g) at n values _ s = absurd s

-- of a value that is a view: its homes have its shape, and rest on those of the value before
abbrev pub HaveShapeIn : Domain → List Home → Datum → Type 0
HaveShapeIn (Domain.relation g) homes d = AreHomesOf (column_homes homes) g 0 (rows_in d)
HaveShapeIn _ homes d = Unit {0}

abbrev pub RestIn : Domain → List Home → Datum → List Home → Datum → Type 0
RestIn (Domain.relation g) homes d old value =
    Rest (homed_from (column_homes homes) (attributes_of g) 0 (rows_in d)) (homed_from (column_homes old) (attributes_of g) 0 (rows_in value))
RestIn _ homes d old value = Unit {0}

-- a value given another
pub home_with-shape : (e : Domain) (i : ℕ) (homes : List Home) (d : Datum) (values : List Datum) (h : Home) → IsHomeOf h e values → HaveShapeIn e homes d → IsHomeOf (home_with i homes h) e (set values i d)
home_with-shape Domain.integer i homes d values (tables rows) s t = absurd s
home_with-shape Domain.integer i homes d values _ s t = tt
home_with-shape Domain.long i homes d values (tables rows) s t = absurd s
home_with-shape Domain.long i homes d values _ s t = tt
home_with-shape Domain.text i homes d values (tables rows) s t = absurd s
home_with-shape Domain.text i homes d values _ s t = tt
home_with-shape Domain.bytes i homes d values (tables rows) s t = absurd s
home_with-shape Domain.bytes i homes d values _ s t = tt
home_with-shape (Domain.relation g) i homes d values (tables rows) s t =
    let each : AreEach (each_of rows) g values = subst (λ rs. AreRowHomesOf rs g values) (sym (row_homes-each_of rows)) s in
    each-set (each_of rows) i homes g values d each t
home_with-shape (Domain.relation g) i homes d values _ s t = absurd s

pub home_with-rests : (e : Domain) (i : ℕ) (homes : List Home) (d : Datum) (values : List Datum) (h : Home) → IsHomeOf h e values
    → RestIn e homes d (homes_in h i) (get_or values i (integer (pos 0))) → Rest (homed_in (home_with i homes h) e (set values i d)) (homed_in h e values)
home_with-rests Domain.integer i homes d values (tables rows) s t = absurd s
home_with-rests Domain.integer i homes d values _ s t = Rest-none [] _ refl
home_with-rests Domain.long i homes d values (tables rows) s t = absurd s
home_with-rests Domain.long i homes d values _ s t = Rest-none [] _ refl
home_with-rests Domain.text i homes d values (tables rows) s t = absurd s
home_with-rests Domain.text i homes d values _ s t = Rest-none [] _ refl
home_with-rests Domain.bytes i homes d values (tables rows) s t = absurd s
home_with-rests Domain.bytes i homes d values _ s t = Rest-none [] _ refl
home_with-rests (Domain.relation g) i homes d values (tables rows) s t =
    let e = Domain.relation g in
    let each : AreEach (each_of rows) g values = subst (λ rs. AreRowHomesOf rs g values) (sym (row_homes-each_of rows)) s in
    subst (λ rs. Rest (homed_each (set (each_of rows) i homes) e (set values i d)) (homed_rows rs e values)) (row_homes-each_of rows)
    (homed_each-set (each_of rows) i homes e values d (each-length (each_of rows) g values each) t)
home_with-rests (Domain.relation g) i homes d values _ s t = absurd s

-- the homes in one row of a view column have the shape of the table there
pub homes_in-shape : (e : Domain) (i : ℕ) (values : List Datum) (h : Home) → i < length values → IsHomeOf h e values → HaveShapeIn e (homes_in h i) (get_or values i (integer (pos 0)))
homes_in-shape Domain.integer i values h p s = tt
homes_in-shape Domain.long i values h p s = tt
homes_in-shape Domain.text i values h p s = tt
homes_in-shape Domain.bytes i values h p s = tt
homes_in-shape (Domain.relation g) i values (tables rows) p s =
    each-at (each_of rows) i g values p (subst (λ rs. AreRowHomesOf rs g values) (sym (row_homes-each_of rows)) s)
homes_in-shape (Domain.relation g) i values _ p s = absurd s
