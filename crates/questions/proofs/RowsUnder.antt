-- The rows of what a cursor stands on.
use Rattle.std.proofs.Common.{◌≡◌, ◌⊎◌, inl, inr, ◌<◌, ℕ, Bool, true, false, List, [], ◌∷◌, length, get_or, Option, Some, None, Result, Ok, Err, IfSome, MatchOption, refl, ap, sym, subst, ◌∙◌, arith}
use Rattle.std.specs.Prelude.{find}
use Rattle.std.specs.List.{list_any}
use Rattle.std.specs.Option.{option_map, unwrap_or}
use Rattle.eval.specs.Names.{Named, seen_at, table_at}
use Rattle.eval.specs.declared.error.NameError.{NameError}
use Rattle.eval.specs.declared.error.NameError.TheVariants.{NoName, Memory}
use Rattle.watches.specs.Keeping.{StandsAt}
use Rattle.watches.specs.Watches.{Followed, is_among, is_watch, found, place_of, shown_at, shown_in, source_in, source_of}
use Rattle.mk_value.specs.Data.{Datum}
use Rattle.mk_value.specs.Tables.{Table}
use Rattle.relations.proofs.Faults.{cases}
use Rattle.tables.specs.Tables.{StoredTable}
use Rattle.view_store.specs.Views.{NamedTable, table_of}
use Rattle.questions.specs.Cursors.{rows_watched}

-- the rows of a table that was found, or none
pub rows_by : {R T : Type 0} (r : Option R) (o : Option T) (see : R → T) (rows : T → List (List Datum)) → MatchOption r (o ≡ None) (λ t. o ≡ Some (see t))
    → unwrap_or (option_map (λ t. rows (see t)) r) [] ≡ unwrap_or (option_map rows o) []
rows_by None o see rows h = sym (ap (λ p. unwrap_or (option_map rows p) []) h)
rows_by (Some t) o see rows h = sym (ap (λ p. unwrap_or (option_map rows p) []) h)

-- a name that no watch has
find_nothing : {X : Type 0} (p : X → Bool) (xs : List X) → list_any p xs ≡ false → find p xs ≡ None
find_nothing p [] h = refl
find_nothing p (x ∷ xs) h = cases (p x)
    (λ e. absurd (let f : true ≡ false = rw e at h in cc))
    (λ e. rw e (find_nothing p xs (rw e at h)))

pub no_rows : (views : List NamedTable) (all : List Followed) (name : List ℕ) → is_watch all name ≡ false → rows_watched views all name ≡ []
no_rows views all name h =
    ap (λ f. unwrap_or (option_map (λ (t : Table). t.rows) (shown_in views f name)) []) (find_nothing (λ (f : Followed). is_among f.watches name) all h)

-- how many there are
pub size_shown : (o : Option Table) (n : ℕ) → option_map (λ (t : Table). length t.rows) o ≡ Some n → n ≡ length (unwrap_or (option_map (λ (t : Table). t.rows) o) [])
size_shown None n h = absurd (let f : ◌≡◌ {A = Option ℕ} None (Some n) = h in cc)
size_shown (Some t) n h = let f : ◌≡◌ {A = Option ℕ} (Some (length t.rows)) (Some n) = h in cc

-- a watch that has a row is there
pub some_rows : (views : List NamedTable) (all : List Followed) (name : List ℕ) (row : ℕ) → row < length (rows_watched views all name) → is_watch all name ≡ true
some_rows views all name row h = cases (is_watch all name)
    (λ e. e)
    (λ e. absurd (let none = ap length (no_rows views all name e) in omega (arith, h, none)))

-- a row that there is
pub row_there : (o : Option Table) (row : ℕ) → row < length (unwrap_or (option_map (λ (t : Table). t.rows) o) []) → IfSome o (λ t. row < length t.rows)
row_there None row h = absurd (omega (arith, h))
row_there (Some t) row h = h

-- the view of a watch that has a row
no_view : (views : List NamedTable) (name : List ℕ) (f : Option Followed) (row : ℕ) → row < length (unwrap_or (option_map (λ (t : Table). t.rows) (shown_in views f name)) [])
    → table_of views (source_in f name).view ≡ None → ⊥
no_view views name None row h none = omega (arith, h)
no_view views name (Some f) row h none =
    let empty = ap (λ o. length (unwrap_or (option_map (λ (t : Table). t.rows) (option_map (shown_at f.watches (place_of f.watches name)) o)) [])) none in
    omega (arith, h, empty)

pub view_there : (views : List NamedTable) (all : List Followed) (name : List ℕ) (row : ℕ) → row < length (rows_watched views all name) → table_of views (source_of all name).view ≡ None → ⊥
view_there views all name row h none = no_view views name (found all name) row h none

pub row_shown : (o : Option StoredTable) (t : StoredTable) (shown : Option Table) (at row : ℕ) → o ≡ Some t → IfSome o (λ t. StandsAt t.rows at shown row)
    → (at < length t.rows) × (get_or t.rows at [] ≡ get_or (unwrap_or (option_map (λ (t : Table). t.rows) shown) []) row [])
row_shown None t shown at row is h = absurd (let f : ◌≡◌ {A = Option StoredTable} None (Some t) = is in cc)
row_shown (Some u) t shown at row is h =
    let same : u ≡ t = (let f : ◌≡◌ {A = Option StoredTable} (Some u) (Some t) = is in cc) in (
      subst (λ (x : StoredTable). at < length x.rows) same h.there,
      ap (λ (x : StoredTable). get_or x.rows at []) (sym same) ∙ h.same ∙ ap (λ o. get_or (unwrap_or (option_map (λ (t : Table). t.rows) o) []) row []) (sym h.is),
    )

-- the rows of what a name without steps stands for
pub rows_found : (o : Option Named) (t : Table) → seen_at o [] ≡ Ok t → unwrap_or (option_map (λ (n : Named). n.table.rows) o) [] ≡ t.rows
rows_found None t h = absurd (let clash : ◌≡◌ {A = Result Table NameError} (Err NoName) (Ok t) = h in cc)
rows_found (Some n) t h =
    let same : record { schema = n.table.schema; rows = n.table.rows } ≡ t =
    (let f : ◌≡◌ {A = Result Table NameError} (Ok (record { schema = n.table.schema; rows = n.table.rows })) (Ok t) = h in cc) in
    ap (λ (t : Table). t.rows) same

-- where no steps follow, all that is refused is the name
pub no_rows_found : (o : Option Named) (e : NameError) → e ≡ NoName → (e ≡ Memory) ⊎ (seen_at o [] ≡ Err e) → unwrap_or (option_map (λ (n : Named). n.table.rows) o) [] ≡ []
no_rows_found None e none h = refl
no_rows_found (Some n) e none h =
    elim h [
      | inl memory ↦ absurd (let clash : ◌≡◌ {A = NameError} NoName Memory = cc in cc)
      | inr is ↦ absurd (let clash : ◌≡◌ {A = Result Table NameError} (table_at [] n.table) (Err e) = is in cc)
    ]
