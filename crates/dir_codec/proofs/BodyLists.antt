-- The tables of a view column read one after another.
use Rattle.std.proofs.Common.{◌≡◌, ℕ, suc, ◌+◌, ◌-◌, ◌<◌, ◌≤◌, ◌⊎◌, inl, inr, ⊎_elim, List, [], ◌∷◌, ◌++◌, length, length-append, drop, replicate, refl, sym, ◌∙◌, ap, subst, arith}
use Rattle.std.proofs.lemmas.List.{append-nil, append_assoc}
use Rattle.byteorder.specs.Endian.{little_bytes}
use Rattle.mk_value.specs.Heading.{Heading}
use Rattle.mk_value.specs.Limits.{max_rows}
use Rattle.dir_codec.specs.declared.error.DirError.{DirError}
use Rattle.dir_codec.specs.declared.error.DirError.TheVariants.{At}
use Rattle.dir_codec.specs.Dir.{AreBodies, AreEntries, Body, bodies_from, count_bodies, entries_from, spelled_bodies, spelled_entries}
use Rattle.dir_codec.specs.Fields.{Due, columns_due, number_of_field, row_count}
use Rattle.dir_codec.specs.Reads.{bytes_at, Flaws, Leads, Reads}
use Rattle.dir_codec.proofs.Reading.{flaws_field, flaws_first, flaws_here, flaws_leads, leads_joins, leads_more, leads_none, reads_field}

-- ---- one table

abbrev IsRowsAt : List ℕ → ℕ → ℕ → Type 0
IsRowsAt bytes at n = (at + 4 ≤ length bytes) × ((n ≡ number_of_field (bytes_at at 4 bytes)) × (bytes_at at 4 bytes ≡ little_bytes 4 n) × (0 ≤ n) × (n ≤ max_rows))

-- its row count is not as required, or short
pub rows_flaw : (number end : ℕ) (h : Heading) (bytes : List ℕ) (at : ℕ) (e : DirError) → at ≤ length bytes
    → (e ≡ At at) × ((length (drop at bytes) < 4) ⊎ ((number_of_field (bytes_at at 4 bytes) < 0) ⊎ (max_rows < number_of_field (bytes_at at 4 bytes)))) → Flaws number end (row_count h ∷ []) bytes at e
rows_flaw number end h bytes at e within wrong = subst (λ (d : DirError). Flaws number end (row_count h ∷ []) bytes at d) (sym wrong.0)
    (flaws_here number end bytes (row_count h) at within
    (⊎_elim (λ short. inl short) (λ no. inr (λ next is. ⊎_elim (λ low. omega (arith, low)) (λ high. let few = is.0 in omega (arith, few, high)) no)) wrong.1))

-- its row count is, and its columns are not
pub columns_flaw : (number end : ℕ) (h : Heading) (bytes : List ℕ) (at n : ℕ) (e : DirError) → IsRowsAt bytes at n → Flaws number end (columns_due n h) bytes (at + 4) e → Flaws number end (row_count h ∷ []) bytes at e
columns_flaw number end h bytes at n e is flaws =
    let same = is.1.0 in
    let few = is.1.3 in
    flaws_field number end bytes (row_count h) (columns_due n h) at e is.0 (omega (arith, same, few), ap (λ (k : ℕ). columns_due k h) same) flaws

-- both are
pub body_read : (number end : ℕ) (h : Heading) (bytes : List ℕ) (at n to : ℕ) (s : List ℕ) → IsRowsAt bytes at n → Reads number end (columns_due n h) bytes (at + 4) to s → Reads number end (row_count h ∷ []) bytes at to (little_bytes 4 n ++ s)
body_read number end h bytes at n to s is reads =
    let same = is.1.0 in
    let few = is.1.3 in
    subst (λ (l : List ℕ). Reads number end (row_count h ∷ []) bytes at to (l ++ s)) is.1.1
    (reads_field number end bytes (row_count h) (columns_due n h) at to s is.0 (omega (arith, same, few), ap (λ (k : ℕ). columns_due k h) same) reads)

-- ---- tables, one after another

-- a table may stand under this end
abbrev pub IsBody : ℕ → Heading → Body → Type 0
IsBody end h b = (b.rows ≤ max_rows) × AreEntries end b.rows h (entries_from b.columns)

abbrev pub spelled_body : Body → List ℕ
spelled_body b = little_bytes 4 b.rows ++ spelled_entries (entries_from b.columns)

-- one table more
bodies_push : (end : ℕ) (h : Heading) (bs : List Body) (b : Body) → AreBodies end h (bodies_from bs) → IsBody end h b → AreBodies end h (bodies_from (bs ++ b ∷ []))
bodies_push end h [] b are is = (is.0, is.1, tt)
bodies_push end h (c ∷ bs) b are is = (are.0, are.1, bodies_push end h bs b are.2 is)

count_bodies-from : (bs : List Body) → count_bodies (bodies_from bs) ≡ length bs
count_bodies-from [] = refl
count_bodies-from (b ∷ bs) = let e = count_bodies-from bs in omega (arith, e)

pub spelled_bodies-push : (bs : List Body) (b : Body) → spelled_bodies (bodies_from (bs ++ b ∷ [])) ≡ spelled_bodies (bodies_from bs) ++ spelled_body b
spelled_bodies-push [] b = ap (λ (l : List ℕ). little_bytes 4 b.rows ++ l) (append-nil (spelled_entries (entries_from b.columns)))
spelled_bodies-push (c ∷ bs) b =
    let rows = little_bytes 4 c.rows in
    let columns = spelled_entries (entries_from c.columns) in
    let rest = spelled_bodies (bodies_from bs) in
    ap (λ (l : List ℕ). rows ++ (columns ++ l)) (spelled_bodies-push bs b)
    ∙ ap (λ (l : List ℕ). rows ++ l) (sym (append_assoc columns rest (spelled_body b)))
    ∙ sym (append_assoc rows (columns ++ rest) (spelled_body b))

-- what holds of so many tables
pub record AreRead (end : ℕ) (h : Heading) (bytes : List ℕ) (count at : ℕ) (bs : List Body) (done place : ℕ) : Type 0 where
  pub are : AreBodies end h (bodies_from bs)
  pub long : length bs ≡ done
  pub within : place ≤ length bytes
  pub leads : (number : ℕ) → Leads number end (replicate count (row_count h)) bytes at (replicate (count - done) (row_count h)) place (spelled_bodies (bodies_from bs))

due_next : (count done : ℕ) (d : Due) → done < count → replicate (count - done) d ≡ d ∷ replicate (count - (done + 1)) d
due_next count done d more = let e : count - done ≡ suc (count - (done + 1)) = omega arith in ap (λ (n : ℕ). replicate n d) e

pub begins : (end : ℕ) (h : Heading) (bytes : List ℕ) (count at : ℕ) → at ≤ length bytes → AreRead end h bytes count at [] 0 at
begins end h bytes count at within = record {
  are = tt;
  long = refl;
  within = within;
  leads = λ number. subst (λ (n : ℕ). Leads number end (replicate count (row_count h)) bytes at (replicate n (row_count h)) at []) (let e : count ≡ count - 0 = omega arith in e)
      (leads_none number end bytes (replicate count (row_count h)) at within);
}

-- a flaw in the next table is one of all
pub flaw_after : (number end : ℕ) (h : Heading) (bytes : List ℕ) (count at : ℕ) (bs : List Body) (done place : ℕ) (e : DirError) → done < count → AreRead end h bytes count at bs done place
    → Flaws number end (row_count h ∷ []) bytes place e → Flaws number end (replicate count (row_count h)) bytes at e
flaw_after number end h bytes count at bs done place e more read flaws =
    let rest = replicate (count - (done + 1)) (row_count h) in
    flaws_leads number end bytes (replicate count (row_count h)) (replicate (count - done) (row_count h)) at place (spelled_bodies (bodies_from bs)) e (read.leads number)
    (subst (λ (l : List Due). Flaws number end l bytes place e) (sym (due_next count done (row_count h) more)) (flaws_first number end bytes (row_count h ∷ []) rest place e flaws))

-- and of one more
pub grows : (end : ℕ) (h : Heading) (bytes : List ℕ) (count at : ℕ) (bs : List Body) (done place to : ℕ) (b : Body) → done < count → AreRead end h bytes count at bs done place → IsBody end h b
    → ((number : ℕ) → Reads number end (row_count h ∷ []) bytes place to (spelled_body b)) → AreRead end h bytes count at (bs ++ b ∷ []) (done + 1) to
grows end h bytes count at bs done place to b more read is reads =
    let d = row_count h in
    let rest = replicate (count - (done + 1)) d in
    record {
      are = bodies_push end h bs b read.are is;
      long = length-append bs (b ∷ []) ∙ ap (λ (n : ℕ). n + 1) read.long;
      within = (reads 0).within;
      leads = λ number. subst (λ (s : List ℕ). Leads number end (replicate count d) bytes at rest to s) (sym (spelled_bodies-push bs b))
          (leads_joins number end bytes (replicate count d) (replicate (count - done) d) rest at place to (spelled_bodies (bodies_from bs)) (spelled_body b) (read.leads number)
          (subst (λ (l : List Due). Leads number end l bytes place rest to (spelled_body b)) (sym (due_next count done d more))
          (leads_more number end bytes (d ∷ []) [] rest place to (spelled_body b) (reads number))));
    }

pub ends : (number end : ℕ) (h : Heading) (bytes : List ℕ) (count at : ℕ) (bs : List Body) (done place : ℕ) → done ≡ count → AreRead end h bytes count at bs done place
    → ((count_bodies (bodies_from bs) ≡ count) × AreBodies end h (bodies_from bs)) × Reads number end (replicate count (row_count h)) bytes at place (spelled_bodies (bodies_from bs))
ends number end h bytes count at bs done place all read = (
  (count_bodies-from bs ∙ read.long ∙ all, read.are),
  subst (λ (n : ℕ). Leads number end (replicate count (row_count h)) bytes at (replicate n (row_count h)) place (spelled_bodies (bodies_from bs))) (let z : count - done ≡ 0 = omega (arith, all) in z) (read.leads number),
)
