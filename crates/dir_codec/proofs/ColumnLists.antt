-- The columns of a table read one after another.
use Rattle.std.proofs.Common.{◌≡◌, ℕ, ◌+◌, ◌<◌, ◌≤◌, List, [], ◌∷◌, ◌++◌, length, take, drop, get_or, sym, ◌∙◌, ap, subst, arith}
use Rattle.std.proofs.lemmas.List.{append-nil, append_assoc, take_more, take_all, drop_all}
use Rattle.mk_value.specs.Heading.{Attribute, heading_of}
use Rattle.mk_value.proofs.Walks.{drop_read}
use Rattle.dir_codec.specs.declared.error.DirError.{DirError}
use Rattle.dir_codec.specs.Dir.{AreEntries, Entry, entries_from, IsEntry, spelled_entries, spelled_entry}
use Rattle.dir_codec.specs.Fields.{column_due, columns_due}
use Rattle.dir_codec.specs.Reads.{Flaws, Leads, Reads}
use Rattle.dir_codec.proofs.Reading.{flaws_first, flaws_leads, leads_joins, leads_more, leads_none}

-- one column more
entries_push : (end rows : ℕ) (ps : List Attribute) (es : List Entry) (a : Attribute) (e : Entry) → AreEntries end rows (heading_of ps) (entries_from es) → IsEntry end rows a.domain e
    → AreEntries end rows (heading_of (ps ++ a ∷ [])) (entries_from (es ++ e ∷ []))
entries_push end rows [] [] a e are is = (is, tt)
entries_push end rows [] (f ∷ es) a e are is = absurd are
entries_push end rows (p ∷ ps) [] a e are is = absurd are
entries_push end rows (p ∷ ps) (f ∷ es) a e are is = (are.0, entries_push end rows ps es a e are.1 is)

pub spelled_entries-push : (es : List Entry) (e : Entry) → spelled_entries (entries_from (es ++ e ∷ [])) ≡ spelled_entries (entries_from es) ++ spelled_entry e
spelled_entries-push [] e = append-nil (spelled_entry e)
spelled_entries-push (f ∷ es) e = ap (λ (l : List ℕ). spelled_entry f ++ l) (spelled_entries-push es e) ∙ sym (append_assoc (spelled_entry f) (spelled_entries (entries_from es)) (spelled_entry e))

-- what holds of the columns of the first so many properties
pub record AreRead (end : ℕ) (bytes : List ℕ) (rows at : ℕ) (ps : List Attribute) (es : List Entry) (done place : ℕ) : Type 0 where
  pub are : AreEntries end rows (heading_of (take done ps)) (entries_from es)
  pub within : place ≤ length bytes
  pub leads : (number : ℕ) → Leads number end (columns_due rows (heading_of ps)) bytes at (columns_due rows (heading_of (drop done ps))) place (spelled_entries (entries_from es))

pub begins : (end : ℕ) (bytes : List ℕ) (rows at : ℕ) (ps : List Attribute) → at ≤ length bytes → AreRead end bytes rows at ps [] 0 at
begins end bytes rows at ps within = record { are = tt; within = within; leads = λ number. leads_none number end bytes (columns_due rows (heading_of ps)) at within }

-- the next property is there
pub record IsNext (ps : List Attribute) (done : ℕ) (a : Attribute) : Type 0 where
  pub behind : drop done ps ≡ a ∷ drop (done + 1) ps
  pub upto : take (done + 1) ps ≡ take done ps ++ a ∷ []

pub next_read : (ps : List Attribute) (done : ℕ) (a : Attribute) → done < length ps → a ≡ get_or ps done a → IsNext ps done a
next_read ps done a more e = record {
  behind = drop_read ps done a more e;
  upto = take_more ps done a more ∙ ap (λ (x : Attribute). take done ps ++ x ∷ []) (sym e);
}

-- a flaw in the next column is one of the table
pub flaw_after : (number end : ℕ) (bytes : List ℕ) (rows at : ℕ) (ps : List Attribute) (es : List Entry) (done place : ℕ) (a : Attribute) (e : DirError) → IsNext ps done a → AreRead end bytes rows at ps es done place
    → Flaws number end (column_due rows a.domain) bytes place e → Flaws number end (columns_due rows (heading_of ps)) bytes at e
flaw_after number end bytes rows at ps es done place a e next read flaws =
    flaws_leads number end bytes (columns_due rows (heading_of ps)) (columns_due rows (heading_of (drop done ps))) at place (spelled_entries (entries_from es)) e (read.leads number)
    (subst (λ (l : List Attribute). Flaws number end (columns_due rows (heading_of l)) bytes place e) (sym next.behind)
    (flaws_first number end bytes (column_due rows a.domain) (columns_due rows (heading_of (drop (done + 1) ps))) place e flaws))

-- and of one more
pub grows : (end : ℕ) (bytes : List ℕ) (rows at : ℕ) (ps : List Attribute) (es : List Entry) (done place to : ℕ) (a : Attribute) (e : Entry) → IsNext ps done a → AreRead end bytes rows at ps es done place
    → IsEntry end rows a.domain e → ((number : ℕ) → Reads number end (column_due rows a.domain) bytes place to (spelled_entry e)) → AreRead end bytes rows at ps (es ++ e ∷ []) (done + 1) to
grows end bytes rows at ps es done place to a e next read is reads =
    let rest = columns_due rows (heading_of (drop (done + 1) ps)) in
    let first = column_due rows a.domain in
    record {
      are = subst (λ (l : List Attribute). AreEntries end rows (heading_of l) (entries_from (es ++ e ∷ []))) (sym next.upto) (entries_push end rows (take done ps) es a e read.are is);
      within = (reads 0).within;
      leads = λ number. subst (λ (s : List ℕ). Leads number end (columns_due rows (heading_of ps)) bytes at rest to s) (sym (spelled_entries-push es e))
          (leads_joins number end bytes (columns_due rows (heading_of ps)) (columns_due rows (heading_of (drop done ps))) rest at place to (spelled_entries (entries_from es)) (spelled_entry e) (read.leads number)
          (subst (λ (l : List Attribute). Leads number end (columns_due rows (heading_of l)) bytes place rest to (spelled_entry e)) (sym next.behind)
          (leads_more number end bytes first [] rest place to (spelled_entry e) (reads number))));
    }

pub ends : (number end : ℕ) (bytes : List ℕ) (rows at : ℕ) (ps : List Attribute) (es : List Entry) (done place : ℕ) → done ≡ length ps → AreRead end bytes rows at ps es done place
    → AreEntries end rows (heading_of ps) (entries_from es) × Reads number end (columns_due rows (heading_of ps)) bytes at place (spelled_entries (entries_from es))
ends number end bytes rows at ps es done place all read = (
  subst (λ (l : List Attribute). AreEntries end rows (heading_of l) (entries_from es)) (take_all done ps (omega (arith, all))) read.are,
  subst (λ (l : List Attribute). Leads number end (columns_due rows (heading_of ps)) bytes at (columns_due rows (heading_of l)) place (spelled_entries (entries_from es))) (drop_all done ps (omega (arith, all))) (read.leads number),
)
