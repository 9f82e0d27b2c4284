-- Notes read one after another.
use Rattle.std.proofs.Common.{◌≡◌, ℕ, suc, ◌+◌, ◌-◌, ◌<◌, ◌≤◌, ◌⊎◌, inl, inr, ⊎_elim, List, [], ◌∷◌, ◌++◌, length, length-append, map, drop, refl, sym, ◌∙◌, ap, subst, arith}
use Rattle.std.specs.List.{flat_map}
use Rattle.std.proofs.lemmas.List.{append-nil, append_assoc}
use Rattle.byteorder.specs.Endian.{little_bytes}
use Rattle.dir_codec.specs.declared.dir.Note.{Note}
use Rattle.dir_codec.specs.declared.error.DirError.{DirError}
use Rattle.dir_codec.specs.declared.error.DirError.TheVariants.{At}
use Rattle.dir_codec.specs.Dir.{AreNotesFrom, spelled_note, spelled_notes}
use Rattle.dir_codec.specs.Fields.{Due, note_count, note_number, notes_due, number_of_field}
use Rattle.dir_codec.specs.Parts.{IsNote}
use Rattle.dir_codec.specs.Reads.{bytes_at, Leads, Flaws}
use Rattle.dir_codec.specs.Values.{note_of}
use Rattle.dir_codec.proofs.Reading.{flaws_here, flaws_leads, leads_field, leads_joins}

-- the number of the last of these notes
abbrev pub last_number : ℕ → List Note → ℕ
last_number last [] = last
last_number last (note ∷ notes) = last_number note.number notes

-- one note more
pub notes_push : (number last : ℕ) (notes : List Note) (note : Note) → AreNotesFrom number (last + 1) (map note_of notes) → IsNote number (last_number last notes + 1) (note_of note)
    → AreNotesFrom number (last + 1) (map note_of (notes ++ note ∷ []))
notes_push number last [] note are is = (is.from, is.upto, is.some, is.few, is.text, tt)
notes_push number last (n ∷ notes) note are is = (are.0, are.1, are.2, are.3, are.4, notes_push number n.number notes note are.5 is)

pub last_number-push : (last : ℕ) (notes : List Note) (note : Note) → last_number last (notes ++ note ∷ []) ≡ note.number
last_number-push last [] note = refl
last_number-push last (n ∷ notes) note = last_number-push n.number notes note

abbrev pub spelled_each : List Note → List ℕ
spelled_each notes = flat_map spelled_note (map note_of notes)

pub spelled_each-push : (notes : List Note) (note : Note) → spelled_each (notes ++ note ∷ []) ≡ spelled_each notes ++ spelled_note (note_of note)
spelled_each-push [] note = append-nil (spelled_note (note_of note))
spelled_each-push (n ∷ notes) note =
    ap (λ (l : List ℕ). spelled_note (note_of n) ++ l) (spelled_each-push notes note) ∙ sym (append_assoc (spelled_note (note_of n)) (spelled_each notes) (spelled_note (note_of note)))

due_next : (count done last : ℕ) → done < count → notes_due (count - done) (last + 1) ≡ note_number (count - (done + 1)) (last + 1) ∷ []
due_next count done last more = let e : count - done ≡ suc (count - (done + 1)) = omega arith in ap (λ (n : ℕ). notes_due n (last + 1)) e

abbrev IsCountAt : List ℕ → ℕ → ℕ → Type 0
IsCountAt bytes at n = (at + 4 ≤ length bytes) × ((n ≡ number_of_field (bytes_at at 4 bytes)) × (bytes_at at 4 bytes ≡ little_bytes 4 n) × (1 ≤ n) × (n ≤ 64))

pub count_flaw : (number end : ℕ) (bytes : List ℕ) (at : ℕ) (e : DirError) → at ≤ length bytes
    → (e ≡ At at) × ((length (drop at bytes) < 4) ⊎ ((number_of_field (bytes_at at 4 bytes) < 1) ⊎ (64 < number_of_field (bytes_at at 4 bytes)))) → Flaws number end (note_count ∷ []) bytes at e
count_flaw number end bytes at e within wrong = subst (λ (d : DirError). Flaws number end (note_count ∷ []) bytes at d) (sym wrong.0)
    (flaws_here number end bytes note_count at within
    (⊎_elim (λ short. inl short) (λ no. inr (λ next is. ⊎_elim (λ low. let a = is.0 in omega (arith, a, low)) (λ high. let b = is.1 in omega (arith, b, high)) no)) wrong.1))

-- what holds of so many notes
pub record AreRead (number : ℕ) (bytes : List ℕ) (count at : ℕ) (notes : List Note) (done last place : ℕ) : Type 0 where
  pub are : AreNotesFrom number 1 (map note_of notes)
  pub long : length notes ≡ done
  pub from : last ≡ last_number 0 notes
  pub within : place ≤ length bytes
  pub leads : (end : ℕ) → Leads number end (note_count ∷ []) bytes at (notes_due (count - done) (last + 1)) place (little_bytes 4 count ++ spelled_each notes)

pub begins : (number : ℕ) (bytes : List ℕ) (count at : ℕ) → IsCountAt bytes at count → AreRead number bytes count at [] 0 0 (at + 4)
begins number bytes count at is =
    let same = is.1.0 in
    let low = is.1.2 in
    let high = is.1.3 in
    let e : count ≡ count - 0 = omega arith in
    record {
      are = tt;
      long = refl;
      from = refl;
      within = is.0;
      leads = λ end. subst (λ (l : List ℕ). Leads number end (note_count ∷ []) bytes at (notes_due (count - 0) 1) (at + 4) l) (is.1.1 ∙ sym (append-nil (little_bytes 4 count)))
          (leads_field number end bytes note_count (notes_due (count - 0) 1) at is.0 (omega (arith, same, low), omega (arith, same, high), ap (λ (k : ℕ). notes_due k 1) (sym e ∙ same)));
    }

pub flaw_after : (number end : ℕ) (bytes : List ℕ) (count done last at place : ℕ) (s : List ℕ) (e : DirError) → done < count → Leads number end (note_count ∷ []) bytes at (notes_due (count - done) (last + 1)) place s
    → Flaws number end (note_number (count - (done + 1)) (last + 1) ∷ []) bytes place e → Flaws number end (note_count ∷ []) bytes at e
flaw_after number end bytes count done last at place s e more leads flaws =
    flaws_leads number end bytes (note_count ∷ []) (notes_due (count - done) (last + 1)) at place s e leads
    (subst (λ (l : List Due). Flaws number end l bytes place e) (sym (due_next count done last more)) flaws)

-- and of one more
pub grows : (number : ℕ) (bytes : List ℕ) (count done last at place next : ℕ) (notes : List Note) (note : Note) → done < count → AreRead number bytes count at notes done last place → IsNote number (last + 1) (note_of note)
    → ((end : ℕ) → Leads number end (note_number (count - (done + 1)) (last + 1) ∷ []) bytes place (notes_due (count - (done + 1)) (note.number + 1)) next (spelled_note (note_of note)))
    → AreRead number bytes count at (notes ++ note ∷ []) (done + 1) note.number next
grows number bytes count done last at place next notes note more read is then = record {
  are = notes_push number 0 notes note read.are (subst (λ (n : ℕ). IsNote number (n + 1) (note_of note)) read.from is);
  long = length-append notes (note ∷ []) ∙ ap (λ (n : ℕ). n + 1) read.long;
  from = sym (last_number-push 0 notes note);
  within = (then 0).within;
  leads = λ end. subst (λ (s : List ℕ). Leads number end (note_count ∷ []) bytes at (notes_due (count - (done + 1)) (note.number + 1)) next s)
      (append_assoc (little_bytes 4 count) (spelled_each notes) (spelled_note (note_of note)) ∙ ap (λ (l : List ℕ). little_bytes 4 count ++ l) (sym (spelled_each-push notes note)))
      (leads_joins number end bytes (note_count ∷ []) (notes_due (count - done) (last + 1)) (notes_due (count - (done + 1)) (note.number + 1)) at place next (little_bytes 4 count ++ spelled_each notes) (spelled_note (note_of note)) (read.leads end)
      (subst (λ (l : List Due). Leads number end l bytes place (notes_due (count - (done + 1)) (note.number + 1)) next (spelled_note (note_of note))) (sym (due_next count done last more)) (then end)));
}

-- some notes with their count before them
spelled_some : (notes : List Note) → 1 ≤ length notes → little_bytes 4 (length notes) ++ spelled_each notes ≡ spelled_notes (map note_of notes)
spelled_some [] some = absurd (let z : ⊥ = omega (arith, some) in z)
spelled_some (n ∷ notes) some = ap (λ (k : ℕ). little_bytes 4 k ++ spelled_each (n ∷ notes)) (same_length (n ∷ notes))
  where
    same_length : (l : List Note) → length l ≡ length (map note_of l)
    same_length [] = refl
    same_length (m ∷ l) = ap suc (same_length l)

pub ends : (number end : ℕ) (bytes : List ℕ) (count done last at place : ℕ) (notes : List Note) → done ≡ count → 1 ≤ count → count ≤ 64 → AreRead number bytes count at notes done last place
    → (AreNotesFrom number 1 (map note_of notes) × (1 ≤ length notes) × (length notes ≤ 64)) × Leads number end (note_count ∷ []) bytes at [] place (spelled_notes (map note_of notes))
ends number end bytes count done last at place notes all some few read =
    let long : length notes ≡ count = read.long ∙ all in (
      (read.are, omega (arith, long, some), omega (arith, long, few)),
      subst (λ (s : List ℕ). Leads number end (note_count ∷ []) bytes at [] place s) (ap (λ (k : ℕ). little_bytes 4 k ++ spelled_each notes) (sym long) ∙ spelled_some notes (omega (arith, long, some)))
          (subst (λ (n : ℕ). Leads number end (note_count ∷ []) bytes at (notes_due n (last + 1)) place (little_bytes 4 count ++ spelled_each notes)) (let z : count - done ≡ 0 = omega (arith, all) in z) (read.leads end)),
    )
