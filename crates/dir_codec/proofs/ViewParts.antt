-- A view, field by field.
use Rattle.std.proofs.Common.{◌≡◌, ℕ, ◌+◌, ◌<◌, ◌≤◌, ◌⊎◌, inl, inr, ⊎_elim, List, [], ◌∷◌, ◌++◌, length, drop, refl, sym, ◌∙◌, ap, subst, arith, Contains}
use Rattle.std.proofs.lemmas.List.{append_assoc}
use Rattle.byteorder.specs.Endian.{little_bytes}
use Rattle.mk_value.specs.Heading.{Attribute, heading_of}
use Rattle.mk_value.specs.Limits.{max_rows, max_structure}
use Rattle.struct_text.specs.Spelling.{spelling, Spells}
use Rattle.struct_text.proofs.Unique.{one_structure}
use Rattle.dir_codec.specs.declared.dir.DirView.{DirView}
use Rattle.dir_codec.specs.declared.error.DirError.{DirError}
use Rattle.dir_codec.specs.declared.error.DirError.TheVariants.{At, Memory}
use Rattle.dir_codec.specs.Dir.{AreEntries, Entry, entries_from, IsViewEntry, spelled_entries, spelled_view}
use Rattle.dir_codec.specs.Fields.{Due, number_of_field, row_count, structure, text_length, views_due}
use Rattle.dir_codec.specs.Parts.{IsNewStructure, names_before, spelled_structure}
use Rattle.dir_codec.specs.Reads.{bytes_at, Flaws, Leads, Reads}
use Rattle.dir_codec.proofs.Fits.{part_length}
use Rattle.dir_codec.proofs.Reading.{flaws_first, flaws_here, flaws_leads, leads_field, leads_joins, leads_more}

abbrev IsLengthAt : List ℕ → ℕ → ℕ → Type 0
IsLengthAt bytes at n = (at + 4 ≤ length bytes) × ((n ≡ number_of_field (bytes_at at 4 bytes)) × (bytes_at at 4 bytes ≡ little_bytes 4 n) × (0 ≤ n) × (n ≤ max_structure))

module _ (number end more : ℕ) (names : List (List ℕ)) (bytes : List ℕ) where
  abbrev one_view : List Due
  one_view = text_length more names ∷ []

  abbrev behind : List ℕ → List Attribute → List Due
  behind name schema = row_count (heading_of schema) ∷ views_due more (name ∷ names)

  pub length_flaw : (at : ℕ) (e : DirError) → at ≤ length bytes
      → (e ≡ At at) × ((length (drop at bytes) < 4) ⊎ ((number_of_field (bytes_at at 4 bytes) < 0) ⊎ (max_structure < number_of_field (bytes_at at 4 bytes)))) → Flaws number end one_view bytes at e
  length_flaw at e within wrong = subst (λ (d : DirError). Flaws number end one_view bytes at d) (sym wrong.0)
      (flaws_here number end bytes (text_length more names) at within
      (⊎_elim (λ short. inl short) (λ no. inr (λ next is. ⊎_elim (λ low. omega (arith, low)) (λ high. let few = is.0 in omega (arith, few, high)) no)) wrong.1))

  length_leads : (at len : ℕ) → IsLengthAt bytes at len → Leads number end one_view bytes at (structure len more names ∷ []) (at + 4) (little_bytes 4 len)
  length_leads at len is =
      let same = is.1.0 in
      let few = is.1.3 in
      subst (λ (l : List ℕ). Leads number end one_view bytes at (structure len more names ∷ []) (at + 4) l) is.1.1
      (leads_field number end bytes (text_length more names) (structure len more names ∷ []) at is.0 (omega (arith, same, few), ap (λ (k : ℕ). structure k more names ∷ []) same))

  -- its structure text is short, or none; or there is no memory for what it says
  pub text_flaw : (at len : ℕ) (e : DirError) → IsLengthAt bytes at len
      → (e ≡ Memory) ⊎ ((e ≡ At (at + 4)) × ((length (drop (at + 4) bytes) < len) ⊎ ((name : List ℕ) (schema : List Attribute) → Spells (bytes_at (at + 4) len bytes) name schema → ⊥)))
      → Flaws number end one_view bytes at e
  text_flaw at len e is wrong = ⊎_elim
      (λ memory. subst (λ (d : DirError). Flaws number end one_view bytes at d) (sym memory) tt)
      (λ no. flaws_leads number end bytes one_view (structure len more names ∷ []) at (at + 4) (little_bytes 4 len) e (length_leads at len is)
      (subst (λ (d : DirError). Flaws number end (structure len more names ∷ []) bytes (at + 4) d) (sym no.0)
      (flaws_here number end bytes (structure len more names) (at + 4) is.0 (⊎_elim (λ short. inl short) (λ bad. inr (λ next b. bad b.0 b.1 b.2)) no.1))))
      wrong

  -- its name stood before
  pub name_flaw : (at len : ℕ) (name : List ℕ) (schema : List Attribute) → IsLengthAt bytes at len → Spells (bytes_at (at + 4) len bytes) name schema → Contains names name
      → Flaws number end one_view bytes at (At (at + 4))
  name_flaw at len name schema is spells before = flaws_leads number end bytes one_view (structure len more names ∷ []) at (at + 4) (little_bytes 4 len) (At (at + 4)) (length_leads at len is)
      (flaws_here number end bytes (structure len more names) (at + 4) is.0
      (inr (λ next b. let same = one_structure (bytes_at (at + 4) len bytes) name b.0 schema b.1 spells b.2 in b.3 (subst (λ (n : List ℕ). Contains names n) same.0 before))))

  pub structure_leads : (at len : ℕ) (name : List ℕ) (schema : List Attribute) → IsLengthAt bytes at len → at + 4 + len ≤ length bytes → Spells (bytes_at (at + 4) len bytes) name schema → (Contains names name → ⊥)
      → Leads number end one_view bytes at (behind name schema) (at + 4 + len) (spelled_structure name schema)
  structure_leads at len name schema is whole spells new =
      let long : length (spelling name schema) ≡ len = ap length (sym spells.is) ∙ part_length (at + 4) len bytes whole in
      let second = leads_field number end bytes (structure len more names) (behind name schema) (at + 4) whole (name, schema, spells, new, refl) in
      let both = leads_joins number end bytes one_view (structure len more names ∷ []) (behind name schema) at (at + 4) (at + 4 + len) (little_bytes 4 len) (bytes_at (at + 4) len bytes) (length_leads at len is) second in
      subst (λ (l : List ℕ). Leads number end one_view bytes at (behind name schema) (at + 4 + len) l)
      (ap (λ (l : List ℕ). little_bytes 4 len ++ l) spells.is ∙ ap (λ (n : ℕ). little_bytes 4 n ++ spelling name schema) (sym long)) both

  -- its table is not as required
  pub body_flaw : (at mid : ℕ) (name : List ℕ) (schema : List Attribute) (e : DirError) → Leads number end one_view bytes at (behind name schema) mid (spelled_structure name schema)
      → Flaws number end (row_count (heading_of schema) ∷ []) bytes mid e → Flaws number end one_view bytes at e
  body_flaw at mid name schema e leads flaws = flaws_leads number end bytes one_view (behind name schema) at mid (spelled_structure name schema) e leads
      (flaws_first number end bytes (row_count (heading_of schema) ∷ []) (views_due more (name ∷ names)) mid e flaws)

  pub view_leads : (at mid to : ℕ) (name : List ℕ) (schema : List Attribute) (rows : ℕ) (columns : List Entry) → Leads number end one_view bytes at (behind name schema) mid (spelled_structure name schema)
      → Reads number end (row_count (heading_of schema) ∷ []) bytes mid to (little_bytes 4 rows ++ spelled_entries (entries_from columns))
      → Leads number end one_view bytes at (views_due more (name ∷ names)) to (spelled_view (record { name = name; schema = schema; rows = rows; columns = entries_from columns }))
  view_leads at mid to name schema rows columns leads reads =
      let others = views_due more (name ∷ names) in
      let entries = spelled_entries (entries_from columns) in
      subst (λ (l : List ℕ). Leads number end one_view bytes at others to l) (sym (append_assoc (spelled_structure name schema) (little_bytes 4 rows) entries))
      (leads_joins number end bytes one_view (behind name schema) others at mid to (spelled_structure name schema) (little_bytes 4 rows ++ entries) leads
      (leads_more number end bytes (row_count (heading_of schema) ∷ []) [] others mid to (little_bytes 4 rows ++ entries) reads))

pub is_view : (end : ℕ) (views : List DirView) (name : List ℕ) (schema : List Attribute) (rows : ℕ) (columns : List Entry) → IsNewStructure views name schema → (rows ≤ max_rows) × AreEntries end rows (heading_of schema) (entries_from columns)
    → IsViewEntry end (record { name = name; schema = schema; rows = rows; columns = entries_from columns })
is_view end views name schema rows columns new body = record { named = new.named; whole = new.whole; short = new.short; few = body.0; entries = body.1 }

pub new_structure : (views : List DirView) (bytes : List ℕ) (at len : ℕ) (name : List ℕ) (schema : List Attribute) → at + len ≤ length bytes → len ≤ max_structure → Spells (bytes_at at len bytes) name schema → (Contains (names_before views) name → ⊥)
    → IsNewStructure views name schema
new_structure views bytes at len name schema whole few spells new =
    let long = ap length (sym spells.is) ∙ part_length at len bytes whole in
    record { named = spells.named; whole = spells.whole; short = omega (arith, long, few); new = new }
