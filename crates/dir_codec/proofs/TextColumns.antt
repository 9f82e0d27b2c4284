-- A column of texts or byte strings, field by field.
use Rattle.std.proofs.Common.{◌≡◌, ℕ, ◌+◌, ◌<◌, ◌≤◌, ◌⊎◌, inl, inr, ⊎_elim, List, [], ◌∷◌, ◌++◌, length, drop, refl, sym, ◌∙◌, ap, subst, arith}
use Rattle.std.proofs.lemmas.List.{append_assoc}
use Rattle.bit_pack.specs.declared.widths.Width.{Width}
use Rattle.bit_pack.specs.Width.{bit_count}
use Rattle.bit_pack.specs.Packed.{packed_len}
use Rattle.byteorder.specs.Endian.{little_bytes}
use Rattle.mk_value.specs.declared.span.Span.{Span}
use Rattle.dir_codec.specs.declared.dir.Memo.{Memo}
use Rattle.dir_codec.specs.declared.error.DirError.{DirError}
use Rattle.dir_codec.specs.declared.error.DirError.TheVariants.{At}
use Rattle.dir_codec.specs.Dir.{Entry, IsSpan, spelled_entry, spelled_span}
use Rattle.dir_codec.specs.Fields.{Due, block, IsField, memo_count, memos_due, number_of_field, short_block, sizes_width, span_of_field}
use Rattle.dir_codec.specs.Parts.{spelled_memos, spelled_numbers, strings_due}
use Rattle.dir_codec.specs.Reads.{bytes_at, Flaws, Leads, Reads}
use Rattle.dir_codec.proofs.Reading.{flaws_first, flaws_here, flaws_leads, leads_field, leads_joins, leads_more}

-- the bytes of a width, of a span, and of a count
abbrev IsWidthAt : List ℕ → ℕ → Width → Type 0
IsWidthAt bytes at w = (at + 1 ≤ length bytes) × ((bytes_at at 1 bytes ≡ bit_count w ∷ []) × (bit_count w ≤ 32))

abbrev IsBlockAt : ℕ → List ℕ → ℕ → Span → Type 0
IsBlockAt end bytes at s = (at + 16 ≤ length bytes) × ((s ≡ span_of_field (bytes_at at 16 bytes)) × (bytes_at at 16 bytes ≡ spelled_span s) × IsSpan end s)

abbrev IsCountAt : ℕ → List ℕ → ℕ → ℕ → Type 0
IsCountAt rows bytes at n = (at + 4 ≤ length bytes) × ((n ≡ number_of_field (bytes_at at 4 bytes)) × (bytes_at at 4 bytes ≡ little_bytes 4 n) × (0 ≤ n) × (n ≤ rows))

module _ (number end rows : ℕ) (bytes : List ℕ) where
  -- what is due behind a width, and behind the block of sizes
  abbrev behind_width : Width → List Due
  behind_width w = block (packed_len w rows) ∷ short_block ∷ memo_count rows ∷ []

  abbrev behind_sizes : List Due
  behind_sizes = short_block ∷ memo_count rows ∷ []

  pub sizes_width_flaw : (at : ℕ) (e : DirError) → at ≤ length bytes → (e ≡ At at) × ((length (drop at bytes) < 1) ⊎ ((w : Width) → bytes_at at 1 bytes ≡ bit_count w ∷ [] → bit_count w ≤ 32 → ⊥))
      → Flaws number end (strings_due rows) bytes at e
  sizes_width_flaw at e within wrong = subst (λ (d : DirError). Flaws number end (strings_due rows) bytes at d) (sym wrong.0)
      (flaws_here number end bytes (sizes_width rows) at within (⊎_elim (λ short. inl short) (λ no. inr (λ next is. no is.0 is.1 is.2)) wrong.1))

  width_leads : (at : ℕ) (w : Width) → IsWidthAt bytes at w → Leads number end (strings_due rows) bytes at (behind_width w) (at + 1) (bit_count w ∷ [])
  width_leads at w is = subst (λ (l : List ℕ). Leads number end (strings_due rows) bytes at (behind_width w) (at + 1) l) is.1.0
      (leads_field number end bytes (sizes_width rows) (behind_width w) at is.0 (w, is.1.0, is.1.1, refl))

  pub sizes_block_flaw : (at : ℕ) (w : Width) (e : DirError) → IsWidthAt bytes at w
      → (e ≡ At (at + 1)) × ((length (drop (at + 1) bytes) < 16) ⊎ (IsSpan end (span_of_field (bytes_at (at + 1) 16 bytes)) → (span_of_field (bytes_at (at + 1) 16 bytes)).len ≡ packed_len w rows → ⊥))
      → Flaws number end (strings_due rows) bytes at e
  sizes_block_flaw at w e is wrong = flaws_leads number end bytes (strings_due rows) (behind_width w) at (at + 1) (bit_count w ∷ []) e (width_leads at w is)
      (subst (λ (d : DirError). Flaws number end (behind_width w) bytes (at + 1) d) (sym wrong.0)
      (flaws_first number end bytes (block (packed_len w rows) ∷ []) behind_sizes (at + 1) (At (at + 1))
      (flaws_here number end bytes (block (packed_len w rows)) (at + 1) is.0 (⊎_elim (λ short. inl short) (λ no. inr (λ next b. no b.0 b.1)) wrong.1))))

  pub sizes_lead : (at : ℕ) (w : Width) (s : Span) → IsWidthAt bytes at w → IsBlockAt end bytes (at + 1) s → s.len ≡ packed_len w rows
      → Leads number end (strings_due rows) bytes at behind_sizes (at + 17) (spelled_numbers (w, s))
  sizes_lead at w s is there len =
      let same = there.1.0 in
      let to : at + 1 + 16 ≡ at + 17 = omega arith in
      let block_is : IsField number end (block (packed_len w rows)) (bytes_at (at + 1) 16 bytes) [] = (subst (IsSpan end) same there.1.2, ap (λ (t : Span). t.len) (sym same) ∙ len, refl) in
      let second = leads_more number end bytes (block (packed_len w rows) ∷ []) [] behind_sizes (at + 1) (at + 1 + 16) (bytes_at (at + 1) 16 bytes)
      (leads_field number end bytes (block (packed_len w rows)) [] (at + 1) there.0 block_is) in
      let both = leads_joins number end bytes (strings_due rows) (behind_width w) behind_sizes at (at + 1) (at + 1 + 16) (bit_count w ∷ []) (bytes_at (at + 1) 16 bytes) (width_leads at w is) second in
      subst (λ (n : ℕ). Leads number end (strings_due rows) bytes at behind_sizes n (spelled_numbers (w, s))) to
      (subst (λ (l : List ℕ). Leads number end (strings_due rows) bytes at behind_sizes (at + 1 + 16) (bit_count w ∷ l)) there.1.1 both)

  -- ---- behind the sizes

  pub short_flaw : (at : ℕ) (w : Width) (s : Span) (e : DirError) → Leads number end (strings_due rows) bytes at behind_sizes (at + 17) (spelled_numbers (w, s))
      → (e ≡ At (at + 17)) × ((length (drop (at + 17) bytes) < 16) ⊎ (IsSpan end (span_of_field (bytes_at (at + 17) 16 bytes)) → ⊥))
      → Flaws number end (strings_due rows) bytes at e
  short_flaw at w s e leads wrong = flaws_leads number end bytes (strings_due rows) behind_sizes at (at + 17) (spelled_numbers (w, s)) e leads
      (subst (λ (d : DirError). Flaws number end behind_sizes bytes (at + 17) d) (sym wrong.0)
      (flaws_first number end bytes (short_block ∷ []) (memo_count rows ∷ []) (at + 17) (At (at + 17))
      (flaws_here number end bytes short_block (at + 17) leads.within (⊎_elim (λ short. inl short) (λ no. inr (λ next b. no b.0)) wrong.1))))

  short_leads : (at : ℕ) (w : Width) (s short : Span) → Leads number end (strings_due rows) bytes at behind_sizes (at + 17) (spelled_numbers (w, s)) → IsBlockAt end bytes (at + 17) short
      → Leads number end (strings_due rows) bytes at (memo_count rows ∷ []) (at + 33) (spelled_numbers (w, s) ++ spelled_span short)
  short_leads at w s short leads there =
      let to : at + 17 + 16 ≡ at + 33 = omega arith in
      let second = leads_more number end bytes (short_block ∷ []) [] (memo_count rows ∷ []) (at + 17) (at + 17 + 16) (bytes_at (at + 17) 16 bytes)
      (leads_field number end bytes short_block [] (at + 17) there.0 (subst (IsSpan end) there.1.0 there.1.2, refl)) in
      let both = leads_joins number end bytes (strings_due rows) behind_sizes (memo_count rows ∷ []) at (at + 17) (at + 17 + 16) (spelled_numbers (w, s)) (bytes_at (at + 17) 16 bytes) leads second in
      subst (λ (n : ℕ). Leads number end (strings_due rows) bytes at (memo_count rows ∷ []) n (spelled_numbers (w, s) ++ spelled_span short)) to
      (subst (λ (l : List ℕ). Leads number end (strings_due rows) bytes at (memo_count rows ∷ []) (at + 17 + 16) (spelled_numbers (w, s) ++ l)) there.1.1 both)

  pub count_flaw : (at : ℕ) (w : Width) (s short : Span) (e : DirError) → Leads number end (strings_due rows) bytes at behind_sizes (at + 17) (spelled_numbers (w, s)) → IsBlockAt end bytes (at + 17) short
      → (e ≡ At (at + 33)) × ((length (drop (at + 33) bytes) < 4) ⊎ ((number_of_field (bytes_at (at + 33) 4 bytes) < 0) ⊎ (rows < number_of_field (bytes_at (at + 33) 4 bytes))))
      → Flaws number end (strings_due rows) bytes at e
  count_flaw at w s short e leads there wrong =
      let before = short_leads at w s short leads there in
      flaws_leads number end bytes (strings_due rows) (memo_count rows ∷ []) at (at + 33) (spelled_numbers (w, s) ++ spelled_span short) e before
      (subst (λ (d : DirError). Flaws number end (memo_count rows ∷ []) bytes (at + 33) d) (sym wrong.0)
      (flaws_here number end bytes (memo_count rows) (at + 33) before.within
      (⊎_elim (λ less. inl less) (λ no. inr (λ next is. ⊎_elim (λ low. omega (arith, low)) (λ high. let b = is.0 in omega (arith, b, high)) no)) wrong.1)))

  count_leads : (at : ℕ) (w : Width) (s short : Span) (n : ℕ) → Leads number end (strings_due rows) bytes at behind_sizes (at + 17) (spelled_numbers (w, s)) → IsBlockAt end bytes (at + 17) short
      → IsCountAt rows bytes (at + 33) n → Leads number end (strings_due rows) bytes at (memos_due n rows 0) (at + 37) ((spelled_numbers (w, s) ++ spelled_span short) ++ little_bytes 4 n)
  count_leads at w s short n leads there is =
      let same = is.1.0 in
      let few = is.1.3 in
      let to : at + 33 + 4 ≡ at + 37 = omega arith in
      let second = leads_field number end bytes (memo_count rows) (memos_due n rows 0) (at + 33) is.0 (omega (arith, same, few), ap (λ (k : ℕ). memos_due k rows 0) same) in
      let both = leads_joins number end bytes (strings_due rows) (memo_count rows ∷ []) (memos_due n rows 0) at (at + 33) (at + 33 + 4) (spelled_numbers (w, s) ++ spelled_span short) (bytes_at (at + 33) 4 bytes)
      (short_leads at w s short leads there) second in
      subst (λ (k : ℕ). Leads number end (strings_due rows) bytes at (memos_due n rows 0) k ((spelled_numbers (w, s) ++ spelled_span short) ++ little_bytes 4 n)) to
      (subst (λ (l : List ℕ). Leads number end (strings_due rows) bytes at (memos_due n rows 0) (at + 33 + 4) ((spelled_numbers (w, s) ++ spelled_span short) ++ l)) is.1.1 both)

  pub memos_flaw : (at : ℕ) (w : Width) (s short : Span) (n : ℕ) (e : DirError) → Leads number end (strings_due rows) bytes at behind_sizes (at + 17) (spelled_numbers (w, s)) → IsBlockAt end bytes (at + 17) short
      → IsCountAt rows bytes (at + 33) n → Flaws number end (memos_due n rows 0) bytes (at + 37) e → Flaws number end (strings_due rows) bytes at e
  memos_flaw at w s short n e leads there is flaws = flaws_leads number end bytes (strings_due rows) (memos_due n rows 0) at (at + 37) ((spelled_numbers (w, s) ++ spelled_span short) ++ little_bytes 4 n) e
      (count_leads at w s short n leads there is) flaws

  pub strings_read : (at to : ℕ) (w : Width) (s short : Span) (n : ℕ) (memos : List Memo) → Leads number end (strings_due rows) bytes at behind_sizes (at + 17) (spelled_numbers (w, s))
      → IsBlockAt end bytes (at + 17) short → IsCountAt rows bytes (at + 33) n → length memos ≡ n → Reads number end (memos_due n rows 0) bytes (at + 37) to (spelled_memos memos)
      → Reads number end (strings_due rows) bytes at to (spelled_entry (Entry.strings w s short memos))
  strings_read at to w s short n memos leads there is long reads =
      let both = leads_joins number end bytes (strings_due rows) (memos_due n rows 0) [] at (at + 37) to ((spelled_numbers (w, s) ++ spelled_span short) ++ little_bytes 4 n) (spelled_memos memos)
      (count_leads at w s short n leads there is) reads in
      let joined : ((spelled_numbers (w, s) ++ spelled_span short) ++ little_bytes 4 n) ++ spelled_memos memos ≡ spelled_numbers (w, s) ++ (spelled_span short ++ (little_bytes 4 n ++ spelled_memos memos))
      = append_assoc (spelled_numbers (w, s) ++ spelled_span short) (little_bytes 4 n) (spelled_memos memos) ∙ append_assoc (spelled_numbers (w, s)) (spelled_span short) (little_bytes 4 n ++ spelled_memos memos) in
      subst (λ (k : ℕ). Reads number end (strings_due rows) bytes at to (spelled_numbers (w, s) ++ (spelled_span short ++ (little_bytes 4 k ++ spelled_memos memos)))) (sym long)
      (subst (λ (l : List ℕ). Reads number end (strings_due rows) bytes at to l) joined both)
