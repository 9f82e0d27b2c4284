-- The parts of a column, field by field.
use Rattle.std.proofs.Common.{◌≡◌, ℕ, ◌+◌, ◌-◌, ◌<◌, ◌≤◌, ◌⊎◌, inl, inr, ⊎_elim, List, [], ◌∷◌, ◌++◌, length, drop, refl, sym, ◌∙◌, ap, subst, arith}
use Rattle.std.proofs.lemmas.List.{append-nil}
use Rattle.bit_pack.specs.declared.widths.Width.{Width}
use Rattle.bit_pack.specs.Width.{bit_count}
use Rattle.bit_pack.specs.Packed.{packed_len}
use Rattle.mk_value.specs.declared.span.Span.{Span}
use Rattle.dir_codec.specs.declared.error.DirError.{DirError}
use Rattle.dir_codec.specs.declared.error.DirError.TheVariants.{At}
use Rattle.byteorder.specs.Endian.{little_bytes}
use Rattle.dir_codec.specs.Dir.{IsMemoSpan, IsSpan, spelled_memo, spelled_span}
use Rattle.dir_codec.specs.Fields.{memo_block, memo_row, memos_due, number_of_field, width, block, IsField, span_of_field}
use Rattle.dir_codec.specs.Reads.{bytes_at, Leads, Reads, Flaws}
use Rattle.dir_codec.specs.Parts.{numbers_due, spelled_numbers}
use Rattle.dir_codec.proofs.Reading.{flaws_field, flaws_first, flaws_here, flaws_leads, leads_field, leads_joins, leads_more, reads_field, reads_none}

-- a width is not as required, or short
pub width_flaw : (number end rows most : ℕ) (bytes : List ℕ) (at : ℕ) (e : DirError) → at ≤ length bytes → (e ≡ At at) × ((length (drop at bytes) < 1) ⊎ ((w : Width) → bytes_at at 1 bytes ≡ bit_count w ∷ [] → bit_count w ≤ most → ⊥))
    → Flaws number end (numbers_due rows most) bytes at e
width_flaw number end rows most bytes at e within wrong = subst (λ (d : DirError). Flaws number end (numbers_due rows most) bytes at d) (sym wrong.0)
    (flaws_here number end bytes (width rows most) at within (⊎_elim (λ short. inl short) (λ no. inr (λ next is. no is.0 is.1 is.2)) wrong.1))

-- a width is, and the block is not as required, or short
pub block_flaw : (number end rows most : ℕ) (bytes : List ℕ) (at : ℕ) (w : Width) (e : DirError) → (at + 1 ≤ length bytes) × ((bytes_at at 1 bytes ≡ bit_count w ∷ []) × (bit_count w ≤ most))
    → (e ≡ At (at + 1)) × ((length (drop (at + 1) bytes) < 16) ⊎ (IsSpan end (span_of_field (bytes_at (at + 1) 16 bytes)) → (span_of_field (bytes_at (at + 1) 16 bytes)).len ≡ packed_len w rows → ⊥))
    → Flaws number end (numbers_due rows most) bytes at e
block_flaw number end rows most bytes at w e is wrong = flaws_field number end bytes (width rows most) (block (packed_len w rows) ∷ []) at e is.0 (w, is.1.0, is.1.1, refl)
    (subst (λ (d : DirError). Flaws number end (block (packed_len w rows) ∷ []) bytes (at + 1) d) (sym wrong.0)
    (flaws_here number end bytes (block (packed_len w rows)) (at + 1) is.0 (⊎_elim (λ short. inl short) (λ no. inr (λ next b. no b.0 b.1)) wrong.1)))

-- both are
pub numbers_read : (number end rows most : ℕ) (bytes : List ℕ) (at : ℕ) (w : Width) (s : Span) → (at + 1 ≤ length bytes) × ((bytes_at at 1 bytes ≡ bit_count w ∷ []) × (bit_count w ≤ most))
    → (at + 1 + 16 ≤ length bytes) × ((s ≡ span_of_field (bytes_at (at + 1) 16 bytes)) × (bytes_at (at + 1) 16 bytes ≡ spelled_span s) × IsSpan end s) → s.len ≡ packed_len w rows
    → Reads number end (numbers_due rows most) bytes at (at + 1 + 16) (spelled_numbers (w, s))
numbers_read number end rows most bytes at w s is there len =
    let same = there.1.0 in
    let block_is : IsField number end (block (packed_len w rows)) (bytes_at (at + 1) 16 bytes) [] = (subst (IsSpan end) same there.1.2, ap (λ (t : Span). t.len) (sym same) ∙ len, refl) in
    let second = reads_field number end bytes (block (packed_len w rows)) [] (at + 1) (at + 1 + 16) [] there.0 block_is (reads_none number end bytes (at + 1 + 16) there.0) in
    let first = reads_field number end bytes (width rows most) (block (packed_len w rows) ∷ []) at (at + 1 + 16) (bytes_at (at + 1) 16 bytes ++ []) is.0 (w, is.1.0, is.1.1, refl) second in
    subst (λ (l : List ℕ). Reads number end (numbers_due rows most) bytes at (at + 1 + 16) l)
    (ap (λ (l : List ℕ). l ++ (bytes_at (at + 1) 16 bytes ++ [])) is.1.0 ∙ ap (λ (l : List ℕ). bit_count w ∷ l) (append-nil (bytes_at (at + 1) 16 bytes) ∙ there.1.1)) first

-- ---- memos

-- the row of a memo is not as required, or short
pub memo_row_flaw : (number end more rows least : ℕ) (bytes : List ℕ) (at : ℕ) (e : DirError) → at ≤ length bytes → 0 < rows
    → (e ≡ At at) × ((length (drop at bytes) < 4) ⊎ ((number_of_field (bytes_at at 4 bytes) < least) ⊎ (rows - 1 < number_of_field (bytes_at at 4 bytes))))
    → Flaws number end (memo_row more rows least ∷ []) bytes at e
memo_row_flaw number end more rows least bytes at e within some wrong = subst (λ (d : DirError). Flaws number end (memo_row more rows least ∷ []) bytes at d) (sym wrong.0)
    (flaws_here number end bytes (memo_row more rows least) at within
    (⊎_elim (λ short. inl short) (λ no. inr (λ next is. ⊎_elim (λ low. let a = is.0 in omega (arith, a, low)) (λ high. let b = is.1 in omega (arith, b, high, some)) no)) wrong.1))

-- a row that is as required leads to its block
memo_row_leads : (number end more rows least : ℕ) (bytes : List ℕ) (at n : ℕ) → 0 < rows
    → (at + 4 ≤ length bytes) × ((n ≡ number_of_field (bytes_at at 4 bytes)) × (bytes_at at 4 bytes ≡ little_bytes 4 n) × (least ≤ n) × (n ≤ rows - 1))
    → Leads number end (memo_row more rows least ∷ []) bytes at (memo_block ∷ memos_due more rows (n + 1)) (at + 4) (little_bytes 4 n)
memo_row_leads number end more rows least bytes at n some is =
    let same = is.1.0 in
    let low = is.1.2 in
    let high = is.1.3 in
    subst (λ (l : List ℕ). Leads number end (memo_row more rows least ∷ []) bytes at (memo_block ∷ memos_due more rows (n + 1)) (at + 4) l) is.1.1
    (leads_field number end bytes (memo_row more rows least) (memo_block ∷ memos_due more rows (n + 1)) at is.0
    (omega (arith, same, low), omega (arith, same, high, some), ap (λ (k : ℕ). memo_block ∷ memos_due more rows (k + 1)) same))

-- its block is not as required, or short
pub memo_span_flaw : (number end more rows least : ℕ) (bytes : List ℕ) (at n : ℕ) (e : DirError) → 0 < rows
    → (at + 4 ≤ length bytes) × ((n ≡ number_of_field (bytes_at at 4 bytes)) × (bytes_at at 4 bytes ≡ little_bytes 4 n) × (least ≤ n) × (n ≤ rows - 1))
    → (e ≡ At (at + 4)) × ((length (drop (at + 4) bytes) < 16) ⊎ (IsMemoSpan end (span_of_field (bytes_at (at + 4) 16 bytes)) → ⊥))
    → Flaws number end (memo_row more rows least ∷ []) bytes at e
memo_span_flaw number end more rows least bytes at n e some is wrong =
    flaws_leads number end bytes (memo_row more rows least ∷ []) (memo_block ∷ memos_due more rows (n + 1)) at (at + 4) (little_bytes 4 n) e (memo_row_leads number end more rows least bytes at n some is)
    (subst (λ (d : DirError). Flaws number end (memo_block ∷ memos_due more rows (n + 1)) bytes (at + 4) d) (sym wrong.0)
    (flaws_first number end bytes (memo_block ∷ []) (memos_due more rows (n + 1)) (at + 4) (At (at + 4))
    (flaws_here number end bytes memo_block (at + 4) is.0 (⊎_elim (λ short. inl short) (λ no. inr (λ next b. no (record { site = b.0; long = b.1; few = b.2 }))) wrong.1))))

-- both are: this leads to the memos behind
pub memo_leads : (number end more rows least : ℕ) (bytes : List ℕ) (at n : ℕ) (s : Span) → 0 < rows
    → (at + 4 ≤ length bytes) × ((n ≡ number_of_field (bytes_at at 4 bytes)) × (bytes_at at 4 bytes ≡ little_bytes 4 n) × (least ≤ n) × (n ≤ rows - 1))
    → (at + 4 + 16 ≤ length bytes) × ((s ≡ span_of_field (bytes_at (at + 4) 16 bytes)) × (bytes_at (at + 4) 16 bytes ≡ spelled_span s) × IsMemoSpan end s)
    → Leads number end (memo_row more rows least ∷ []) bytes at (memos_due more rows (n + 1)) (at + 4 + 16) (spelled_memo (record { row = n; span = s }))
memo_leads number end more rows least bytes at n s some is there =
    let same = there.1.0 in
    let span = subst (IsMemoSpan end) same there.1.2 in
    let block_leads = leads_field number end bytes memo_block [] (at + 4) there.0 (span.site, span.long, span.few, refl) in
    let second = leads_more number end bytes (memo_block ∷ []) [] (memos_due more rows (n + 1)) (at + 4) (at + 4 + 16) (bytes_at (at + 4) 16 bytes) block_leads in
    let both = leads_joins number end bytes (memo_row more rows least ∷ []) (memo_block ∷ memos_due more rows (n + 1)) (memos_due more rows (n + 1)) at (at + 4) (at + 4 + 16) (little_bytes 4 n) (bytes_at (at + 4) 16 bytes)
    (memo_row_leads number end more rows least bytes at n some is) second in
    subst (λ (l : List ℕ). Leads number end (memo_row more rows least ∷ []) bytes at (memos_due more rows (n + 1)) (at + 4 + 16) (little_bytes 4 n ++ l)) there.1.1 both
