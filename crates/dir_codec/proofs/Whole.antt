-- The bytes of a directory go over whole fields from all that is due to nothing.
use Rattle.std.proofs.Common.{◌≡◌, ◌≢◌, ℕ, zero, suc, ◌+◌, ◌-◌, ◌<◌, ◌≤◌, ◌^◌, ◌⊎◌, inl, inr, ⊎_elim, List, [], ◌∷◌, ◌++◌, length, length-append, drop, replicate, refl, sym, ◌∙◌, ap, subst, arith, Contains}
use Rattle.std.specs.List.{flat_map}
use Rattle.std.proofs.lemmas.List.{append_assoc, drop_at, take_at}
use Rattle.byteorder.specs.Endian.{little_bytes, little_number}
use Rattle.byteorder.specs.Numbers.{little_number-reads_back}
use Rattle.bit_pack.specs.declared.widths.Width.{Width}
use Rattle.bit_pack.specs.Width.{bit_count}
use Rattle.bit_pack.specs.Packed.{packed_len}
use Rattle.mk_value.specs.declared.span.Span.{Span}
use Rattle.mk_value.specs.Limits.{max_bytes, max_rows, max_structure}
use Rattle.mk_value.specs.Heading.{Domain, Heading, no_attributes, attribute, heading_of}
use Rattle.free_space.proofs.ExtentLemmas.{le-extent_len}
use Rattle.free_space.specs.Sites.{IsSite}
use Rattle.dir_codec.specs.declared.dir.Memo.{Memo}
use Rattle.struct_text.specs.Spelling.{spelling}
use Rattle.std.proofs.Common.{All, AllPairs, get_or}
use Rattle.std.proofs.lemmas.List.{append-nil}
use Rattle.std.proofs.lemmas.List.Elements.{All-head, All-tail}
use Rattle.dir_codec.specs.Dir.{Dir, spelled, spelled_notes, IsDir, NoteEntry, ViewEntry, spelled_note, spelled_view, AreNotesFrom, IsViewEntry, Entry, numbers, strings, tables, Entries, no_entries, entry, Bodies, no_bodies, body, spelled_span, spelled_memo, spelled_entry, spelled_entries, spelled_bodies, IsSpan, AreMemos, IsStrings, count_bodies, IsEntry, AreEntries, AreBodies}
use Rattle.dir_codec.specs.Fields.{Due, view_count, note_count, all_due, IsFlawed, IsFirstFlaw, text_length, structure, note_number, note_length, note_text, notes_due, views_due, row_count, width, sizes_width, block, short_block, memo_block, memo_count, memo_row, field_len, memos_due, column_due, columns_due, number_of_field, span_of_field, IsField, Goes, stays, takes}
use Rattle.dir_codec.proofs.Going.{goes_joins, one_end, stuck_end, stuck_flaw}

-- a number in four bytes, and one in eight
pub number_4 : (n : ℕ) → n < 2 ^ 32 → number_of_field (little_bytes 4 n) ≡ n
number_4 n fits = little_number-reads_back 4 n [] fits

pub number_8 : (n : ℕ) → n < 2 ^ 64 → number_of_field (little_bytes 8 n) ≡ n
number_8 n fits = little_number-reads_back 8 n [] fits

-- a span in sixteen
pub span_16 : (s : Span) → s.place < 2 ^ 64 → s.len < 2 ^ 64 → span_of_field (spelled_span s) ≡ s
span_16 s place len =
    let span : ℕ → ℕ → Span = λ p l. record { place = p; len = l } in
    let first : little_number 8 (spelled_span s) ≡ s.place = little_number-reads_back 8 s.place (little_bytes 8 s.len) place in
    let second : little_number 8 (drop 8 (spelled_span s)) ≡ s.len = little_number-reads_back 8 s.len [] len in
    ap (λ (p : ℕ). span p (little_number 8 (drop 8 (spelled_span s)))) first ∙ ap (λ (l : ℕ). span s.place l) second

-- one whole field
pub steps : {number end : ℕ} (d : Due) (due next : List Due) (f rest : List ℕ) → length f ≡ field_len d → IsField number end d f next → Goes number end (d ∷ due) (f ++ rest) (next ++ due) rest
steps {number} {end} d due next f rest long is = takes d due next (next ++ due) (f ++ rest) rest
    (let e = length-append f rest in omega (arith, long, e))
    (subst (λ (bytes : List ℕ). IsField number end d bytes next) (sym (take_at f rest (field_len d) long)) is)
    (subst (λ (bytes : List ℕ). Goes number end (next ++ due) bytes (next ++ due) rest) (sym (drop_at f rest (field_len d) long)) (stays (next ++ due) rest))

-- the spans of a directory fit their fields
pub site_fits : (end : ℕ) (s : Span) → end < 2 ^ 64 → IsSite end s → (s.place < 2 ^ 64) × (s.len < 2 ^ 64)
site_fits end s high site = let w = site.within in let l = le-extent_len s.len in (omega (arith, w, l, high), omega (arith, w, l, high))

pub span_fits : (end : ℕ) (s : Span) → end < 2 ^ 64 → IsSpan end s → (s.place < 2 ^ 64) × (s.len < 2 ^ 64)
span_fits end s high is = ⊎_elim (λ none. subst (λ (t : Span). (t.place < 2 ^ 64) × (t.len < 2 ^ 64)) (sym none) (omega arith, omega arith)) (λ site. site_fits end s high site) is

pub span_is : (end : ℕ) (s : Span) → end < 2 ^ 64 → IsSpan end s → span_of_field (spelled_span s) ≡ s
span_is end s high is = let f = span_fits end s high is in span_16 s f.0 f.1

-- the bytes of a note, and of a view, field by field
pub note_bytes : (note : NoteEntry) (others rest : List ℕ) → (spelled_note note ++ others) ++ rest ≡ little_bytes 8 note.number ++ (little_bytes 4 (length note.text) ++ (note.text ++ (others ++ rest)))
note_bytes note others rest =
    append_assoc (spelled_note note) others rest ∙ append_assoc (little_bytes 8 note.number ++ little_bytes 4 (length note.text)) note.text (others ++ rest)

pub view_bytes : (v : ViewEntry) (others rest : List ℕ) → (spelled_view v ++ others) ++ rest
    ≡ little_bytes 4 (length (spelling v.name v.schema)) ++ (spelling v.name v.schema ++ (little_bytes 4 v.rows ++ (spelled_entries v.columns ++ (others ++ rest))))
view_bytes v others rest =
    let text = spelling v.name v.schema in
    append_assoc (spelled_view v) others rest
    ∙ append_assoc (little_bytes 4 (length text) ++ text ++ little_bytes 4 v.rows) (spelled_entries v.columns) (others ++ rest)
    ∙ append_assoc (little_bytes 4 (length text) ++ text) (little_bytes 4 v.rows) (spelled_entries v.columns ++ (others ++ rest))

pairs_tail : {X : Type 0} (R : X → X → Type 0) (x : X) (xs : List X) → AllPairs R (x ∷ xs) → AllPairs R xs
pairs_tail R x xs pairs = λ i j d below within. pairs (suc i) (suc j) d (omega (arith, below)) (omega (arith, within))

pairs_head : {X : Type 0} (R : X → X → Type 0) (x : X) (xs : List X) → AllPairs R (x ∷ xs) → All (R x) xs
pairs_head R x xs pairs = λ j d within. pairs zero (suc j) d (omega arith) (omega (arith, within))

cons_contains : (x : List ℕ) (names : List (List ℕ)) (y : List ℕ) → Contains (x ∷ names) y → (x ≡ y) ⊎ Contains names y
cons_contains x names y (zero, within, is) = inl is
cons_contains x names y (suc i, within, is) = inr (i, omega (arith, within), is)

-- names that differ from all before them
new_names : (v : ViewEntry) (names : List (List ℕ)) (views : List ViewEntry) → AllPairs (λ v w. v.name ≢ w.name) (v ∷ views) → All (λ (w : ViewEntry). Contains names w.name → ⊥) (v ∷ views)
    → All (λ (w : ViewEntry). Contains (v.name ∷ names) w.name → ⊥) views
new_names v names views distinct new = λ k d within there.
    ⊎_elim (λ same. pairs_head (λ v w. v.name ≢ w.name) v views distinct k d within same) (λ before. All-tail (λ (w : ViewEntry). Contains names w.name → ⊥) v views new k d within before)
    (cons_contains v.name names (get_or views k d).name there)

-- one body more is due
one_more : (h : Heading) (n : ℕ) → row_count h ∷ replicate n (row_count h) ≡ replicate (1 + n) (row_count h)
one_more h n = ap (λ (k : ℕ). replicate k (row_count h)) (let e : suc n ≡ 1 + n = omega arith in e)

-- as many memos as there are rows from the first on, at most
pub memos_few : (end rows least : ℕ) (memos : List Memo) → AreMemos end rows least memos → length memos ≤ rows - least
memos_few end rows least [] are = omega arith
memos_few end rows least (memo ∷ memos) are =
    let rest = memos_few end rows (memo.row + 1) memos are.5 in let low = are.0 in let high = are.1 in omega (arith, rest, low, high)

module _ (number end : ℕ) (high : end < 2 ^ 64) where
  goes_memos : (rows least : ℕ) (memos : List Memo) (due : List Due) (rest : List ℕ) → rows ≤ max_rows → AreMemos end rows least memos
      → Goes number end (memos_due (length memos) rows least ++ due) (flat_map spelled_memo memos ++ rest) due rest
  goes_memos rows least [] due rest few are = stays due rest
  goes_memos rows least (memo ∷ memos) due rest few are =
      let low : least ≤ memo.row = are.0 in
      let below : memo.row < rows = are.1 in
      let row_fits : memo.row < 2 ^ 32 = omega (arith, below, few) in
      let row_is : number_of_field (little_bytes 4 memo.row) ≡ memo.row = number_4 memo.row row_fits in
      let next : List Due = memo_block ∷ memos_due (length memos) rows (memo.row + 1) in
      let others = flat_map spelled_memo memos in
      let first = steps {number = number} {end = end} (memo_row (length memos) rows least) due next (little_bytes 4 memo.row) (spelled_span memo.span ++ (others ++ rest)) refl
      (omega (arith, low, row_is), omega (arith, below, row_is), ap (λ (n : ℕ). memo_block ∷ memos_due (length memos) rows (n + 1)) (sym row_is)) in
      let fits = site_fits end memo.span high are.2 in
      let same : span_of_field (spelled_span memo.span) ≡ memo.span = span_16 memo.span fits.0 fits.1 in
      let second = steps {number = number} {end = end} memo_block (memos_due (length memos) rows (memo.row + 1) ++ due) [] (spelled_span memo.span) (others ++ rest) refl
      (subst (IsSite end) (sym same) are.2, subst (λ (s : Span). 512 < s.len) (sym same) are.3, subst (λ (s : Span). s.len ≤ max_bytes) (sym same) are.4, refl) in
      goes_joins first (goes_joins second (goes_memos rows (memo.row + 1) memos due rest few are.5))

  -- one block of a column
  goes_block : (len : ℕ) (s : Span) (due : List Due) (rest : List ℕ) → IsSpan end s → s.len ≡ len → Goes number end (block len ∷ due) (spelled_span s ++ rest) due rest
  goes_block len s due rest is long =
      let same : span_of_field (spelled_span s) ≡ s = span_is end s high is in
      steps (block len) due [] (spelled_span s) rest refl (subst (IsSpan end) (sym same) is, ap (λ (t : Span). t.len) same ∙ long, refl)

  goes_strings : (rows : ℕ) (w : Width) (sizes short : Span) (memos : List Memo) (due : List Due) (rest : List ℕ) → rows ≤ max_rows → IsStrings end rows w sizes short memos
      → Goes number end (sizes_width rows ∷ due) (spelled_entry (strings w sizes short memos) ++ rest) due rest
  goes_strings rows w sizes short memos due rest few is =
      let others = flat_map spelled_memo memos in
      let count = memos_few end rows 0 memos is.memos_are in
      let count_is : number_of_field (little_bytes 4 (length memos)) ≡ length memos = number_4 (length memos) (omega (arith, count, few)) in
      let short_same : span_of_field (spelled_span short) ≡ short = span_is end short high is.short_is in
      let first = steps {number = number} {end = end} (sizes_width rows) due (block (packed_len w rows) ∷ short_block ∷ memo_count rows ∷ []) (bit_count w ∷ [])
      (spelled_span sizes ++ (spelled_span short ++ (little_bytes 4 (length memos) ++ (others ++ rest)))) refl (w, refl, is.sizes_are.narrow, refl) in
      let second = goes_block (packed_len w rows) sizes (short_block ∷ memo_count rows ∷ due) (spelled_span short ++ (little_bytes 4 (length memos) ++ (others ++ rest))) is.sizes_are.span is.sizes_are.len in
      let third = steps {number = number} {end = end} short_block (memo_count rows ∷ due) [] (spelled_span short) (little_bytes 4 (length memos) ++ (others ++ rest)) refl (subst (IsSpan end) (sym short_same) is.short_is, refl) in
      let fourth = steps {number = number} {end = end} (memo_count rows) due (memos_due (length memos) rows 0) (little_bytes 4 (length memos)) (others ++ rest) refl
      (omega (arith, count, count_is), ap (λ (n : ℕ). memos_due n rows 0) (sym count_is)) in
      goes_joins first (goes_joins second (goes_joins third (goes_joins fourth (goes_memos rows 0 memos due rest few is.memos_are))))

  mutual
    goes_entry : (rows : ℕ) (d : Domain) (e : Entry) (due : List Due) (rest : List ℕ) → rows ≤ max_rows → IsEntry end rows d e → Goes number end (column_due rows d ++ due) (spelled_entry e ++ rest) due rest
    goes_entry rows Domain.integer (numbers w s) due rest few is =
        goes_joins (steps {number = number} {end = end} (width rows 32) due (block (packed_len w rows) ∷ []) (bit_count w ∷ []) (spelled_span s ++ rest) refl (w, refl, is.narrow, refl)) (goes_block (packed_len w rows) s due rest is.span is.len)
    goes_entry rows Domain.long (numbers w s) due rest few is =
        goes_joins (steps {number = number} {end = end} (width rows 64) due (block (packed_len w rows) ∷ []) (bit_count w ∷ []) (spelled_span s ++ rest) refl (w, refl, is.narrow, refl)) (goes_block (packed_len w rows) s due rest is.span is.len)
    goes_entry rows Domain.text (strings w sizes short memos) due rest few is = goes_strings rows w sizes short memos due rest few is
    goes_entry rows Domain.bytes (strings w sizes short memos) due rest few is = goes_strings rows w sizes short memos due rest few is
    goes_entry rows (Domain.relation h) (tables held) due rest few is =
        subst (λ (n : ℕ). Goes number end (replicate n (row_count h) ++ due) (spelled_bodies held ++ rest) due rest) is.0 (goes_bodies h held due rest is.1)
    goes_entry rows Domain.integer (strings w sizes short memos) due rest few is = absurd is
    goes_entry rows Domain.integer (tables held) due rest few is = absurd is
    goes_entry rows Domain.long (strings w sizes short memos) due rest few is = absurd is
    goes_entry rows Domain.long (tables held) due rest few is = absurd is
    goes_entry rows Domain.text (numbers w s) due rest few is = absurd is
    goes_entry rows Domain.text (tables held) due rest few is = absurd is
    goes_entry rows Domain.bytes (numbers w s) due rest few is = absurd is
    goes_entry rows Domain.bytes (tables held) due rest few is = absurd is
    goes_entry rows (Domain.relation h) (numbers w s) due rest few is = absurd is
    goes_entry rows (Domain.relation h) (strings w sizes short memos) due rest few is = absurd is

    goes_entries : (rows : ℕ) (h : Heading) (es : Entries) (due : List Due) (rest : List ℕ) → rows ≤ max_rows → AreEntries end rows h es → Goes number end (columns_due rows h ++ due) (spelled_entries es ++ rest) due rest
    goes_entries rows no_attributes no_entries due rest few are = stays due rest
    goes_entries rows no_attributes (entry e es) due rest few are = absurd are
    goes_entries rows (attribute n d h) no_entries due rest few are = absurd are
    goes_entries rows (attribute n d h) (entry e es) due rest few are =
        subst (λ (l : List Due). Goes number end l ((spelled_entry e ++ spelled_entries es) ++ rest) due rest) (sym (append_assoc (column_due rows d) (columns_due rows h) due))
        (subst (λ (bytes : List ℕ). Goes number end (column_due rows d ++ (columns_due rows h ++ due)) bytes due rest) (sym (append_assoc (spelled_entry e) (spelled_entries es) rest))
        (goes_joins (goes_entry rows d e (columns_due rows h ++ due) (spelled_entries es ++ rest) few are.0) (goes_entries rows h es due rest few are.1)))

    goes_bodies : (h : Heading) (bodies : Bodies) (due : List Due) (rest : List ℕ) → AreBodies end h bodies → Goes number end (replicate (count_bodies bodies) (row_count h) ++ due) (spelled_bodies bodies ++ rest) due rest
    goes_bodies h no_bodies due rest are = stays due rest
    goes_bodies h (body rows columns others) due rest are =
        let left = replicate (count_bodies others) (row_count h) ++ due in
        let few : rows ≤ max_rows = are.0 in
        let count_is : number_of_field (little_bytes 4 rows) ≡ rows = number_4 rows (omega (arith, few)) in
        let first = steps {number = number} {end = end} (row_count h) left (columns_due rows h) (little_bytes 4 rows) ((spelled_entries columns ++ spelled_bodies others) ++ rest) refl
        (omega (arith, few, count_is), ap (λ (n : ℕ). columns_due n h) (sym count_is)) in
        let second = subst (λ (bytes : List ℕ). Goes number end (columns_due rows h ++ left) bytes left (spelled_bodies others ++ rest)) (sym (append_assoc (spelled_entries columns) (spelled_bodies others) rest))
        (goes_entries rows h columns left (spelled_bodies others ++ rest) few are.1) in
        subst (λ (l : List Due). Goes number end (l ++ due) (spelled_bodies (body rows columns others) ++ rest) due rest) (one_more h (count_bodies others))
        (goes_joins first (goes_joins second (goes_bodies h others due rest are.2)))

  -- the notes of a commit, from this number on
  goes_notes : (least : ℕ) (notes : List NoteEntry) (rest : List ℕ) → number < 2 ^ 64 → AreNotesFrom number least notes
      → Goes number end (notes_due (length notes) least) (flat_map spelled_note notes ++ rest) [] rest
  goes_notes least [] rest top are = stays [] rest
  goes_notes least (note ∷ notes) rest top are =
      let low : least ≤ note.number = are.0 in
      let upto : note.number ≤ number = are.1 in
      let some : 0 < length note.text = are.2 in
      let short : length note.text ≤ 255 = are.3 in
      let others = flat_map spelled_note notes in
      let left : List Due = notes_due (length notes) (note.number + 1) in
      let number_is : number_of_field (little_bytes 8 note.number) ≡ note.number = number_8 note.number (omega (arith, upto, top)) in
      let len_is : number_of_field (little_bytes 4 (length note.text)) ≡ length note.text = number_4 (length note.text) (omega (arith, short)) in
      let first = steps {number = number} {end = end} (note_number (length notes) least) [] (note_length ∷ left) (little_bytes 8 note.number) (little_bytes 4 (length note.text) ++ (note.text ++ (others ++ rest))) refl
      (omega (arith, low, number_is), omega (arith, upto, number_is), ap (λ (n : ℕ). note_length ∷ notes_due (length notes) (n + 1)) (sym number_is)) in
      let second = steps {number = number} {end = end} note_length left (note_text (length note.text) ∷ []) (little_bytes 4 (length note.text)) (note.text ++ (others ++ rest)) refl
      (omega (arith, some, len_is), omega (arith, short, len_is), ap (λ (n : ℕ). note_text n ∷ []) (sym len_is)) in
      let third = steps {number = number} {end = end} (note_text (length note.text)) left [] note.text (others ++ rest) refl (are.4, refl) in
      let on = goes_notes (note.number + 1) notes rest top are.5 in
      let no_more : (l : List Due) → l ++ [] ≡ l = λ l. append-nil l in
      subst (λ (bytes : List ℕ). Goes number end (note_number (length notes) least ∷ []) bytes [] rest) (sym (note_bytes note others rest))
      (goes_joins (subst (λ (l : List Due). Goes number end (note_number (length notes) least ∷ []) (little_bytes 8 note.number ++ (little_bytes 4 (length note.text) ++ (note.text ++ (others ++ rest)))) l (little_bytes 4 (length note.text) ++ (note.text ++ (others ++ rest)))) (no_more (note_length ∷ left)) first)
      (goes_joins second (goes_joins third on)))

  -- the views behind those of these names
  goes_views : (names : List (List ℕ)) (views : List ViewEntry) (due : List Due) (rest : List ℕ) → All (IsViewEntry end) views → AllPairs (λ v w. v.name ≢ w.name) views
      → All (λ v. Contains names v.name → ⊥) views → Goes number end (views_due (length views) names ++ due) (flat_map spelled_view views ++ rest) due rest
  goes_views names [] due rest each distinct new = stays due rest
  goes_views names (v ∷ views) due rest each distinct new =
      let here = All-head (IsViewEntry end) v views each in
      let text = spelling v.name v.schema in
      let others = flat_map spelled_view views in
      let left : List Due = views_due (length views) (v.name ∷ names) ++ due in
      let short : length text ≤ max_structure = here.short in
      let few : v.rows ≤ max_rows = here.few in
      let len_is : number_of_field (little_bytes 4 (length text)) ≡ length text = number_4 (length text) (omega (arith, short)) in
      let rows_is : number_of_field (little_bytes 4 v.rows) ≡ v.rows = number_4 v.rows (omega (arith, few)) in
      let behind = spelled_entries v.columns ++ (others ++ rest) in
      let first = steps {number = number} {end = end} (text_length (length views) names) due (structure (length text) (length views) names ∷ []) (little_bytes 4 (length text)) (text ++ (little_bytes 4 v.rows ++ behind)) refl
      (omega (arith, short, len_is), ap (λ (n : ℕ). structure n (length views) names ∷ []) (sym len_is)) in
      let second = steps {number = number} {end = end} (structure (length text) (length views) names) due (row_count (heading_of v.schema) ∷ views_due (length views) (v.name ∷ names)) text (little_bytes 4 v.rows ++ behind) refl
      (v.name, v.schema, record { named = here.named; whole = here.whole; is = refl }, All-head (λ (w : ViewEntry). Contains names w.name → ⊥) v views new, refl) in
      let third = steps {number = number} {end = end} (row_count (heading_of v.schema)) left (columns_due v.rows (heading_of v.schema)) (little_bytes 4 v.rows) behind refl
      (omega (arith, few, rows_is), ap (λ (n : ℕ). columns_due n (heading_of v.schema)) (sym rows_is)) in
      let fourth = goes_entries v.rows (heading_of v.schema) v.columns left (others ++ rest) few here.entries in
      let fresh : All (λ (w : ViewEntry). Contains (v.name ∷ names) w.name → ⊥) views = new_names v names views distinct new in
      let on = goes_views (v.name ∷ names) views due rest (All-tail (IsViewEntry end) v views each) (pairs_tail (λ v w. v.name ≢ w.name) v views distinct) fresh in
      subst (λ (bytes : List ℕ). Goes number end (text_length (length views) names ∷ due) bytes due rest) (sym (view_bytes v others rest))
      (goes_joins first (goes_joins second (goes_joins third (goes_joins fourth on))))

  -- all of a directory
  pub goes_whole : (version : ℕ) (d : Dir) → number < 2 ^ 64 → IsDir version number end d → Goes number end (all_due version) (spelled d) [] []
  goes_whole version d top is = ⊎_elim
      (λ one. subst (λ (v : ℕ). Goes number end (all_due v) (spelled d) [] []) (sym one.0) (subst (λ (notes : List NoteEntry). Goes number end (view_count ∷ []) (little_bytes 4 (length d.views) ++ (flat_map spelled_view d.views ++ spelled_notes notes)) [] []) (sym one.1) (views_then [] [] (stays [] []))))
      (λ two. subst (λ (v : ℕ). Goes number end (all_due v) (spelled d) [] []) (sym two.0) (views_then (note_count ∷ []) (spelled_notes d.notes) (notes_then d.notes two.1 is.notes.few is.notes.each)))
      is.notes.counted
    where
      count_is : number_of_field (little_bytes 4 (length d.views)) ≡ length d.views
      count_is = number_4 (length d.views) (let f = is.few in omega (arith, f))

      -- the views, and what is due behind them
      views_then : (due : List Due) (rest : List ℕ) → Goes number end due rest [] [] → Goes number end (view_count ∷ due) (little_bytes 4 (length d.views) ++ (flat_map spelled_view d.views ++ rest)) [] []
      views_then due rest on = goes_joins
          (steps {number = number} {end = end} view_count due (views_due (length d.views) []) (little_bytes 4 (length d.views)) (flat_map spelled_view d.views ++ rest) refl
          (let f = is.few in omega (arith, f, count_is), ap (λ (n : ℕ). views_due n []) (sym count_is)))
          (goes_joins (goes_views [] d.views due rest is.each is.distinct (λ k e within there. absurd (let i = there.1 in omega (arith, i)))) on)

      notes_then : (notes : List NoteEntry) → 0 < length notes → length notes ≤ 64 → AreNotesFrom number 1 notes → Goes number end (note_count ∷ []) (spelled_notes notes) [] []
      notes_then [] some few are = absurd (omega (arith, some))
      notes_then (note ∷ notes) some few are =
          let all : List NoteEntry = note ∷ notes in
          let len_is : number_of_field (little_bytes 4 (length all)) ≡ length all = number_4 (length all) (omega (arith, few)) in
          let first = steps {number = number} {end = end} note_count [] (notes_due (length all) 1) (little_bytes 4 (length all)) (flat_map spelled_note all ++ []) refl
          (omega (arith, some, len_is), omega (arith, few, len_is), ap (λ (n : ℕ). notes_due n 1) (sym len_is)) in
          subst (λ (bytes : List ℕ). Goes number end (note_count ∷ []) (little_bytes 4 (length all) ++ bytes) [] []) (append-nil (flat_map spelled_note all))
          (goes_joins (subst (λ (l : List Due). Goes number end (note_count ∷ []) (little_bytes 4 (length all) ++ (flat_map spelled_note all ++ [])) l (flat_map spelled_note all ++ [])) (append-nil (notes_due (length all) 1)) first)
          (goes_notes 1 all [] top are))

-- the bytes of a directory have no flaw
pub no_flaw : (version number end : ℕ) (d : Dir) (place : ℕ) → number < 2 ^ 64 → end < 2 ^ 64 → IsDir version number end d → IsFirstFlaw version number end (spelled d) place → ⊥
no_flaw version number end d place top high is flaw =
    let ends = one_end (goes_whole number end high version d top is) flaw.before (stuck_end number end []) (stuck_flaw number end flaw.due (drop place (spelled d)) flaw.flawed) in
    nothing number end flaw.due (drop place (spelled d)) ends.0 ends.1 flaw.flawed
  where
    nothing : (number end : ℕ) (due : List Due) (bytes : List ℕ) → [] ≡ due → [] ≡ bytes → IsFlawed number end due bytes → ⊥
    nothing number end [] bytes none same flawed = flawed (sym same)
    nothing number end (e ∷ due) bytes none same flawed = cc
