-- The spans that a walk over a directory meets are those of its plain columns, each in its place.
use Rattle.std.proofs.Common.{◌≡◌, ℕ, ◌+◌, ◌<◌, ◌^◌, ⊎_elim, inr, List, [], ◌∷◌, ◌++◌, length, Bool, cond, All, refl, ap, sym, subst, ◌∙◌, arith, append_assoc}
use Rattle.std.specs.Prelude.{nat_lt}
use Rattle.std.specs.List.{flat_map}
use Rattle.std.proofs.lemmas.Bool.Decides.{Decides-ltb}
use Rattle.std.proofs.lemmas.List.Elements.{All-head, All-tail, All-cons, All-nil, All-append}
use Rattle.mk_value.specs.declared.span.Span.{Span}
use Rattle.mk_value.specs.Heading.{Domain, Heading, no_attributes, attribute, heading_of}
use Rattle.free_space.specs.Extents.{IsBlock}
use Rattle.free_space.specs.Sites.{IsSite, no_span}
use Rattle.struct_text.specs.Spelling.{spelling}
use Rattle.dir_codec.specs.declared.dir.Memo.{Memo}
use Rattle.dir_codec.specs.Columns.{PlainEntry, dir_columns, plain_bodies, plain_entries, plain_entry, plain_view_entries}
use Rattle.dir_codec.specs.Dir.{AreBodies, AreEntries, AreMemos, Bodies, no_bodies, body, Dir, Entries, no_entries, entry, Entry, IsEntry, IsSpan, IsViewEntry, ViewEntry, spelled_entries, spelled_entry, spelled_view}
use Rattle.recovery.specs.Reading.{all_spans, spans_in}
use Rattle.recovery.specs.Spans.{bodies_spans, dir_spans, entries_spans, entry_spans, memo_spans, some_spans}

abbrev all_in : List PlainEntry → List Span
all_in entries = flat_map (λ (e : PlainEntry). spans_in e.entry) entries

all_in-append : (xs ys : List PlainEntry) → all_in (xs ++ ys) ≡ all_in xs ++ all_in ys
all_in-append [] ys = refl
all_in-append (x ∷ xs) ys = ap (λ zs. spans_in x.entry ++ zs) (all_in-append xs ys) ∙ sym (append_assoc (spans_in x.entry) (all_in xs) (all_in ys))

alone : (xs : List Span) → xs ++ [] ≡ xs
alone [] = refl
alone (x ∷ xs) = ap (λ ys. x ∷ ys) (alone xs)

mutual
  of_entry : (end : ℕ) (e : Entry) (d : Domain) (at rows : ℕ) → IsEntry end rows d e → all_in (plain_entry e d at rows) ≡ entry_spans e
  of_entry end (Entry.numbers w block) Domain.integer at rows h = refl
  of_entry end (Entry.numbers w block) Domain.long at rows h = refl
  of_entry end (Entry.numbers w block) Domain.text at rows h = absurd h
  of_entry end (Entry.numbers w block) Domain.bytes at rows h = absurd h
  of_entry end (Entry.numbers w block) (Domain.relation g) at rows h = absurd h
  of_entry end (Entry.strings w sizes short memos) Domain.integer at rows h = absurd h
  of_entry end (Entry.strings w sizes short memos) Domain.long at rows h = absurd h
  of_entry end (Entry.strings w sizes short memos) Domain.text at rows h = alone (sizes ∷ short ∷ memo_spans memos)
  of_entry end (Entry.strings w sizes short memos) Domain.bytes at rows h = alone (sizes ∷ short ∷ memo_spans memos)
  of_entry end (Entry.strings w sizes short memos) (Domain.relation g) at rows h = absurd h
  of_entry end (Entry.tables inner) Domain.integer at rows h = absurd h
  of_entry end (Entry.tables inner) Domain.long at rows h = absurd h
  of_entry end (Entry.tables inner) Domain.text at rows h = absurd h
  of_entry end (Entry.tables inner) Domain.bytes at rows h = absurd h
  of_entry end (Entry.tables inner) (Domain.relation g) at rows h = of_bodies end inner g at h.1

  of_entries : (end : ℕ) (es : Entries) (g : Heading) (at rows : ℕ) → AreEntries end rows g es → all_in (plain_entries es g at rows) ≡ entries_spans es
  of_entries end no_entries no_attributes at rows h = refl
  of_entries end no_entries (attribute n d g) at rows h = absurd h
  of_entries end (entry e rest) no_attributes at rows h = absurd h
  of_entries end (entry e rest) (attribute n d g) at rows h =
      all_in-append (plain_entry e d at rows) (plain_entries rest g (at + length (spelled_entry e)) rows)
      ∙ ap (λ xs. xs ++ all_in (plain_entries rest g (at + length (spelled_entry e)) rows)) (of_entry end e d at rows h.0)
      ∙ ap (λ xs. entry_spans e ++ xs) (of_entries end rest g (at + length (spelled_entry e)) rows h.1)

  of_bodies : (end : ℕ) (bs : Bodies) (g : Heading) (at : ℕ) → AreBodies end g bs → all_in (plain_bodies bs g at) ≡ bodies_spans bs
  of_bodies end no_bodies g at h = refl
  of_bodies end (body rows columns rest) g at h =
      all_in-append (plain_entries columns g (at + 4) rows) (plain_bodies rest g (at + 4 + length (spelled_entries columns)))
      ∙ ap (λ xs. xs ++ all_in (plain_bodies rest g (at + 4 + length (spelled_entries columns)))) (of_entries end columns g (at + 4) rows h.1)
      ∙ ap (λ xs. entries_spans columns ++ xs) (of_bodies end rest g (at + 4 + length (spelled_entries columns)) h.2)

of_views : (end at : ℕ) (vs : List ViewEntry) → All (IsViewEntry end) vs → all_in (plain_view_entries at vs) ≡ flat_map (λ (v : ViewEntry). entries_spans v.columns) vs
of_views end at [] h = refl
of_views end at (v ∷ vs) h =
    let from = at + 8 + length (spelling v.name v.schema) in
    let behind = at + length (spelled_view v) in
    all_in-append (plain_entries v.columns (heading_of v.schema) from v.rows) (plain_view_entries behind vs)
    ∙ ap (λ xs. xs ++ all_in (plain_view_entries behind vs)) (of_entries end v.columns (heading_of v.schema) from v.rows (All-head (IsViewEntry end) v vs h).entries)
    ∙ ap (λ xs. entries_spans v.columns ++ xs) (of_views end behind vs (All-tail (IsViewEntry end) v vs h))

-- the spans of all plain columns of a directory
pub views_met : (end : ℕ) (d : Dir) → All (IsViewEntry end) d.views → all_in (dir_columns d) ≡ dir_spans d
views_met end d h = of_views end 4 d.views h

-- the spans of a directory, its own last
pub all_met : (end : ℕ) (d : Dir) (own : Span) → All (IsViewEntry end) d.views → some_spans (dir_spans d) ++ own ∷ [] ≡ all_spans d own
all_met end d own h = ap (λ xs. some_spans xs ++ own ∷ []) (sym (of_views end 4 d.views h))

-- each span is that of a block, or has no place
memos_placed : (end rows least : ℕ) (memos : List Memo) → AreMemos end rows least memos → All (IsSpan end) (memo_spans memos)
memos_placed end rows least [] h = All-nil (IsSpan end)
memos_placed end rows least (m ∷ memos) h = All-cons (IsSpan end) m.span (memo_spans memos) (inr h.2) (memos_placed end rows (m.row + 1) memos h.5)

mutual
  entry_placed : (end rows : ℕ) (e : Entry) (d : Domain) → IsEntry end rows d e → All (IsSpan end) (entry_spans e)
  entry_placed end rows (Entry.numbers w block) Domain.integer h = All-cons (IsSpan end) block [] h.span (All-nil (IsSpan end))
  entry_placed end rows (Entry.numbers w block) Domain.long h = All-cons (IsSpan end) block [] h.span (All-nil (IsSpan end))
  entry_placed end rows (Entry.numbers w block) Domain.text h = absurd h
  entry_placed end rows (Entry.numbers w block) Domain.bytes h = absurd h
  entry_placed end rows (Entry.numbers w block) (Domain.relation g) h = absurd h
  entry_placed end rows (Entry.strings w sizes short memos) Domain.integer h = absurd h
  entry_placed end rows (Entry.strings w sizes short memos) Domain.long h = absurd h
  entry_placed end rows (Entry.strings w sizes short memos) Domain.text h =
      All-cons (IsSpan end) sizes (short ∷ memo_spans memos) h.sizes_are.span (All-cons (IsSpan end) short (memo_spans memos) h.short_is (memos_placed end rows 0 memos h.memos_are))
  entry_placed end rows (Entry.strings w sizes short memos) Domain.bytes h =
      All-cons (IsSpan end) sizes (short ∷ memo_spans memos) h.sizes_are.span (All-cons (IsSpan end) short (memo_spans memos) h.short_is (memos_placed end rows 0 memos h.memos_are))
  entry_placed end rows (Entry.strings w sizes short memos) (Domain.relation g) h = absurd h
  entry_placed end rows (Entry.tables inner) Domain.integer h = absurd h
  entry_placed end rows (Entry.tables inner) Domain.long h = absurd h
  entry_placed end rows (Entry.tables inner) Domain.text h = absurd h
  entry_placed end rows (Entry.tables inner) Domain.bytes h = absurd h
  entry_placed end rows (Entry.tables inner) (Domain.relation g) h = bodies_placed end inner g h.1

  entries_placed : (end rows : ℕ) (es : Entries) (g : Heading) → AreEntries end rows g es → All (IsSpan end) (entries_spans es)
  entries_placed end rows no_entries no_attributes h = All-nil (IsSpan end)
  entries_placed end rows no_entries (attribute n d g) h = absurd h
  entries_placed end rows (entry e rest) no_attributes h = absurd h
  entries_placed end rows (entry e rest) (attribute n d g) h = All-append (IsSpan end) (entry_spans e) (entries_spans rest) (entry_placed end rows e d h.0) (entries_placed end rows rest g h.1)

  bodies_placed : (end : ℕ) (bs : Bodies) (g : Heading) → AreBodies end g bs → All (IsSpan end) (bodies_spans bs)
  bodies_placed end no_bodies g h = All-nil (IsSpan end)
  bodies_placed end (body rows columns rest) g h = All-append (IsSpan end) (entries_spans columns) (bodies_spans rest) (entries_placed end rows columns g h.1) (bodies_placed end rest g h.2)

pub views_placed : (end : ℕ) (vs : List ViewEntry) → All (IsViewEntry end) vs → All (IsSpan end) (flat_map (λ (v : ViewEntry). entries_spans v.columns) vs)
views_placed end [] h = All-nil (IsSpan end)
views_placed end (v ∷ vs) h =
    All-append (IsSpan end) (entries_spans v.columns) (flat_map (λ (v : ViewEntry). entries_spans v.columns) vs)
    (entries_placed end v.rows v.columns (heading_of v.schema) (All-head (IsViewEntry end) v vs h).entries) (views_placed end vs (All-tail (IsViewEntry end) v vs h))

pub site_block : (end : ℕ) (s : Span) → end < 2 ^ 64 → IsSite end s → IsBlock s
site_block end s small h = record { aligned = h.aligned; not_empty = h.some; end_fits = (let p = h.within in omega (arith, p, small)) }

-- what is left of spans without the empty ones
pub some_kept : (s : Span) (spans : List Span) → 0 < s.len → some_spans (s ∷ spans) ≡ s ∷ some_spans spans
some_kept s spans p = ap (λ (b : Bool). cond b (s ∷ some_spans spans) (some_spans spans)) ((Decides-ltb 0 s.len).1 p)

pub none_kept : (s : Span) (spans : List Span) → s ≡ no_span → some_spans (s ∷ spans) ≡ some_spans spans
none_kept s spans none = ap (λ (x : Span). cond (nat_lt 0 x.len) (s ∷ some_spans spans) (some_spans spans)) none

some_blocks : (end : ℕ) (spans : List Span) → end < 2 ^ 64 → All (IsSpan end) spans → All IsBlock (some_spans spans)
some_blocks end [] small h = All-nil IsBlock
some_blocks end (s ∷ spans) small h =
    let rest : All IsBlock (some_spans spans) = some_blocks end spans small (All-tail (IsSpan end) s spans h) in
    ⊎_elim
    (λ (none : s ≡ no_span). subst (All IsBlock) (sym (none_kept s spans none)) rest)
    (λ (site : IsSite end s). subst (All IsBlock) (sym (some_kept s spans site.some)) (All-cons IsBlock s (some_spans spans) (site_block end s small site) rest))
    (All-head (IsSpan end) s spans h)

-- those of a directory are blocks, its own among them
pub all_blocks : (end : ℕ) (d : Dir) (own : Span) → end < 2 ^ 64 → All (IsViewEntry end) d.views → IsSite end own → All IsBlock (some_spans (dir_spans d) ++ own ∷ [])
all_blocks end d own small h site =
    All-append IsBlock (some_spans (dir_spans d)) (own ∷ []) (some_blocks end (dir_spans d) small (views_placed end d.views h))
    (All-cons IsBlock own [] (site_block end own small site) (All-nil IsBlock))
