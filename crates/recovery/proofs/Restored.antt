-- The commit that is read under a mark stands under it.
use Rattle.std.proofs.Common.{◌≡◌, ℕ, suc, ◌+◌, ◌<◌, ◌≤◌, ⊎_elim, inl, inr, List, [], ◌∷◌, ◌++◌, length, get_or, map, All, refl, ap, sym, subst, ◌∙◌, arith}
use Rattle.std.specs.List.{flat_map}
use Rattle.std.proofs.lemmas.List.{map-append}
use Rattle.std.proofs.lemmas.List.Elements.{All-append, All-cons, All-head, All-nil, All-tail}
use Rattle.std.proofs.lemmas.List.Kept.{AllPairs-cons}
use Rattle.mk_value.specs.declared.span.Span.{Span}
use Rattle.host_io.specs.Ranges.{bytes_in}
use Rattle.free_space.specs.Extents.{AreApart, Covers, IsAligned, Meets, extent_len}
use Rattle.free_space.specs.Sites.{IsSite, first_place, no_span}
use Rattle.free_space.proofs.ExtentLemmas.{extent_len-least}
use Rattle.commit_marks.specs.declared.mark.Mark.{Mark}
use Rattle.commit_marks.specs.Marks.{IsMark, dir_span}
use Rattle.commit_writes.specs.Blocks.{Block, IsSited, StandsAt, span_range, spans_of}
use Rattle.dir_codec.specs.Columns.{dir_columns}
use Rattle.dir_codec.specs.Dir.{AreNotes, Dir, IsDir, IsSpan, NoteEntry, ViewEntry, spelled}
use Rattle.tables.specs.Blocks.{plain_columns}
use Rattle.tables.specs.Homes.{PlainColumn}
use Rattle.tables.specs.Shapes.{HasHomes}
use Rattle.view_store.specs.Views.{AreViews, NamedTable}
use Rattle.recovery.specs.Commits.{IsCommit, IsHomed, column_blocks, directory, plain_views, version_of, view_entry}
use Rattle.recovery.specs.Found.{AreViewsFormed, AreViewsFound, HasLength, IsFound, IsTableFound, IsViewFormed}
use Rattle.recovery.specs.Reading.{all_spans, spans_in}
use Rattle.recovery.specs.Spans.{dir_spans, some_spans}
use Rattle.recovery.specs.Standing.{Stands}
use Rattle.recovery.proofs.DirSpans.{all_met, none_kept, some_kept, views_met, views_placed}
use Rattle.recovery.proofs.EntriesOf.{directory_columns}
use Rattle.recovery.proofs.Footprints.{footprint_whole}
use Rattle.recovery.proofs.PlainParts.{IsPlainPart, all_spans_back, columns_spans, views_parts}

-- the directory of the views is the one that was read
same_entry : (P : Block → Type 0) (e : ViewEntry) (v : NamedTable) → IsViewFormed e v → IsTableFound P e.columns v.table → view_entry v ≡ e
same_entry P e v formed found =
    ap (λ n. let x : ViewEntry = record { name = n; schema = v.table.schema; rows = length v.table.rows; columns = (view_entry v).columns } in x) formed.name
    ∙ ap (λ s. let x : ViewEntry = record { name = e.name; schema = s; rows = length v.table.rows; columns = (view_entry v).columns } in x) formed.form.table.same_schema
    ∙ ap (λ n. let x : ViewEntry = record { name = e.name; schema = e.schema; rows = n; columns = (view_entry v).columns } in x) formed.form.count
    ∙ ap (λ c. let x : ViewEntry = record { name = e.name; schema = e.schema; rows = e.rows; columns = c } in x) (sym found.entries)

same_entries : (P : Block → Type 0) (own : List ViewEntry) (views : List NamedTable) → AreViewsFormed own views → AreViewsFound P own views → map view_entry views ≡ own
same_entries P [] [] h g = refl
same_entries P [] (v ∷ views) h g = absurd h
same_entries P (e ∷ own) [] h g = absurd h
same_entries P (e ∷ own) (v ∷ views) h g =
    ap (λ x. x ∷ map view_entry views) (same_entry P e v h.0 g.0) ∙ ap (λ xs. e ∷ xs) (same_entries P own views h.1 g.1)

all_found : (P : Block → Type 0) (own : List ViewEntry) (views : List NamedTable) → AreViewsFound P own views → All (IsFound P) (plain_views views)
all_found P [] [] g = All-nil (IsFound P)
all_found P [] (v ∷ views) g = absurd g
all_found P (e ∷ own) [] g = absurd g
all_found P (e ∷ own) (v ∷ views) g = All-append (IsFound P) (plain_columns v.table) (plain_views views) g.0.found (all_found P own views g.1)

all_homed : (P : Block → Type 0) (columns : List PlainColumn) → All (IsFound P) columns → All IsHomed columns
all_homed P [] h = All-nil IsHomed
all_homed P (c ∷ columns) h = All-cons IsHomed c columns (All-head (IsFound P) c columns h).homed (all_homed P columns (All-tail (IsFound P) c columns h))

all_blocks : (P : Block → Type 0) (columns : List PlainColumn) → All (IsFound P) columns → All P (flat_map column_blocks columns)
all_blocks P [] h = All-nil P
all_blocks P (c ∷ columns) h =
    All-append P (column_blocks c) (flat_map column_blocks columns) (All-head (IsFound P) c columns h).blocks (all_blocks P columns (All-tail (IsFound P) c columns h))

no_bytes : (bytes : List ℕ) → length bytes ≡ 0 → bytes ≡ []
no_bytes [] e = refl
no_bytes (b ∷ bytes) e = absurd (omega (arith, e))

-- a block as long as its span, which is one of the directory, has its place
one_sited : (end : ℕ) (b : Block) → HasLength b → IsSpan end b.span → IsSited end b
one_sited end b long =
    ⊎_elim
    (λ (none : b.span ≡ no_span). inl (
    ap (λ s. let x : Block = record { span = s; bytes = b.bytes } in x) none
    ∙ ap (λ bs. let x : Block = record { span = no_span; bytes = bs } in x) (no_bytes b.bytes (sym long ∙ ap (λ (s : Span). s.len) none))))
    (λ (site : IsSite end b.span). inr (record { site = site; len = long }))

all_sited : (end : ℕ) (bs : List Block) → All HasLength bs → All (IsSpan end) (spans_of bs) → All (IsSited end) bs
all_sited end [] s p = All-nil (IsSited end)
all_sited end (b ∷ bs) s p =
    All-cons (IsSited end) b bs (one_sited end b (All-head HasLength b bs s) (All-head (IsSpan end) b.span (spans_of bs) p))
    (all_sited end bs (All-tail HasLength b bs s) (All-tail (IsSpan end) b.span (spans_of bs) p))

-- a span of no bytes meets none
empty_apart : (s other : Span) → s ≡ no_span → ¬ Meets s other
empty_apart s other none meets =
    let covers : Covers no_span meets.0 = subst (λ (x : Span). Covers x meets.0) none meets.1 in
    let least : extent_len 0 ≤ 0 = extent_len-least 0 0 refl (omega arith) in
    let before : meets.0 < 0 + extent_len 0 = covers.1 in
    absurd (omega (arith, before, least))

empty_apart_behind : (s other : Span) → other ≡ no_span → ¬ Meets s other
empty_apart_behind s other none meets = empty_apart other s none (meets.0, meets.2, meets.1)

-- the empty ones apart, all are apart
with_empty : (P : Span → Type 0) (end : ℕ) (xs rest : List Span) → ((s : Span) → s ≡ no_span → P s) → All (IsSpan end) xs → All P (some_spans xs ++ rest) → All P (xs ++ rest)
with_empty P end [] rest empty h all = all
with_empty P end (x ∷ xs) rest empty h all =
    let others = All-tail (IsSpan end) x xs h in
    ⊎_elim
    (λ (none : x ≡ no_span). All-cons P x (xs ++ rest) (empty x none) (with_empty P end xs rest empty others (subst (λ ss. All P (ss ++ rest)) (none_kept x xs none) all)))
    (λ (site : IsSite end x).
    let kept : All P (x ∷ (some_spans xs ++ rest)) = subst (λ ss. All P (ss ++ rest)) (some_kept x xs site.some) all in
    All-cons P x (xs ++ rest) (All-head P x (some_spans xs ++ rest) kept) (with_empty P end xs rest empty others (All-tail P x (some_spans xs ++ rest) kept)))
    (All-head (IsSpan end) x xs h)

first_apart : (x : Span) (ys : List Span) → AreApart (x ∷ ys) → All (λ y. ¬ Meets x y) ys
first_apart x ys h = λ i d p. h 0 (suc i) d (omega arith) (omega (arith, p))

others_apart : (x : Span) (ys : List Span) → AreApart (x ∷ ys) → AreApart ys
others_apart x ys h = λ i j d p q. h (suc i) (suc j) d (omega (arith, p)) (omega (arith, q))

apart_with_empty : (end : ℕ) (xs rest : List Span) → All (IsSpan end) xs → AreApart (some_spans xs ++ rest) → AreApart (xs ++ rest)
apart_with_empty end [] rest h apart = apart
apart_with_empty end (x ∷ xs) rest h apart =
    let others = All-tail (IsSpan end) x xs h in
    ⊎_elim
    (λ (none : x ≡ no_span). AllPairs-cons (λ one other. ¬ Meets one other) x (xs ++ rest) (λ i d p. empty_apart x (get_or (xs ++ rest) i d) none)
    (apart_with_empty end xs rest others (subst (λ ss. AreApart (ss ++ rest)) (none_kept x xs none) apart)))
    (λ (site : IsSite end x).
    let kept : AreApart (x ∷ (some_spans xs ++ rest)) = subst (λ ss. AreApart (ss ++ rest)) (some_kept x xs site.some) apart in
    AllPairs-cons (λ one other. ¬ Meets one other) x (xs ++ rest)
    (with_empty (λ y. ¬ Meets x y) end xs rest (λ s e. empty_apart_behind x s e) others (first_apart x (some_spans xs ++ rest) kept))
    (apart_with_empty end xs rest others (others_apart x (some_spans xs ++ rest) kept)))
    (All-head (IsSpan end) x xs h)

version_is : (version number : ℕ) (notes : List NoteEntry) → AreNotes version number notes → version_of notes ≡ version
version_is version number [] h = ⊎_elim (λ one. sym one.0) (λ two. (let p = two.1 in absurd (omega (arith, p)))) h.counted
version_is version number (n ∷ notes) h = ⊎_elim (λ one. (let e = ap length one.1 in absurd (omega (arith, e)))) (λ two. sym two.0) h.counted

-- what is known of the directory of a mark, be the image known or not: it is one, no two extents meet, and it is as long as its span
pub record IsDirOf (m : Mark) (d : Dir) : Type 0 where
  pub good : IsDir m.version m.number m.end d
  pub aligned : IsAligned m.end
  pub behind : first_place ≤ m.end
  pub site : IsSite m.end (dir_span m)
  pub long : m.len ≡ length (spelled d)
  pub apart : AreApart (all_spans d (dir_span m))

module _ (m : Mark) (d : Dir) (views : List NamedTable) (mark : IsMark m) (has : IsDirOf m d)
    (whole : AreViews views) (shaped : All (λ v. HasHomes v.table) views) (formed : AreViewsFormed d.views views) (made : AreViewsFound HasLength d.views views) where
  same_dir : directory views d.notes ≡ d
  same_dir = ap (λ vs. let x : Dir = record { views = vs; notes = d.notes } in x) (same_entries HasLength d.views views formed made)

  plain : All (IsFound HasLength) (plain_views views)
  plain = all_found HasLength d.views views made

  parts : All IsPlainPart (plain_views views)
  parts = views_parts views whole.whole shaped

  homed : All IsHomed (plain_views views)
  homed = all_homed HasLength (plain_views views) plain

  -- the spans of all columns
  spans_are : spans_of (flat_map column_blocks (plain_views views)) ≡ dir_spans d
  spans_are =
      columns_spans (plain_views views) parts
      ∙ sym (all_spans_back (plain_views views) (dir_columns (directory views d.notes)) parts homed (directory_columns views d.notes shaped))
      ∙ ap (λ x. flat_map (λ e. spans_in e.entry) (dir_columns x)) same_dir
      ∙ views_met m.end d has.good.each

  placed : All (IsSpan m.end) (dir_spans d)
  placed = views_placed m.end d.views has.good.each

  abbrev own : Block
  own = record { span = dir_span m; bytes = spelled (directory views d.notes) }

  all_long : All HasLength (flat_map column_blocks (plain_views views) ++ own ∷ [])
  all_long = All-append HasLength (flat_map column_blocks (plain_views views)) (own ∷ []) (all_blocks HasLength (plain_views views) plain)
      (All-cons HasLength own [] (has.long ∙ ap (λ x. length (spelled x)) (sym same_dir)) (All-nil HasLength))

  spans_all : spans_of (flat_map column_blocks (plain_views views) ++ own ∷ []) ≡ dir_spans d ++ dir_span m ∷ []
  spans_all = map-append (λ b. b.span) (flat_map column_blocks (plain_views views)) (own ∷ []) ∙ ap (λ ss. ss ++ dir_span m ∷ []) spans_are

  sited : All (IsSited m.end) (flat_map column_blocks (plain_views views) ++ own ∷ [])
  sited = all_sited m.end (flat_map column_blocks (plain_views views) ++ own ∷ []) all_long
      (subst (All (IsSpan m.end)) (sym spans_all) (All-append (IsSpan m.end) (dir_spans d) (dir_span m ∷ []) placed (All-cons (IsSpan m.end) (dir_span m) [] (inr has.site) (All-nil (IsSpan m.end)))))

  blocks_apart : AreApart (spans_of (flat_map column_blocks (plain_views views) ++ own ∷ []))
  blocks_apart = subst AreApart (sym spans_all) (apart_with_empty m.end (dir_spans d) (dir_span m ∷ []) placed (subst AreApart (sym (all_met m.end d (dir_span m) has.good.each)) has.apart))

  same_version : version_of d.notes ≡ m.version
  same_version = version_is m.version m.number d.notes has.good.notes

  pub commit_whole : IsCommit (record { number = m.number; views = views; notes = d.notes; dir = dir_span m; end = m.end })
  commit_whole = record {
    number = mark.number;
    views = whole;
    shaped = shaped;
    homed = homed;
    notes = subst (λ v. AreNotes v m.number d.notes) (sym same_version) has.good.notes;
    fits = record { aligned = has.aligned; behind = has.behind; within = omega arith; dir = has.site };
    end_fits = mark.end;
    sited = sited;
    apart = blocks_apart;
  }

  -- in an image where the directory and the blocks of the columns stand, the commit stands
  pub commit_stands : (image : List ℕ) → m.end ≤ length image → bytes_in image (span_range (dir_span m)) ≡ spelled d → AreViewsFound (StandsAt image) d.views views
      → Stands image m (record { number = m.number; views = views; notes = d.notes; dir = dir_span m; end = m.end })
  commit_stands image within spells found = record {
    whole = commit_whole;
    mark = ap (λ v. let x : Mark = record { version = v; number = m.number; place = m.place; len = m.len; end = m.end } in x) (sym same_version);
    holds = record {
      whole = footprint_whole (record { number = m.number; views = views; notes = d.notes; dir = dir_span m; end = m.end }) commit_whole;
      within = within;
      blocks = All-append (StandsAt image) (flat_map column_blocks (plain_views views)) (own ∷ [])
          (all_blocks (StandsAt image) (plain_views views) (all_found (StandsAt image) d.views views found))
          (All-cons (StandsAt image) own [] (spells ∙ ap spelled (sym same_dir)) (All-nil (StandsAt image)));
    };
  }
