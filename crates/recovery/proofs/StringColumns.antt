-- The texts or byte strings of blocks are the values of the column that a directory has there.
use Rattle.std.proofs.Common.{◌≡◌, ℕ, ◌≤◌, pos, List, [], ◌∷◌, length, get_or, drop, map, All, Some, refl, ap, sym, subst, ◌∙◌, arith}
use Rattle.std.proofs.lemmas.List.{length-map}
use Rattle.std.proofs.lemmas.List.Elements.{All-head, All-tail, All-cons, All-nil}
use Rattle.mk_value.specs.declared.span.Span.{Span}
use Rattle.mk_value.specs.Limits.{max_bytes}
use Rattle.mk_value.specs.Heading.{Domain}
use Rattle.mk_value.specs.Data.{Datum, integer, long, text, bytes, relation, IsOf}
use Rattle.bit_pack.specs.declared.widths.Width.{Width}
use Rattle.bit_pack.specs.declared.widths.Width.TheVariants.{W0, W32, W64}
use Rattle.bit_pack.specs.Width.{IsLeastWidth, least_width}
use Rattle.bit_pack.specs.Packed.{Packed, packed}
use Rattle.bit_pack.proofs.Least.{least_is, packed_is, packed_is_packed}
use Rattle.bit_pack.proofs.LeastWidth.{HoldsAll-wider}
use Rattle.bit_pack.proofs.Packing.{same_values}
use Rattle.bytes_col.specs.Strings.{Strings, long_values, memo_rows, short_bytes, sizes_of}
use Rattle.host_io.specs.Ranges.{bytes_in}
use Rattle.commit_writes.specs.Blocks.{Block, StandsAt, span_range}
use Rattle.dir_codec.specs.declared.dir.Memo.{Memo}
use Rattle.dir_codec.specs.Dir.{Entry}
use Rattle.dir_codec.specs.Columns.{PlainEntry}
use Rattle.tables.specs.Homes.{strings}
use Rattle.tables.specs.Shapes.{IsHomeOf, bytes_in as content_of}
use Rattle.tables.specs.Blocks.{blocks_of_values}
use Rattle.tables.specs.Columns.{HasBlocks, IsTextValue, texts, column_values, IsColumnOf as IsStoredOf}
use Rattle.recovery.specs.declared.contents.Content.{Content}
use Rattle.recovery.specs.declared.contents.Content.TheVariants as content
use Rattle.recovery.specs.Commits.{blocks_at, memos_at}
use Rattle.recovery.specs.Contents.{FitsContent}
use Rattle.recovery.specs.Memos.{memo_bytes}
use Rattle.recovery.specs.Found.{HasLength}
use Rattle.recovery.specs.Reading.{IsColumnBy, IsColumnOf, IsReadable}
use Rattle.recovery.specs.Strings.{AreAsLong, AreCounted, AreStringsAt, IsStringEntry, Parts, home_at}
use Rattle.recovery.proofs.Memos.{memo_rows-from, rows_long}
use Rattle.recovery.proofs.SameStrings.{one_list}
use Rattle.recovery.proofs.Widths.{sizes_held}

-- parts of an entry
abbrev width_in : Entry → Width
width_in (Entry.strings w sizes short memos) = w
width_in _ = W0

abbrev memos_in : Entry → List Memo
memos_in (Entry.strings w sizes short memos) = memos
memos_in _ = []

abbrev string_entry : ℕ → Domain → ℕ → Parts → PlainEntry
string_entry start domain rows p = record { start = start; domain = domain; rows = rows; entry = Entry.strings p.width p.sizes p.short p.memos }

the_entry : (e : PlainEntry) (domain : Domain) (rows : ℕ) (p : Parts) → e.domain ≡ domain → e.rows ≡ rows → e.entry ≡ Entry.strings p.width p.sizes p.short p.memos → ◌≡◌ {A = PlainEntry} e (string_entry e.start domain rows p)
the_entry e domain rows p d r n =
    ap (λ x. let y : PlainEntry = record { start = e.start; domain = x; rows = e.rows; entry = e.entry } in y) d
    ∙ ap (λ x. let y : PlainEntry = record { start = e.start; domain = domain; rows = x; entry = e.entry } in y) r
    ∙ ap (λ x. let y : PlainEntry = record { start = e.start; domain = domain; rows = rows; entry = x } in y) n

-- memos, from their rows and spans and back
rejoined : (memos : List Memo) → memos_at (map (λ m. m.row) memos) (map (λ m. m.span) memos) ≡ memos
rejoined [] = refl
rejoined (m ∷ memos) = ap (λ ms. m ∷ ms) (rejoined memos)

rows_back : (rows : List ℕ) (spans : List Span) → length rows ≡ length spans → map (λ m. m.row) (memos_at rows spans) ≡ rows
rows_back [] [] e = refl
rows_back [] (s ∷ spans) e = absurd (omega (arith, e))
rows_back (r ∷ rows) [] e = absurd (omega (arith, e))
rows_back (r ∷ rows) (s ∷ spans) e = ap (λ rs. r ∷ rs) (rows_back rows spans (omega (arith, e)))

memos_stand : (image : List ℕ) (memos : List Memo) → All (StandsAt image) (blocks_at (map (λ m. m.span) memos) (memo_bytes image memos))
memos_stand image [] = All-nil (StandsAt image)
memos_stand image (m ∷ memos) = All-cons (StandsAt image) (record { span = m.span; bytes = bytes_in image (span_range m.span) }) (blocks_at (map (λ m. m.span) memos) (memo_bytes image memos)) refl (memos_stand image memos)

memos_of : (image : List ℕ) (memos : List Memo) (values : List (List ℕ)) → length (map (λ (m : Memo). m.span) memos) ≡ length values → All (StandsAt image) (blocks_at (map (λ m. m.span) memos) values) → memo_bytes image memos ≡ values
memos_of image [] [] e h = refl
memos_of image [] (v ∷ values) e h = absurd (omega (arith, e))
memos_of image (m ∷ memos) [] e h = absurd (omega (arith, e))
memos_of image (m ∷ memos) (v ∷ values) e h =
    let first : bytes_in image (span_range m.span) ≡ v = All-head (StandsAt image) (record { span = m.span; bytes = v }) (blocks_at (map (λ m. m.span) memos) values) h in
    ap (λ x. x ∷ memo_bytes image memos) first
    ∙ ap (λ xs. v ∷ xs) (memos_of image memos values (omega (arith, e)) (All-tail (StandsAt image) (record { span = m.span; bytes = v }) (blocks_at (map (λ m. m.span) memos) values) h))

-- each block of the values has the property, and the width is the least of their sizes
record HasStrings (P : Block → Type 0) (p : Parts) (rows : ℕ) (values : List (List ℕ)) : Type 0 where
  count : length (sizes_of values) ≡ rows
  least : IsLeastWidth p.width (sizes_of values)
  as_many : length p.memos ≡ length (long_values values)
  sizes : P (record { span = p.sizes; bytes = packed (sizes_of values) })
  brief : P (record { span = p.short; bytes = short_bytes values })
  memos : All P (blocks_at (map (λ m. m.span) p.memos) (long_values values))

-- strings that stand in an image, and those that are as long as their blocks
standing : (image : List ℕ) (p : Parts) (rows : ℕ) (values : List (List ℕ)) → AreStringsAt image p rows values → HasStrings (StandsAt image) p rows values
standing image p rows values at = record {
  count = at.sized.count;
  least = at.sized.packed.least;
  as_many = sym (length-map p.memos (λ m. bytes_in image (span_range m.span))) ∙ ap length at.long;
  sizes = packed_is p.width (sizes_of values) (bytes_in image (span_range p.sizes)) at.sized.packed;
  brief = at.brief;
  memos = subst (λ vs. All (StandsAt image) (blocks_at (map (λ m. m.span) p.memos) vs)) at.long (memos_stand image p.memos);
}

memos_long : (memos : List Memo) (values : List (List ℕ)) → map (λ (m : Memo). m.span.len) memos ≡ map length values → All HasLength (blocks_at (map (λ (m : Memo). m.span) memos) values)
memos_long [] values e = All-nil HasLength
memos_long (m ∷ memos) [] e = All-nil HasLength
memos_long (m ∷ memos) (v ∷ values) e =
    let first : m.span.len ≡ length v = ap (λ (ns : List ℕ). get_or ns 0 0) e in
    All-cons HasLength (record { span = m.span; bytes = v }) (blocks_at (map (λ (m : Memo). m.span) memos) values) first (memos_long memos values (ap (λ (ns : List ℕ). drop 1 ns) e))

as_long : (p : Parts) (rows : ℕ) (values : List (List ℕ)) → AreAsLong p rows values → HasStrings HasLength p rows values
as_long p rows values at = record {
  count = at.sized.count;
  least = at.sized.packed.least;
  as_many = sym (length-map p.memos (λ m. m.span.len)) ∙ ap length at.long ∙ length-map (long_values values) length;
  sizes = at.sized.long ∙ ap length (packed_is p.width (sizes_of values) at.sized.bytes at.sized.packed);
  brief = at.brief;
  memos = memos_long p.memos (long_values values) at.long;
}

abbrev record_block : Span → List ℕ → Block
record_block span held = record { span = span; bytes = held }

module _ (p : Parts) (rows start : ℕ) (domain : Domain)
    (fits : (ds : List Datum) → All (λ d. IsOf d domain) ds → All (λ v. length v ≤ max_bytes) (map content_of ds))
    (shape : (ds : List Datum) → (length (map (λ m. m.span) p.memos) ≡ length (long_values (map content_of ds))) → IsHomeOf (strings p.sizes p.short (map (λ m. m.span) p.memos)) domain ds)
    (shape_of : (ds : List Datum) → IsHomeOf (strings p.sizes p.short (map (λ m. m.span) p.memos)) domain ds → length (map (λ m. m.span) p.memos) ≡ length (long_values (map content_of ds)))
    (blocks_are : (ds : List Datum) → blocks_of_values domain ds ≡ packed (sizes_of (map content_of ds)) ∷ short_bytes (map content_of ds) ∷ long_values (map content_of ds)) where
  to_column : (P : Block → Type 0) (ds : List Datum) (values : List (List ℕ)) → map content_of ds ≡ values → All (λ d. IsOf d domain) ds → length ds ≡ length values
      → HasStrings P p rows values → map (λ m. m.row) p.memos ≡ memo_rows values → IsColumnBy P (string_entry start domain rows p) ds
  to_column P ds values contents fit same at in_order = record {
    count = same ∙ sym (length-map values (λ v. pos (length v))) ∙ at.count;
    fit = fit;
    shaped = shape ds (length-map p.memos (λ m. m.span) ∙ at.as_many ∙ ap (λ vs. length (long_values vs)) (sym contents));
    entry = ap (λ u. Entry.strings u p.sizes p.short p.memos) (least_is p.width (sizes_of values) at.least ∙ ap (λ vs. least_width (sizes_of vs)) (sym contents))
        ∙ ap (λ ms. Entry.strings (least_width (sizes_of (map content_of ds))) p.sizes p.short ms)
        (sym (rejoined p.memos) ∙ ap (λ rs. memos_at rs (map (λ m. m.span) p.memos)) (in_order ∙ ap memo_rows (sym contents)));
    blocks = subst (λ bs. All P (blocks_at (p.sizes ∷ p.short ∷ map (λ m. m.span) p.memos) bs))
        (sym (blocks_are ds ∙ ap (λ vs. packed (sizes_of vs) ∷ short_bytes vs ∷ long_values vs) contents))
        (All-cons P (record { span = p.sizes; bytes = packed (sizes_of values) }) (blocks_at (p.short ∷ map (λ m. m.span) p.memos) (short_bytes values ∷ long_values values)) at.sizes
        (All-cons P (record { span = p.short; bytes = short_bytes values }) (blocks_at (map (λ m. m.span) p.memos) (long_values values)) at.brief at.memos));
  }

  of_column : (image : List ℕ) (ds : List Datum) → IsColumnOf image (string_entry start domain rows p) ds → AreStringsAt image p rows (map content_of ds) × (map (λ m. m.row) p.memos ≡ memo_rows (map content_of ds))
  of_column image ds is =
      let vs = map content_of ds in
      let long : length (map (λ m. m.span) p.memos) ≡ length (long_values vs) = shape_of ds is.shaped in
      let least : p.width ≡ least_width (sizes_of vs) = ap width_in is.entry in
      let all : All (StandsAt image) (blocks_at (p.sizes ∷ p.short ∷ map (λ m. m.span) p.memos) (packed (sizes_of vs) ∷ short_bytes vs ∷ long_values vs)) =
      subst (λ bs. All (StandsAt image) (blocks_at (p.sizes ∷ p.short ∷ map (λ m. m.span) p.memos) bs)) (blocks_are ds) is.blocks in
      let first = record_block p.sizes (packed (sizes_of vs)) in
      let second = record_block p.short (short_bytes vs) in
      let last = blocks_at (map (λ m. m.span) p.memos) (long_values vs) in
      let stands : bytes_in image (span_range p.sizes) ≡ packed (sizes_of vs) = All-head (StandsAt image) first (second ∷ last) all in
      let behind = All-tail (StandsAt image) first (second ∷ last) all in
      let held = HoldsAll-wider W32 W64 (sizes_of vs) (omega arith) (sizes_held vs (fits ds is.fit)) in (
        record {
          sized = record {
            count = length-map vs (λ v. pos (length v)) ∙ length-map ds content_of ∙ is.count;
            packed = subst (λ u. Packed u (sizes_of vs) (bytes_in image (span_range p.sizes))) (sym least) (subst (Packed (least_width (sizes_of vs)) (sizes_of vs)) (sym stands) (packed_is_packed (sizes_of vs) held));
          };
          brief = All-head (StandsAt image) second last behind;
          long = memos_of image p.memos (long_values vs) long (All-tail (StandsAt image) second last behind);
        },
        ap (λ en. map (λ m. m.row) (memos_in en)) is.entry
            ∙ rows_back (memo_rows vs) (map (λ m. m.span) p.memos) (ap length (memo_rows-from vs) ∙ rows_long 0 vs ∙ sym long),
      )

-- values of texts and of byte strings, and back
contents_of_texts : (values : List (List ℕ)) → map content_of (map text values) ≡ values
contents_of_texts [] = refl
contents_of_texts (v ∷ values) = ap (λ vs. v ∷ vs) (contents_of_texts values)

contents_of_bytes : (values : List (List ℕ)) → map content_of (map bytes values) ≡ values
contents_of_bytes [] = refl
contents_of_bytes (v ∷ values) = ap (λ vs. v ∷ vs) (contents_of_bytes values)

texts_fit : (values : List (List ℕ)) → All IsTextValue values → All (λ d. IsOf d Domain.text) (map text values)
texts_fit [] h = All-nil (λ d. IsOf d Domain.text)
texts_fit (v ∷ values) h =
    let first : IsTextValue v = All-head IsTextValue v values h in
    All-cons (λ d. IsOf d Domain.text) (text v) (map text values) (first.is_text, first.short) (texts_fit values (All-tail IsTextValue v values h))

bytes_fit : (values : List (List ℕ)) → All (λ v. length v ≤ max_bytes) values → All (λ d. IsOf d Domain.bytes) (map bytes values)
bytes_fit [] h = All-nil (λ d. IsOf d Domain.bytes)
bytes_fit (v ∷ values) h =
    All-cons (λ d. IsOf d Domain.bytes) (bytes v) (map bytes values) (All-head (λ v. length v ≤ max_bytes) v values h) (bytes_fit values (All-tail (λ v. length v ≤ max_bytes) v values h))

fit_texts : (ds : List Datum) → All (λ d. IsOf d Domain.text) ds → All IsTextValue (map content_of ds)
fit_texts [] h = All-nil IsTextValue
fit_texts (text v ∷ ds) h =
    let first : IsOf (text v) Domain.text = All-head (λ d. IsOf d Domain.text) (text v) ds h in
    All-cons IsTextValue v (map content_of ds) (record { is_text = first.0; short = first.1 }) (fit_texts ds (All-tail (λ d. IsOf d Domain.text) (text v) ds h))
fit_texts (integer z ∷ ds) h = absurd (All-head (λ d. IsOf d Domain.text) (integer z) ds h)
fit_texts (long z ∷ ds) h = absurd (All-head (λ d. IsOf d Domain.text) (long z) ds h)
fit_texts (bytes v ∷ ds) h = absurd (All-head (λ d. IsOf d Domain.text) (bytes v) ds h)
fit_texts (relation r ∷ ds) h = absurd (All-head (λ d. IsOf d Domain.text) (relation r) ds h)

fit_bytes : (ds : List Datum) → All (λ d. IsOf d Domain.bytes) ds → All (λ v. length v ≤ max_bytes) (map content_of ds)
fit_bytes [] h = All-nil (λ v. length v ≤ max_bytes)
fit_bytes (bytes v ∷ ds) h =
    All-cons (λ v. length v ≤ max_bytes) v (map content_of ds) (All-head (λ d. IsOf d Domain.bytes) (bytes v) ds h) (fit_bytes ds (All-tail (λ d. IsOf d Domain.bytes) (bytes v) ds h))
fit_bytes (integer z ∷ ds) h = absurd (All-head (λ d. IsOf d Domain.bytes) (integer z) ds h)
fit_bytes (long z ∷ ds) h = absurd (All-head (λ d. IsOf d Domain.bytes) (long z) ds h)
fit_bytes (text v ∷ ds) h = absurd (All-head (λ d. IsOf d Domain.bytes) (text v) ds h)
fit_bytes (relation r ∷ ds) h = absurd (All-head (λ d. IsOf d Domain.bytes) (relation r) ds h)

short_texts : (vs : List (List ℕ)) → All IsTextValue vs → All (λ v. length v ≤ max_bytes) vs
short_texts vs h = λ k d within. (h k d within).short

-- values whose blocks have the property are those of the column
made_column : (P : Block → Type 0) (kind : Content) (p : Parts) (rows : ℕ) (c : Strings) → HasStrings P p rows c.values → map (λ m. m.row) p.memos ≡ memo_rows c.values → All (FitsContent kind) c.values
    → (e : PlainEntry) → IsStringEntry rows kind p e → IsColumnBy P e (column_values e.domain (texts c))
made_column P content.Texts p rows c at in_order fit e is =
    subst (λ (x : PlainEntry). IsColumnBy P x (column_values x.domain (texts c))) (sym (the_entry e Domain.text rows p is.domain is.rows_are is.entry))
    (to_column p rows e.start Domain.text (λ ds h. short_texts (map content_of ds) (fit_texts ds h)) (λ ds l. l) (λ ds l. l) (λ _. refl)
    P (map text c.values) c.values (contents_of_texts c.values) (texts_fit c.values fit) (length-map c.values text) at in_order)
made_column P content.Strings p rows c at in_order fit e is =
    subst (λ (x : PlainEntry). IsColumnBy P x (column_values x.domain (texts c))) (sym (the_entry e Domain.bytes rows p is.domain is.rows_are is.entry))
    (to_column p rows e.start Domain.bytes fit_bytes (λ ds l. l) (λ ds l. l) (λ _. refl)
    P (map bytes c.values) c.values (contents_of_bytes c.values) (bytes_fit c.values fit) (length-map c.values bytes) at in_order)

-- the values of the blocks are those of the column
pub read_column : (image : List ℕ) (kind : Content) (p : Parts) (rows : ℕ) (c : Strings) → AreStringsAt image p rows c.values → map (λ m. m.row) p.memos ≡ memo_rows c.values → All (FitsContent kind) c.values
    → (e : PlainEntry) → IsStringEntry rows kind p e → IsColumnOf image e (column_values e.domain (texts c))
read_column image kind p rows c at = made_column (StandsAt image) kind p rows c (standing image p rows c.values at)

-- and where no image is known, they have the lengths of the blocks
pub long_column : (kind : Content) (p : Parts) (rows : ℕ) (c : Strings) → AreAsLong p rows c.values → map (λ m. m.row) p.memos ≡ memo_rows c.values → All (FitsContent kind) c.values
    → (e : PlainEntry) → IsStringEntry rows kind p e → IsColumnBy HasLength e (column_values e.domain (texts c))
long_column kind p rows c at = made_column HasLength kind p rows c (as_long p rows c.values at)

-- the values that the blocks of a readable column have
pub record HasValues (image : List ℕ) (kind : Content) (p : Parts) (rows : ℕ) : Type 0 where
  pub values : List (List ℕ)
  pub at : AreStringsAt image p rows values
  pub in_order : map (λ m. m.row) p.memos ≡ memo_rows values
  pub fit : All (FitsContent kind) values

pub readable_values : (image : List ℕ) (kind : Content) (p : Parts) (rows : ℕ) (e : PlainEntry) → IsStringEntry rows kind p e → IsReadable image e → HasValues image kind p rows
readable_values image content.Texts p rows e is readable =
    let here = subst (λ (x : PlainEntry). IsColumnOf image x readable.0) (the_entry e Domain.text rows p is.domain is.rows_are is.entry) readable.1 in
    let found = of_column p rows e.start Domain.text (λ ds h. short_texts (map content_of ds) (fit_texts ds h)) (λ ds l. l) (λ ds l. l) (λ _. refl) image readable.0 here in
    record { values = map content_of readable.0; at = found.0; in_order = found.1; fit = fit_texts readable.0 here.fit }
readable_values image content.Strings p rows e is readable =
    let here = subst (λ (x : PlainEntry). IsColumnOf image x readable.0) (the_entry e Domain.bytes rows p is.domain is.rows_are is.entry) readable.1 in
    let found = of_column p rows e.start Domain.bytes fit_bytes (λ ds l. l) (λ ds l. l) (λ _. refl) image readable.0 here in
    record { values = map content_of readable.0; at = found.0; in_order = found.1; fit = fit_bytes readable.0 here.fit }

-- the same blocks have no other values
same_strings : (image : List ℕ) (p : Parts) (rows : ℕ) (one two : List (List ℕ)) → AreStringsAt image p rows one → AreStringsAt image p rows two → one ≡ two
same_strings image p rows one two a b =
    one_list one two
    (same_values p.width (sizes_of one) (sizes_of two) (bytes_in image (span_range p.sizes)) a.sized.packed.packed b.sized.packed.packed (a.sized.count ∙ sym b.sized.count))
    (sym a.brief ∙ b.brief) (sym a.long ∙ b.long)

-- values whose rows of memos are others, or that do not fit, are those of no column
pub other_rows : (image : List ℕ) (kind : Content) (p : Parts) (rows : ℕ) (own : List (List ℕ)) → AreStringsAt image p rows own → (map (λ m. m.row) p.memos ≡ memo_rows own → ⊥) → (e : PlainEntry) → IsStringEntry rows kind p e → IsReadable image e → ⊥
other_rows image kind p rows own at other e is readable =
    let found = readable_values image kind p rows e is readable in
    other (found.in_order ∙ ap memo_rows (same_strings image p rows found.values own found.at at))

pub none_fit : (image : List ℕ) (kind : Content) (p : Parts) (rows : ℕ) (own : List (List ℕ)) → AreStringsAt image p rows own → (All (FitsContent kind) own → ⊥) → (e : PlainEntry) → IsStringEntry rows kind p e → IsReadable image e → ⊥
none_fit image kind p rows own at unfit e is readable =
    let found = readable_values image kind p rows e is readable in
    unfit (subst (All (FitsContent kind)) (same_strings image p rows found.values own found.at at) found.fit)

-- values that fit, with a memo for each long one, are a whole column of the domain
pub whole_column : (kind : Content) (p : Parts) (rows : ℕ) (c : Strings) → c.home ≡ Some (home_at p) → AreCounted rows p c.values → All (FitsContent kind) c.values → (e : PlainEntry) → IsStringEntry rows kind p e → IsStoredOf rows e.domain (texts c)
whole_column content.Texts p rows c home counted fit e is =
    subst (λ x. IsStoredOf rows x (texts c)) (sym is.domain)
    (record { count = counted.count; fit = fit; home = subst (λ h. HasBlocks h c.values) (sym home) (length-map p.memos (λ m. m.span) ∙ counted.long) })
whole_column content.Strings p rows c home counted fit e is =
    subst (λ x. IsStoredOf rows x (texts c)) (sym is.domain)
    (record { count = counted.count; fit = fit; home = subst (λ h. HasBlocks h c.values) (sym home) (length-map p.memos (λ m. m.span) ∙ counted.long) })
