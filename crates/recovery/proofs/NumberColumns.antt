-- The numbers of a block are the values of the column that a directory has there.
use Rattle.std.proofs.Common.{◌≡◌, ℕ, ◌≤◌, ◌⊎◌, inl, inr, ℤ, pos, negsuc, List, [], ◌∷◌, length, get_or, map, All, refl, ap, sym, subst, ◌∙◌, arith}
use Rattle.std.specs.Prelude.{FitsSigned}
use Rattle.std.specs.Int.{w32, w64}
use Rattle.std.proofs.lemmas.Int.{ints}
use Rattle.std.proofs.lemmas.List.{length-map}
use Rattle.std.proofs.lemmas.List.Elements.{All-head, All-tail, All-cons, All-nil}
use Rattle.mk_value.specs.declared.span.Span.{Span}
use Rattle.mk_value.specs.Heading.{Domain}
use Rattle.mk_value.specs.Data.{Datum, integer, long, IsOf}
use Rattle.mk_value.specs.Tables.{number_in}
use Rattle.bit_pack.specs.declared.widths.Width.{Width}
use Rattle.bit_pack.specs.declared.widths.Width.TheVariants.{W0, W32, W64}
use Rattle.bit_pack.specs.Width.{Holds, HoldsAll, IsLeastWidth, bit_count, least_width}
use Rattle.bit_pack.specs.Packed.{Packed, packed}
use Rattle.bit_pack.proofs.Least.{least_is, packed_is, packed_is_packed}
use Rattle.bit_pack.proofs.LeastWidth.{HoldsAll-wider, held_fits}
use Rattle.host_io.specs.Ranges.{bytes_in}
use Rattle.int_col.specs.Numbers.{Numbers}
use Rattle.commit_writes.specs.Blocks.{Block, StandsAt, span_range}
use Rattle.dir_codec.specs.Dir.{Entry}
use Rattle.dir_codec.specs.Columns.{PlainEntry}
use Rattle.tables.specs.Homes.{numbers}
use Rattle.tables.specs.Shapes.{IsHomeOf}
use Rattle.tables.specs.Blocks.{blocks_of_values}
use Rattle.tables.specs.Columns.{integers, column_values, IsColumnOf as IsStoredOf}
use Rattle.recovery.specs.Commits.{blocks_at}
use Rattle.recovery.specs.Found.{HasLength}
use Rattle.recovery.specs.Reading.{IsColumnBy, IsColumnOf, IsReadable}
use Rattle.recovery.specs.Numbers.{AreHeld, AreNumbersAt, ArePackedIn, IsNumberEntry}
use Rattle.recovery.proofs.Widths.{integers_held, longs_held}

-- the widths of entries, and entries that are one
abbrev width_in : Entry → Width
width_in (Entry.numbers w block) = w
width_in _ = W0

abbrev number_entry : ℕ → Domain → ℕ → Width → Span → PlainEntry
number_entry start domain rows w block = record { start = start; domain = domain; rows = rows; entry = Entry.numbers w block }

the_entry : (e : PlainEntry) (domain : Domain) (rows : ℕ) (w : Width) (block : Span) → e.domain ≡ domain → e.rows ≡ rows → e.entry ≡ Entry.numbers w block → ◌≡◌ {A = PlainEntry} e (number_entry e.start domain rows w block)
the_entry e domain rows w block d r n =
    ap (λ x. let y : PlainEntry = record { start = e.start; domain = x; rows = e.rows; entry = e.entry } in y) d
    ∙ ap (λ x. let y : PlainEntry = record { start = e.start; domain = domain; rows = x; entry = e.entry } in y) r
    ∙ ap (λ x. let y : PlainEntry = record { start = e.start; domain = domain; rows = rows; entry = x } in y) n

-- numbers of 32 bits
fits_32 : (z : ℤ) → Holds W32 z → FitsSigned w32 z
fits_32 (pos n) h = record { sfits = omega (arith, ints, h.low, h.high) }
fits_32 (negsuc n) h = record { sfits = omega (arith, ints, h.low, h.high) }

integers_fit : (values : List ℤ) → All (Holds W32) values → All (λ d. IsOf d Domain.integer) (map integer values)
integers_fit [] h = All-nil (λ d. IsOf d Domain.integer)
integers_fit (z ∷ values) h =
    All-cons (λ d. IsOf d Domain.integer) (integer z) (map integer values) (fits_32 z (All-head (Holds W32) z values h)) (integers_fit values (All-tail (Holds W32) z values h))

longs_fit : (w : Width) (values : List ℤ) → All (Holds w) values → All (λ d. IsOf d Domain.long) (map long values)
longs_fit w [] h = All-nil (λ d. IsOf d Domain.long)
longs_fit w (z ∷ values) h =
    All-cons (λ d. IsOf d Domain.long) (long z) (map long values) (held_fits w z (All-head (Holds w) z values h)) (longs_fit w values (All-tail (Holds w) z values h))

numbers_of_integers : (values : List ℤ) → map number_in (map integer values) ≡ values
numbers_of_integers [] = refl
numbers_of_integers (z ∷ values) = ap (λ zs. z ∷ zs) (numbers_of_integers values)

numbers_of_longs : (values : List ℤ) → map number_in (map long values) ≡ values
numbers_of_longs [] = refl
numbers_of_longs (z ∷ values) = ap (λ zs. z ∷ zs) (numbers_of_longs values)

module _ (w : Width) (block : Span) (rows start : ℕ) (domain : Domain)
    (held : (ds : List Datum) → All (λ d. IsOf d domain) ds → HoldsAll W64 (map number_in ds))
    (shape : (ds : List Datum) → IsHomeOf (numbers block) domain ds)
    (packs : (ds : List Datum) → blocks_of_values domain ds ≡ packed (map number_in ds) ∷ []) where
  one_block : List Datum → Block
  one_block ds = record { span = block; bytes = packed (map number_in ds) }

  to_column : (P : Block → Type 0) (ds : List Datum) (values : List ℤ) → map number_in ds ≡ values → All (λ d. IsOf d domain) ds → length ds ≡ length values → length values ≡ rows → IsLeastWidth w values
      → P (record { span = block; bytes = packed values }) → IsColumnBy P (number_entry start domain rows w block) ds
  to_column P ds values nums fit same count least has = record {
    count = same ∙ count;
    fit = fit;
    shaped = shape ds;
    entry = ap (λ u. Entry.numbers u block) (least_is w values least ∙ ap least_width (sym nums));
    blocks = subst (λ bs. All P (blocks_at (block ∷ []) bs)) (sym (packs ds))
        (All-cons P (record { span = block; bytes = packed (map number_in ds) }) [] (subst (λ vs. P (record { span = block; bytes = packed vs })) (sym nums) has) (All-nil P));
  }

  of_column : (image : List ℕ) (ds : List Datum) → IsColumnOf image (number_entry start domain rows w block) ds → AreNumbersAt image w block rows (map number_in ds)
  of_column image ds is =
      let vs = map number_in ds in
      let narrow : w ≡ least_width vs = ap width_in is.entry in
      let stands : bytes_in image (span_range block) ≡ packed vs =
      All-head (StandsAt image) (record { span = block; bytes = packed vs }) [] (subst (λ bs. All (StandsAt image) (blocks_at (block ∷ []) bs)) (packs ds) is.blocks) in
      record {
        count = length-map ds number_in ∙ is.count;
        packed = subst (λ u. Packed u vs (bytes_in image (span_range block))) (sym narrow) (subst (Packed (least_width vs) vs) (sym stands) (packed_is_packed vs (held ds is.fit)));
      }

narrow : (w : Width) (values : List ℤ) → bit_count w ≤ 32 → HoldsAll w values → HoldsAll W32 values
narrow w values p h = HoldsAll-wider w W32 values (omega (arith, p)) h

-- numbers of the least width, one for each row, are those of the column
made_column : (P : Block → Type 0) (w : Width) (block : Span) (rows : ℕ) (c : Numbers) → length c.values ≡ rows → IsLeastWidth w c.values → HoldsAll w c.values → P (record { span = block; bytes = packed c.values })
    → (e : PlainEntry) → IsNumberEntry rows w block e → IsColumnBy P e (column_values e.domain (integers c))
made_column P w block rows c count least holds has e is = by_domain is.domain
  where
    by_domain : ((e.domain ≡ Domain.integer) × (bit_count w ≤ 32)) ⊎ (e.domain ≡ Domain.long) → IsColumnBy P e (column_values e.domain (integers c))
    by_domain (inl d) =
        subst (λ (x : PlainEntry). IsColumnBy P x (column_values x.domain (integers c))) (sym (the_entry e Domain.integer rows w block d.0 is.rows_are is.entry))
        (to_column w block rows e.start Domain.integer (λ ds h. HoldsAll-wider W32 W64 (map number_in ds) (omega arith) (integers_held ds h)) (λ _. tt) (λ _. refl)
        P (map integer c.values) c.values (numbers_of_integers c.values) (integers_fit c.values (narrow w c.values d.1 holds).each) (length-map c.values integer) count least has)
    by_domain (inr d) =
        subst (λ (x : PlainEntry). IsColumnBy P x (column_values x.domain (integers c))) (sym (the_entry e Domain.long rows w block d is.rows_are is.entry))
        (to_column w block rows e.start Domain.long longs_held (λ _. tt) (λ _. refl)
        P (map long c.values) c.values (numbers_of_longs c.values) (longs_fit w c.values holds.each) (length-map c.values long) count least has)

-- the numbers at the block are those of the column
pub read_column : (image : List ℕ) (w : Width) (block : Span) (rows : ℕ) (c : Numbers) → AreNumbersAt image w block rows c.values → (e : PlainEntry) → IsNumberEntry rows w block e → IsColumnOf image e (column_values e.domain (integers c))
read_column image w block rows c at =
    made_column (StandsAt image) w block rows c at.count at.packed.least at.packed.packed.held (packed_is w c.values (bytes_in image (span_range block)) at.packed)

-- and where no image is known, they have the length of the block
pub long_column : (w : Width) (block : Span) (rows : ℕ) (c : Numbers) → ArePackedIn w block rows c.values → (e : PlainEntry) → IsNumberEntry rows w block e → IsColumnBy HasLength e (column_values e.domain (integers c))
long_column w block rows c held = made_column HasLength w block rows c held.count held.packed.least held.packed.packed.held (held.long ∙ ap length (packed_is w c.values held.bytes held.packed))

-- a column whose blocks are those of some values has numbers at its block
pub read_numbers : (image : List ℕ) (w : Width) (block : Span) (rows : ℕ) (e : PlainEntry) → IsNumberEntry rows w block e → IsReadable image e → (values : List ℤ) × AreNumbersAt image w block rows values
read_numbers image w block rows e is readable = by_domain is.domain
  where
    by_domain : ((e.domain ≡ Domain.integer) × (bit_count w ≤ 32)) ⊎ (e.domain ≡ Domain.long) → (values : List ℤ) × AreNumbersAt image w block rows values
    by_domain (inl d) = (
      map number_in readable.0,
      of_column w block rows e.start Domain.integer (λ ds h. HoldsAll-wider W32 W64 (map number_in ds) (omega arith) (integers_held ds h)) (λ _. tt) (λ _. refl) image readable.0
          (subst (λ (x : PlainEntry). IsColumnOf image x readable.0) (the_entry e Domain.integer rows w block d.0 is.rows_are is.entry) readable.1),
    )
    by_domain (inr d) = (
      map number_in readable.0,
      of_column w block rows e.start Domain.long longs_held (λ _. tt) (λ _. refl) image readable.0
          (subst (λ (x : PlainEntry). IsColumnOf image x readable.0) (the_entry e Domain.long rows w block d is.rows_are is.entry) readable.1),
    )

-- numbers of the width are a whole column of the domain
pub whole_column : (w : Width) (block : Span) (rows : ℕ) (c : Numbers) → AreHeld w rows c.values → (e : PlainEntry) → IsNumberEntry rows w block e → IsStoredOf rows e.domain (integers c)
whole_column w block rows c h e is = by_domain is.domain
  where
    longs : (values : List ℤ) → All (Holds w) values → All (λ z. FitsSigned w64 z) values
    longs values a = record_each values a
      where
        record_each : (vs : List ℤ) → All (Holds w) vs → All (λ z. FitsSigned w64 z) vs
        record_each vs a = λ k d within. held_fits w (get_or vs k d) (a k d within)

    by_domain : ((e.domain ≡ Domain.integer) × (bit_count w ≤ 32)) ⊎ (e.domain ≡ Domain.long) → IsStoredOf rows e.domain (integers c)
    by_domain (inl d) =
        subst (λ x. IsStoredOf rows x (integers c)) (sym d.0)
        (record { count = h.count; fit = λ k x within. fits_32 (get_or c.values k x) ((narrow w c.values d.1 h.held).each k x within) })
    by_domain (inr d) = subst (λ x. IsStoredOf rows x (integers c)) (sym d) (record { count = h.count; fit = longs c.values h.held.each })
