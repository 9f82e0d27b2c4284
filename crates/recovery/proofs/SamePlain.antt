-- Two plain columns with one entry in a directory, whose blocks stand in one image, are one.
use Rattle.std.proofs.Common.{◌≡◌, ◌≢◌, ℕ, suc, ◌≤◌, ℤ, pos, List, [], ◌∷◌, inl, inr, length, get_or, map, drop, All, refl, ap, sym, subst, ◌∙◌, arith}
use Rattle.std.proofs.lemmas.List.{length-map}
use Rattle.mk_value.specs.declared.span.Span.{Span}
use Rattle.mk_value.specs.Limits.{max_bytes}
use Rattle.mk_value.specs.Heading.{Domain}
use Rattle.mk_value.specs.Data.{Datum, IsOf}
use Rattle.mk_value.specs.Tables.{IsPlainDomain, number_in}
use Rattle.bit_pack.specs.declared.widths.Width.{Width}
use Rattle.bit_pack.specs.declared.widths.Width.TheVariants.{W0, W32, W64}
use Rattle.bit_pack.specs.Width.{HoldsAll, least_width}
use Rattle.bit_pack.specs.Packed.{packed}
use Rattle.bit_pack.proofs.LeastWidth.{HoldsAll-wider}
use Rattle.bytes_col.specs.Strings.{long_values, short_bytes, sizes_of}
use Rattle.free_space.specs.Sites.{no_span}
use Rattle.commit_writes.specs.Blocks.{StandsAt}
use Rattle.dir_codec.specs.Dir.{Entry}
use Rattle.tables.specs.Homes.{Home, no_home, numbers, strings, tables, PlainColumn}
use Rattle.tables.specs.Shapes.{IsHomeOf, bytes_in}
use Rattle.tables.specs.Rests.{blocks_of}
use Rattle.tables.specs.Blocks.{blocks_of_values}
use Rattle.recovery.specs.Commits.{IsHomed, blocks_at, column_blocks, entry_of}
use Rattle.recovery.specs.Reading.{spans_in}
use Rattle.recovery.proofs.Directories.{short_values}
use Rattle.recovery.proofs.PlainParts.{IsPlainPart, spans_back}
use Rattle.recovery.proofs.SameStrings.{one_list}
use Rattle.recovery.proofs.SameValues.{bytes_back, integers_back, longs_back, same_bytes_at, same_packed, texts_back}
use Rattle.recovery.proofs.Widths.{integers_held, longs_held, sizes_held}

-- a plain part of a commit that stands in an image
pub record IsThere (image : List ℕ) (c : PlainColumn) : Type 0 where
  pub part : IsPlainPart c
  pub homed : IsHomed c
  pub stands : All (StandsAt image) (column_blocks c)

-- the width in an entry
width_in : Entry → Width
width_in (Entry.numbers w block) = w
width_in (Entry.strings w sizes short memos) = w
width_in (Entry.tables inner) = W0

-- a home, from its blocks, by the kind of another
home_by : Home → List Span → Home
home_by (numbers block) spans = numbers (get_or spans 0 no_span)
home_by (strings sizes short memos) spans = strings (get_or spans 0 no_span) (get_or spans 1 no_span) (drop 2 spans)
home_by h spans = h

home_by-own : (h : Home) → home_by h (blocks_of h) ≡ h
unfolding home_by
home_by-own no_home = refl
home_by-own (numbers block) = refl
home_by-own (strings sizes short memos) = refl
home_by-own (tables rows) = refl

-- homes of one kind and shape have one form
same_form : (h k : Home) (e : Domain) (us vs : List Datum) (spans : List Span) → IsPlainDomain e → IsHomeOf h e us → IsHomeOf k e vs → h ≢ no_home → k ≢ no_home → home_by h spans ≡ home_by k spans
unfolding home_by
same_form no_home k e us vs spans kind s t n m = absurd (n refl)
same_form (tables rows) k Domain.integer us vs spans kind s t n m = absurd s
same_form (tables rows) k Domain.long us vs spans kind s t n m = absurd s
same_form (tables rows) k Domain.text us vs spans kind s t n m = absurd s
same_form (tables rows) k Domain.bytes us vs spans kind s t n m = absurd s
same_form (tables rows) k (Domain.relation g) us vs spans kind s t n m = absurd kind
same_form (numbers block) no_home e us vs spans kind s t n m = absurd (m refl)
same_form (numbers block) (numbers other) e us vs spans kind s t n m = refl
same_form (numbers block) (tables rows) Domain.integer us vs spans kind s t n m = absurd t
same_form (numbers block) (tables rows) Domain.long us vs spans kind s t n m = absurd t
same_form (numbers block) (tables rows) Domain.text us vs spans kind s t n m = absurd t
same_form (numbers block) (tables rows) Domain.bytes us vs spans kind s t n m = absurd t
same_form (numbers block) (tables rows) (Domain.relation g) us vs spans kind s t n m = absurd kind
same_form (numbers block) (strings a b c) Domain.integer us vs spans kind s t n m = absurd t
same_form (numbers block) (strings a b c) Domain.long us vs spans kind s t n m = absurd t
same_form (numbers block) (strings a b c) Domain.text us vs spans kind s t n m = absurd s
same_form (numbers block) (strings a b c) Domain.bytes us vs spans kind s t n m = absurd s
same_form (numbers block) (strings a b c) (Domain.relation g) us vs spans kind s t n m = absurd kind
same_form (strings a b c) no_home e us vs spans kind s t n m = absurd (m refl)
same_form (strings a b c) (strings x y z) e us vs spans kind s t n m = refl
same_form (strings a b c) (tables rows) Domain.integer us vs spans kind s t n m = absurd t
same_form (strings a b c) (tables rows) Domain.long us vs spans kind s t n m = absurd t
same_form (strings a b c) (tables rows) Domain.text us vs spans kind s t n m = absurd t
same_form (strings a b c) (tables rows) Domain.bytes us vs spans kind s t n m = absurd t
same_form (strings a b c) (tables rows) (Domain.relation g) us vs spans kind s t n m = absurd kind
same_form (strings a b c) (numbers block) Domain.integer us vs spans kind s t n m = absurd s
same_form (strings a b c) (numbers block) Domain.long us vs spans kind s t n m = absurd s
same_form (strings a b c) (numbers block) Domain.text us vs spans kind s t n m = absurd t
same_form (strings a b c) (numbers block) Domain.bytes us vs spans kind s t n m = absurd t
same_form (strings a b c) (numbers block) (Domain.relation g) us vs spans kind s t n m = absurd kind

-- a span for each block
many_blocks : (h : Home) (e : Domain) (us : List Datum) → IsPlainDomain e → IsHomeOf h e us → h ≢ no_home → length (blocks_of h) ≡ length (blocks_of_values e us)
many_blocks no_home e us kind s n = absurd (n refl)
many_blocks (tables rows) Domain.integer us kind s n = absurd s
many_blocks (tables rows) Domain.long us kind s n = absurd s
many_blocks (tables rows) Domain.text us kind s n = absurd s
many_blocks (tables rows) Domain.bytes us kind s n = absurd s
many_blocks (tables rows) (Domain.relation g) us kind s n = absurd kind
many_blocks (numbers block) Domain.integer us kind s n = refl
many_blocks (numbers block) Domain.long us kind s n = refl
many_blocks (numbers block) Domain.text us kind s n = absurd s
many_blocks (numbers block) Domain.bytes us kind s n = absurd s
many_blocks (numbers block) (Domain.relation g) us kind s n = absurd kind
many_blocks (strings a b c) Domain.integer us kind s n = absurd s
many_blocks (strings a b c) Domain.long us kind s n = absurd s
many_blocks (strings a b c) Domain.text us kind s n = ap (λ m. suc (suc m)) s
many_blocks (strings a b c) Domain.bytes us kind s n = ap (λ m. suc (suc m)) s
many_blocks (strings a b c) (Domain.relation g) us kind s n = absurd kind

-- the width of the block of numbers, or of sizes
width_by : Domain → List Datum → Width
width_by Domain.integer us = least_width (map number_in us)
width_by Domain.long us = least_width (map number_in us)
width_by _ us = least_width (sizes_of (map bytes_in us))

entry_width : (h : Home) (e : Domain) (us : List Datum) → IsPlainDomain e → IsHomeOf h e us → h ≢ no_home → width_in (entry_of h e us) ≡ width_by e us
unfolding width_in width_by
entry_width no_home e us kind s n = absurd (n refl)
entry_width (tables rows) Domain.integer us kind s n = absurd s
entry_width (tables rows) Domain.long us kind s n = absurd s
entry_width (tables rows) Domain.text us kind s n = absurd s
entry_width (tables rows) Domain.bytes us kind s n = absurd s
entry_width (tables rows) (Domain.relation g) us kind s n = absurd kind
entry_width (numbers block) Domain.integer us kind s n = refl
entry_width (numbers block) Domain.long us kind s n = refl
entry_width (numbers block) Domain.text us kind s n = absurd s
entry_width (numbers block) Domain.bytes us kind s n = absurd s
entry_width (numbers block) (Domain.relation g) us kind s n = absurd kind
entry_width (strings a b c) Domain.integer us kind s n = absurd s
entry_width (strings a b c) Domain.long us kind s n = absurd s
entry_width (strings a b c) Domain.text us kind s n = refl
entry_width (strings a b c) Domain.bytes us kind s n = refl
entry_width (strings a b c) (Domain.relation g) us kind s n = absurd kind

wide : (xs : List ℤ) → HoldsAll W32 xs → HoldsAll W64 xs
wide xs h = HoldsAll-wider W32 W64 xs (omega arith) h

-- byte lists with one list of blocks, of sizes at one width
same_lists_of_bytes : (xs ys : List (List ℕ)) → All (λ v. length v ≤ max_bytes) xs → All (λ v. length v ≤ max_bytes) ys → length xs ≡ length ys → least_width (sizes_of xs) ≡ least_width (sizes_of ys)
    → ◌≡◌ {A = List (List ℕ)} (packed (sizes_of xs) ∷ short_bytes xs ∷ long_values xs) (packed (sizes_of ys) ∷ short_bytes ys ∷ long_values ys) → xs ≡ ys
same_lists_of_bytes xs ys h g long width same =
    one_list xs ys
    (same_packed (sizes_of xs) (sizes_of ys) (wide (sizes_of xs) (sizes_held xs h)) (wide (sizes_of ys) (sizes_held ys g))
    (length-map xs (λ v. pos (length v)) ∙ long ∙ sym (length-map ys (λ v. pos (length v)))) width (ap (λ bs. get_or bs 0 []) same))
    (ap (λ bs. get_or bs 1 []) same) (ap (λ bs. drop 2 bs) same)

same_values_of : (e : Domain) (us vs : List Datum) → IsPlainDomain e → All (λ d. IsOf d e) us → All (λ d. IsOf d e) vs → length us ≡ length vs → width_by e us ≡ width_by e vs → blocks_of_values e us ≡ blocks_of_values e vs → us ≡ vs
unfolding width_by
same_values_of Domain.integer us vs kind f g long width same =
    let nums = same_packed (map number_in us) (map number_in vs) (wide (map number_in us) (integers_held us f)) (wide (map number_in vs) (integers_held vs g))
    (length-map us number_in ∙ long ∙ sym (length-map vs number_in)) width (ap (λ bs. get_or bs 0 []) same) in
    sym (integers_back us f) ∙ ap (map Datum.integer) nums ∙ integers_back vs g
same_values_of Domain.long us vs kind f g long width same =
    let nums = same_packed (map number_in us) (map number_in vs) (longs_held us f) (longs_held vs g)
    (length-map us number_in ∙ long ∙ sym (length-map vs number_in)) width (ap (λ bs. get_or bs 0 []) same) in
    sym (longs_back us f) ∙ ap (map Datum.long) nums ∙ longs_back vs g
same_values_of Domain.text us vs kind f g long width same =
    let own = same_lists_of_bytes (map bytes_in us) (map bytes_in vs) (short_values Domain.text (inl refl) us f) (short_values Domain.text (inl refl) vs g)
    (length-map us bytes_in ∙ long ∙ sym (length-map vs bytes_in)) width same in
    sym (texts_back us f) ∙ ap (map Datum.text) own ∙ texts_back vs g
same_values_of Domain.bytes us vs kind f g long width same =
    let own = same_lists_of_bytes (map bytes_in us) (map bytes_in vs) (short_values Domain.bytes (inr refl) us f) (short_values Domain.bytes (inr refl) vs g)
    (length-map us bytes_in ∙ long ∙ sym (length-map vs bytes_in)) width same in
    sym (bytes_back us f) ∙ ap (map Datum.bytes) own ∙ bytes_back vs g
same_values_of (Domain.relation g) us vs kind f h long width same = absurd kind

pub same_plain : (image : List ℕ) (h k : Home) (e : Domain) (us vs : List Datum) → IsThere image (record { domain = e; values = us; home = h }) → IsThere image (record { domain = e; values = vs; home = k })
    → length us ≡ length vs → entry_of h e us ≡ entry_of k e vs → (h ≡ k) × (us ≡ vs)
same_plain image h k e us vs one other long entry =
    let kind = one.part.kind in
    let spans : blocks_of h ≡ blocks_of k =
    sym (spans_back h e us kind one.part.shaped one.homed) ∙ ap spans_in entry ∙ spans_back k e vs kind other.part.shaped other.homed in
    let homes : h ≡ k =
    sym (home_by-own h) ∙ same_form h k e us vs (blocks_of h) kind one.part.shaped other.part.shaped one.homed other.homed ∙ ap (home_by k) spans ∙ home_by-own k in
    let width = sym (entry_width h e us kind one.part.shaped one.homed) ∙ ap width_in entry ∙ entry_width k e vs kind other.part.shaped other.homed in
    let blocks : blocks_of_values e us ≡ blocks_of_values e vs =
    same_bytes_at image (blocks_of h) (blocks_of_values e us) (blocks_of_values e vs) (many_blocks h e us kind one.part.shaped one.homed)
    (ap length spans ∙ many_blocks k e vs kind other.part.shaped other.homed) one.stands
    (subst (λ ss. All (StandsAt image) (blocks_at ss (blocks_of_values e vs))) (sym spans) other.stands) in
    (homes, same_values_of e us vs kind one.part.fit other.part.fit long width blocks)
