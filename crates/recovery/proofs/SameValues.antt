-- One width, and one list of blocks, are those of one list of values.
use Rattle.std.proofs.Common.{◌≡◌, ℕ, ℤ, List, [], ◌∷◌, length, map, All, refl, ap, sym, subst, ◌∙◌, arith}
use Rattle.std.proofs.lemmas.List.Elements.{All-head, All-tail}
use Rattle.mk_value.specs.declared.span.Span.{Span}
use Rattle.mk_value.specs.Heading.{Domain}
use Rattle.mk_value.specs.Data.{Datum, integer, long, text, bytes, relation, IsOf}
use Rattle.mk_value.specs.Tables.{number_in}
use Rattle.bit_pack.specs.declared.widths.Width.TheVariants.{W64}
use Rattle.bit_pack.specs.Width.{HoldsAll, least_width}
use Rattle.bit_pack.specs.Packed.{PackedAt, packed}
use Rattle.bit_pack.proofs.Least.{packed_is_packed}
use Rattle.bit_pack.proofs.Packing.{same_values}
use Rattle.commit_writes.specs.Blocks.{StandsAt}
use Rattle.tables.specs.Shapes.{bytes_in}
use Rattle.recovery.specs.Commits.{blocks_at}

-- numbers packed alike, at one width, are the same
pub same_packed : (xs ys : List ℤ) → HoldsAll W64 xs → HoldsAll W64 ys → length xs ≡ length ys → least_width xs ≡ least_width ys → packed xs ≡ packed ys → xs ≡ ys
same_packed xs ys h g count width same =
    let one = (packed_is_packed xs h).packed in
    let other = (packed_is_packed ys g).packed in
    same_values (least_width xs) xs ys (packed xs) one (subst (λ w. PackedAt w ys (packed xs)) (sym width) (subst (λ bs. PackedAt (least_width ys) ys bs) (sym same) other)) count

-- integers and long numbers are known by their numbers, texts and byte strings by their bytes
pub integers_back : (values : List Datum) → All (λ d. IsOf d Domain.integer) values → map Datum.integer (map number_in values) ≡ values
integers_back [] h = refl
integers_back (integer z ∷ values) h = ap (λ ds. integer z ∷ ds) (integers_back values (All-tail (λ d. IsOf d Domain.integer) (integer z) values h))
integers_back (long z ∷ values) h = absurd (All-head (λ d. IsOf d Domain.integer) (long z) values h)
integers_back (text content ∷ values) h = absurd (All-head (λ d. IsOf d Domain.integer) (text content) values h)
integers_back (bytes content ∷ values) h = absurd (All-head (λ d. IsOf d Domain.integer) (bytes content) values h)
integers_back (relation r ∷ values) h = absurd (All-head (λ d. IsOf d Domain.integer) (relation r) values h)

pub longs_back : (values : List Datum) → All (λ d. IsOf d Domain.long) values → map Datum.long (map number_in values) ≡ values
longs_back [] h = refl
longs_back (long z ∷ values) h = ap (λ ds. long z ∷ ds) (longs_back values (All-tail (λ d. IsOf d Domain.long) (long z) values h))
longs_back (integer z ∷ values) h = absurd (All-head (λ d. IsOf d Domain.long) (integer z) values h)
longs_back (text content ∷ values) h = absurd (All-head (λ d. IsOf d Domain.long) (text content) values h)
longs_back (bytes content ∷ values) h = absurd (All-head (λ d. IsOf d Domain.long) (bytes content) values h)
longs_back (relation r ∷ values) h = absurd (All-head (λ d. IsOf d Domain.long) (relation r) values h)

pub texts_back : (values : List Datum) → All (λ d. IsOf d Domain.text) values → map Datum.text (map bytes_in values) ≡ values
texts_back [] h = refl
texts_back (text content ∷ values) h = ap (λ ds. text content ∷ ds) (texts_back values (All-tail (λ d. IsOf d Domain.text) (text content) values h))
texts_back (integer z ∷ values) h = absurd (All-head (λ d. IsOf d Domain.text) (integer z) values h)
texts_back (long z ∷ values) h = absurd (All-head (λ d. IsOf d Domain.text) (long z) values h)
texts_back (bytes content ∷ values) h = absurd (All-head (λ d. IsOf d Domain.text) (bytes content) values h)
texts_back (relation r ∷ values) h = absurd (All-head (λ d. IsOf d Domain.text) (relation r) values h)

pub bytes_back : (values : List Datum) → All (λ d. IsOf d Domain.bytes) values → map Datum.bytes (map bytes_in values) ≡ values
bytes_back [] h = refl
bytes_back (bytes content ∷ values) h = ap (λ ds. bytes content ∷ ds) (bytes_back values (All-tail (λ d. IsOf d Domain.bytes) (bytes content) values h))
bytes_back (integer z ∷ values) h = absurd (All-head (λ d. IsOf d Domain.bytes) (integer z) values h)
bytes_back (long z ∷ values) h = absurd (All-head (λ d. IsOf d Domain.bytes) (long z) values h)
bytes_back (text content ∷ values) h = absurd (All-head (λ d. IsOf d Domain.bytes) (text content) values h)
bytes_back (relation r ∷ values) h = absurd (All-head (λ d. IsOf d Domain.bytes) (relation r) values h)

-- the blocks at some spans of an image have one list of bytes
pub same_bytes_at : (image : List ℕ) (spans : List Span) (xs ys : List (List ℕ)) → length spans ≡ length xs → length spans ≡ length ys
    → All (StandsAt image) (blocks_at spans xs) → All (StandsAt image) (blocks_at spans ys) → xs ≡ ys
same_bytes_at image [] [] [] p q h g = refl
same_bytes_at image [] [] (y ∷ ys) p q h g = absurd (omega (arith, q))
same_bytes_at image [] (x ∷ xs) ys p q h g = absurd (omega (arith, p))
same_bytes_at image (s ∷ spans) [] ys p q h g = absurd (omega (arith, p))
same_bytes_at image (s ∷ spans) (x ∷ xs) [] p q h g = absurd (omega (arith, q))
same_bytes_at image (s ∷ spans) (x ∷ xs) (y ∷ ys) p q h g =
    let here : x ≡ y = sym (All-head (StandsAt image) _ (blocks_at spans xs) h) ∙ All-head (StandsAt image) _ (blocks_at spans ys) g in
    let rest : xs ≡ ys = same_bytes_at image spans xs ys (omega (arith, p)) (omega (arith, q)) (All-tail (StandsAt image) _ (blocks_at spans xs) h) (All-tail (StandsAt image) _ (blocks_at spans ys) g) in
    ap (λ z. z ∷ xs) here ∙ ap (λ zs. y ∷ zs) rest
