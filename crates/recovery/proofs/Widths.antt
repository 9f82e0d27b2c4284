-- The widths and lengths of packed columns.
use Rattle.std.proofs.Common.{◌≡◌, ℕ, ◌≤◌, ℤ, pos, negsuc, List, [], ◌∷◌, length, map, All, arith}
use Rattle.std.specs.Prelude.{FitsSigned}
use Rattle.std.specs.Int.{w32, w64}
use Rattle.std.proofs.lemmas.Int.{ints}
use Rattle.std.proofs.lemmas.List.Elements.{All-head, All-tail, All-cons, All-nil}
use Rattle.mk_value.specs.Limits.{max_bytes}
use Rattle.mk_value.specs.Heading.{Domain}
use Rattle.mk_value.specs.Data.{Datum, integer, long, text, bytes, relation, IsOf}
use Rattle.mk_value.specs.Tables.{number_in}
use Rattle.bit_pack.specs.declared.widths.Width.{Width}
use Rattle.bit_pack.specs.declared.widths.Width.TheVariants.{W0, W32, W64}
use Rattle.bit_pack.specs.Width.{bit_count, Holds, HoldsAll, least_width}
use Rattle.bit_pack.specs.Packed.{packed, packed_len}
use Rattle.bit_pack.proofs.Least.{least_width_is_least, packed_is_packed}
use Rattle.bit_pack.proofs.LeastWidth.{HoldsAll-wider}
use Rattle.bytes_col.specs.Strings.{sizes_of}

-- numbers of 32 and of 64 bits, and sizes, each at a width that holds them
held_32 : (z : ℤ) → FitsSigned w32 z → Holds W32 z
held_32 (pos n) f = let g = f.sfits in record { low = omega (arith, ints, g); high = omega (arith, ints, g) }
held_32 (negsuc n) f = let g = f.sfits in record { low = omega (arith, ints, g); high = omega (arith, ints, g) }

held_64 : (z : ℤ) → FitsSigned w64 z → Holds W64 z
held_64 (pos n) f = let g = f.sfits in record { low = omega (arith, ints, g); high = omega (arith, ints, g) }
held_64 (negsuc n) f = let g = f.sfits in record { low = omega (arith, ints, g); high = omega (arith, ints, g) }

held_size : (n : ℕ) → n ≤ max_bytes → Holds W32 (pos n)
held_size n p = record { low = omega (arith, ints, p); high = omega (arith, ints, p) }

pub integers_held : (values : List Datum) → All (λ d. IsOf d Domain.integer) values → HoldsAll W32 (map number_in values)
integers_held [] h = record { each = All-nil (Holds W32) }
integers_held (integer z ∷ values) h =
    record { each = All-cons (Holds W32) z (map number_in values) (held_32 z (All-head (λ d. IsOf d Domain.integer) (integer z) values h)) (integers_held values (All-tail (λ d. IsOf d Domain.integer) (integer z) values h)).each }
integers_held (long z ∷ values) h = absurd (All-head (λ d. IsOf d Domain.integer) (long z) values h)
integers_held (text content ∷ values) h = absurd (All-head (λ d. IsOf d Domain.integer) (text content) values h)
integers_held (bytes content ∷ values) h = absurd (All-head (λ d. IsOf d Domain.integer) (bytes content) values h)
integers_held (relation r ∷ values) h = absurd (All-head (λ d. IsOf d Domain.integer) (relation r) values h)

pub longs_held : (values : List Datum) → All (λ d. IsOf d Domain.long) values → HoldsAll W64 (map number_in values)
longs_held [] h = record { each = All-nil (Holds W64) }
longs_held (long z ∷ values) h =
    record { each = All-cons (Holds W64) z (map number_in values) (held_64 z (All-head (λ d. IsOf d Domain.long) (long z) values h)) (longs_held values (All-tail (λ d. IsOf d Domain.long) (long z) values h)).each }
longs_held (integer z ∷ values) h = absurd (All-head (λ d. IsOf d Domain.long) (integer z) values h)
longs_held (text content ∷ values) h = absurd (All-head (λ d. IsOf d Domain.long) (text content) values h)
longs_held (bytes content ∷ values) h = absurd (All-head (λ d. IsOf d Domain.long) (bytes content) values h)
longs_held (relation r ∷ values) h = absurd (All-head (λ d. IsOf d Domain.long) (relation r) values h)

pub sizes_held : (values : List (List ℕ)) → All (λ v. length v ≤ max_bytes) values → HoldsAll W32 (sizes_of values)
sizes_held [] h = record { each = All-nil (Holds W32) }
sizes_held (v ∷ values) h =
    record { each = All-cons (Holds W32) (pos (length v)) (sizes_of values) (held_size (length v) (All-head (λ v. length v ≤ max_bytes) v values h)) (sizes_held values (All-tail (λ v. length v ≤ max_bytes) v values h)).each }

-- the least width is at most any that holds the values, and the packed bytes are as many as it takes
pub least_at_most : (w : Width) (values : List ℤ) → HoldsAll w values → bit_count (least_width values) ≤ bit_count w
least_at_most w values h = (least_width_is_least values (HoldsAll-wider w W64 values (widest w) h)).least w h
  where
    widest : (w : Width) → bit_count w ≤ bit_count W64
    widest W0 = omega arith
    widest w = omega arith

pub packed_long : (values : List ℤ) → HoldsAll W64 values → length (packed values) ≡ packed_len (least_width values) (length values)
packed_long values h = (packed_is_packed values h).packed.len
