-- Blocks that go into six bytes: the place divided by 16 in two halves of 16 bits, and the length in 16 bits.
use Rattle.std.specs.Prelude.{◌≡◌, ℕ, ◌+◌, ◌*◌, ◌/◌, ◌%◌, ◌^◌, ◌<◌}
use Rattle.std.proofs.Common.{arith, ap, ◌∙◌}
use Rattle.mk_value.specs.declared.span.Span.{Span}
use Rattle.free_space.specs.Extents.{IsAligned}
use Rattle.tables.specs.declared.block.Block.TheInside.{Inside}

-- a block at a multiple of 16 below 2^36, of less than 2^16 bytes
pub record IsCompact (span : Span) : Type 0 where
  pub aligned : IsAligned span.place
  pub near : span.place < 2 ^ 36
  pub short : span.len < 2 ^ 16

-- the span that the six bytes stand for
abbrev pub span_of : Inside → Span
span_of b = record { place = 16 * (b.low + 65536 * b.high); len = b.bytes }

-- the lower half has 16 bits
abbrev pub IsInRange : Inside → Type 0
IsInRange b = b.low < 65536

-- the six bytes of a span
abbrev pub inside_of : Span → Inside
inside_of span = record { low = span.place / 16 % 65536; high = span.place / 16 / 65536; bytes = span.len }

low_again : (low high : ℕ) → low < 65536 → 16 * (low + 65536 * high) / 16 % 65536 ≡ low
low_again low high few = omega arith

high_again : (low high : ℕ) → low < 65536 → 16 * (low + 65536 * high) / 16 / 65536 ≡ high
high_again low high few = omega arith

-- a span tells its six bytes
pub inside_again : (b : Inside) → IsInRange b → inside_of (span_of b) ≡ b
inside_again b few =
    ap (λ low. record { low = low; high = 16 * (b.low + 65536 * b.high) / 16 / 65536; bytes = b.bytes }) (low_again b.low b.high few)
    ∙ ap (λ high. record { low = b.low; high = high; bytes = b.bytes }) (high_again b.low b.high few)
