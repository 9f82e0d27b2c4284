-- Whether a value may be one of a property that is no view.
use Rattle.std.specs.Prelude.{ℕ, ◌^◌, ℤ, pos, negsuc, Bool, true, false, not, ◌&&◌, ◌==◌, nat_lt, nat_le, length}
use Rattle.std.specs.List.{list_all}
use Rattle.std.specs.Str.{is_utf8}
use Rattle.mk_value.specs.Limits.{max_bytes}
use Rattle.mk_value.specs.Heading.{Domain}
use Rattle.mk_value.specs.Data.{Datum, integer, long, text, bytes}

-- the values of the property are views
abbrev pub is_view : Domain → Bool
is_view (Domain.relation h) = true
is_view _ = false

-- a number from -limit to limit - 1
abbrev pub is_below : ℕ → ℤ → Bool
is_below limit (pos n) = nat_lt n limit
is_below limit (negsuc n) = nat_lt n limit

-- numbers within their width, texts without a zero byte and byte strings within their length
abbrev pub fits : Domain → Datum → Bool
fits Domain.integer (integer z) = is_below (2 ^ 31) z
fits Domain.long (long z) = is_below (2 ^ 63) z
fits Domain.text (text content) = is_utf8 content && list_all (λ b. not (b == 0)) content && nat_le (length content) max_bytes
fits Domain.bytes (bytes content) = nat_le (length content) max_bytes
fits _ _ = false
