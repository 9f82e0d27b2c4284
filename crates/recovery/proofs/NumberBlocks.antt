-- Numbers that a block has, or that none has, as a column of a directory.
use Rattle.std.proofs.Common.{◌≡◌, ℕ, ℤ, List, length, ap, sym, subst, ◌∙◌}
use Rattle.bit_pack.specs.declared.widths.Width.{Width}
use Rattle.bit_pack.specs.declared.error.PackError.{PackError}
use Rattle.bit_pack.specs.declared.error.PackError.TheVariants as pack_error
use Rattle.bit_pack.specs.Width.{IsLeastWidth}
use Rattle.bit_pack.specs.Packed.{HasPadding, Packed, packed_len, values_from}
use Rattle.bit_pack.specs.Refusal.{IsRefusal}
use Rattle.bit_pack.proofs.LeastWidth.{same_least}
use Rattle.bit_pack.proofs.Packing.{no_padding, values_from_is}
use Rattle.mk_value.specs.declared.span.Span.{Span}
use Rattle.host_io.specs.Ranges.{bytes_in}
use Rattle.commit_writes.specs.Blocks.{span_range}
use Rattle.recovery.specs.declared.error.ReadError.TheVariants.{Unreadable, Memory}
use Rattle.recovery.specs.Causes.{cause_of_packing}
use Rattle.recovery.specs.Numbers.{AreNumbersAt}

-- bytes that are refused but for want of memory are no packed numbers
refused : (w : Width) (n : ℕ) (bytes : List ℕ) (e : PackError) → IsRefusal w n bytes e → cause_of_packing e ≡ Unreadable → (values : List ℤ) → length values ≡ n → Packed w values bytes → ⊥
refused w n bytes (pack_error.Length expected given) r cause values count p = r.0 (p.packed.len ∙ ap (packed_len w) count)
refused w n bytes (pack_error.Padding place) r cause values count p = no_padding w values bytes p.packed (subst (HasPadding w bytes) (sym count) r.1)
refused w n bytes (pack_error.NotLeast given least) r cause values count p =
    let same = ap (values_from w bytes 0) (sym count) ∙ values_from_is w values bytes p.packed in
    r.2 (same_least least w values (subst (IsLeastWidth least) same r.3) p.least)
refused w n bytes pack_error.Memory r cause values count p = absurd (let e : Memory ≡ Unreadable = cause in cc)

pub no_numbers : (image bytes : List ℕ) (w : Width) (block : Span) (rows : ℕ) (e : PackError) → bytes ≡ bytes_in image (span_range block) → IsRefusal w rows bytes e → cause_of_packing e ≡ Unreadable → (values : List ℤ) → AreNumbersAt image w block rows values → ⊥
no_numbers image bytes w block rows e here r cause values at =
    refused w rows bytes e r cause values at.count (subst (Packed w values) (sym here) at.packed)
