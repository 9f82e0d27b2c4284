use Rattle.std.proofs.Common.{◌≡◌, ℤ, List, length, drop, sym, ap, subst, ◌∙◌}
use Rattle.std.proofs.lemmas.List.{take_at}
use Rattle.bit_pack.specs.Packed.{values_from, Packed}
use Rattle.bit_pack.proofs.Changes.{length-values_from}
use Rattle.bit_pack.proofs.Least.{packed_is}
use Rattle.bit_pack.proofs.packed.unpack.Goals as goal

pub returns-clause-packed : goal.returns-clause-packed
returns-clause-packed c =
    let w = c.args.width in
    let n = c.args.count in
    let bytes = c.args.bytes.now in
    let made = c.unpack_into.new.into in
    let items = c.in_ok-values.values.items in
    let room : length c.deref_mut.result.now ≡ n = c.deref_mut.ensures.len ∙ c.in_ok-values.ensures.len in
    let made_is : made ≡ values_from w bytes 0 n = c.unpack_into.ensures ∙ ap (values_from w bytes 0) room in
    let count : length made ≡ c.in_ok-values.values.len = ap length made_is ∙ length-values_from w bytes 0 n ∙ sym c.in_ok-values.ensures.len in
    let is : c.from.result ≡ values_from w bytes 0 n = c.from.ensures ∙ take_at made (drop (length made) items) c.in_ok-values.values.len count ∙ made_is in
    let P : List ℤ → Type 0 = λ vs. Packed w vs bytes in
    (subst P (sym is) c.in_ok-check.ensures.packed, ap length is ∙ length-values_from w bytes 0 n)

pub returns-clause-value : goal.returns-clause-value
returns-clause-value c = packed_is c.args.width c.from.result c.args.bytes.now (returns-clause-packed c).0
