use Rattle.std.proofs.Common.{◌≡◌, length, drop, ◌∙◌, arith}
use Rattle.std.proofs.lemmas.List.{take_at}
use Rattle.bit_pack.proofs.Least.{packed_is}
use Rattle.bit_pack.proofs.packed.pack.Goals as goal

pub returns-clause-value : goal.returns-clause-value
returns-clause-value c =
    let made = c.pack_into.new.into in
    let items = c.in_ok-bytes.bytes.items in
    let count : length made ≡ c.in_ok-bytes.bytes.len = omega (arith, c.pack_into.ensures.len, c.in_ok-bytes.ensures.len, c.packed_len.ensures) in
    let is : c.from.result ≡ made = c.from.ensures ∙ take_at made (drop (length made) items) c.in_ok-bytes.bytes.len count in
    is ∙ packed_is c.args.width c.args.values.now made (record { packed = c.pack_into.ensures; least = c.requires })
