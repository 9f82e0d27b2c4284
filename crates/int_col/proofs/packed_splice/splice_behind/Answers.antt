use Rattle.std.proofs.Common.{FitsSigned, w64, rules, ℕ, List, ℤ, arith, sym, subst}
use Rattle.std.proofs.lemmas.Int.{to_z-of_z}
use Rattle.std.proofs.lemmas.List.Elements.{All-drop}
use Rattle.bit_pack.specs.Width.{Holds, HoldsAll}
use Rattle.bit_pack.specs.Packed.{PackedAt, values_from}
use Rattle.bit_pack.proofs.Changes.{length-values_from}
use Rattle.segments.specs.Splices.{spliced}
use Rattle.int_col.proofs.PackedSplices.{front_there, packed_behind, spliced_before}
use Rattle.int_col.proofs.packed_splice.splice_behind.Goals as goal

pub pack_behind-requires-clause-there : goal.pack_behind-requires-clause-there
pack_behind-requires-clause-there c =
    let vs : List ℤ = values_from c.args.width c.args.bytes.now.items 0 c.args.count in
    front_there c.args.width vs c.args.bytes.now.items c.args.from c.requires.packed
    (omega (arith, length-values_from c.args.width c.args.bytes.now.items 0 c.args.count, c.requires.from, c.requires.order, c.requires.within))

pub pack_behind-requires-clause-held : goal.pack_behind-requires-clause-held
pack_behind-requires-clause-held c =
    let e = c.args.splice.now in
    let vs : List ℤ = values_from c.args.width c.args.bytes.now.items 0 c.args.count in
    let us : List ℤ = spliced vs e.at e.end e.count c.args.value in
    let fits : FitsSigned w64 c.args.value = search rules in
    let read = rw (c.deref.ensures.value, to_z-of_z w64 c.args.value fits) at c.unpack_around.ensures in
    let H : List ℤ → Type 0 = λ xs. HoldsAll c.args.width xs in
    subst H (sym read) (record { each = All-drop (Holds c.args.width) c.args.from us c.requires.held.each })

pub returns : goal.returns
returns c =
    let e = c.args.splice.now in
    let vs : List ℤ = values_from c.args.width c.args.bytes.now.items 0 c.args.count in
    let us : List ℤ = spliced vs e.at e.end e.count c.args.value in
    let len = length-values_from c.args.width c.args.bytes.now.items 0 c.args.count in
    let fits : FitsSigned w64 c.args.value = search rules in
    let read = rw (c.deref.ensures.value, to_z-of_z w64 c.args.value fits) at c.unpack_around.ensures in
    let P : List ℕ → Type 0 = λ bs. PackedAt c.args.width us bs in
    subst P (sym c.pack_behind.ensures)
    (packed_behind c.args.width vs us c.unpack_around.new.into c.args.bytes.now.items c.args.from c.requires.packed c.requires.edge
    (omega (arith, len, c.requires.from, c.requires.order, c.requires.within)) c.requires.held
    (spliced_before vs c.args.from e.at e.end e.count c.args.value c.requires.from (omega (arith, len, c.requires.order, c.requires.within))) read)
