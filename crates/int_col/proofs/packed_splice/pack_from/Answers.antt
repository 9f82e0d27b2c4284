use Rattle.std.proofs.Common.{◌-◌, ◌++◌, ◌∙◌, ap, arith, length, take, drop}
use Rattle.std.proofs.lemmas.List.{append-nil, drop_all, length-drop}
use Rattle.bit_pack.proofs.Parts.{packing_is}
use Rattle.int_col.proofs.packed_splice.pack_from.Goals as goal

pub returns : goal.returns
returns c =
    let old = c.args.into.now in
    let start = c.args.start in
    let none = drop_all (length old - start) (drop start old) (omega (arith, length-drop start old)) in
    ap (λ xs. take start old ++ (c.pack_into.new.into ++ xs)) none
    ∙ ap (λ xs. take start old ++ xs) (append-nil c.pack_into.new.into ∙ packing_is c.args.width c.args.values.now c.pack_into.new.into c.pack_into.ensures)
