use Rattle.std.proofs.Common.{◌++◌, ◌∷◌, [], get_or, replicate, length, sym, ap, ◌∙◌, arith}
use Rattle.std.proofs.lemmas.List.{append_assoc, append-nil, length-append, length-replicate, replicate_more}
use Rattle.bytes_col.proofs.chunk.Chunk.add_copies.Goals as goal

pub loop-copy-init : goal.loop-copy-init
loop-copy-init c = sym (append-nil c.args.self.now)

pub add-requires-clause-room : goal.add-requires-clause-room
add-requires-clause-room c =
    let v = get_or c.args.other.now c.args.at [] in
    omega (arith, ap length c.loop-copy.invariant, length-append c.args.self.now (replicate c.loop-copy._copy v), length-replicate c.loop-copy._copy v, c.requires.room, c.loop-copy-test.true)

pub loop-copy-preserved : goal.loop-copy-preserved
loop-copy-preserved c =
    let v = get_or c.args.other.now c.args.at [] in
    c.in_ok-add.ensures
    ∙ ap (λ z. z ++ v ∷ []) c.loop-copy.invariant
    ∙ append_assoc c.args.self.now (replicate c.loop-copy._copy v) (v ∷ [])
    ∙ ap (λ z. c.args.self.now ++ z) (replicate_more c.loop-copy._copy v)
