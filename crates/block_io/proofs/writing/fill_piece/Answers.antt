use Rattle.std.proofs.Common.{◌≡◌, ◌∙◌, ap, sym, subst, List, ℕ, ◌++◌, drop, length, take, min, arith}
use Rattle.std.proofs.lemmas.List.{length-replicate, length-take-le}
use Rattle.block_io.specs.Pieces.{IsPiece}
use Rattle.block_io.proofs.Rounding.{piece_is}
use Rattle.block_io.proofs.writing.fill_piece.Goals as goal

pub returns : goal.returns
returns g c =
    let least : c.min-len.result ≡ min (length (g.S.Source.rest c.args.source.now)) 4096 = omega (arith, c.left.ensures, c.min-len.ensures) in
    let zeros = length-replicate {A = ℕ} 4096 0 in
    let room : length c.args.piece.now ≡ 4096 = ap length c.requires.zeros ∙ zeros in
    let reach : length (take c.min-len.result c.args.piece.now) ≡ c.min-len.result = length-take-le c.min-len.result c.args.piece.now (omega (arith, least, room)) in
    subst (λ (end : ℕ). IsPiece (c.give.new.into ++ drop c.min-len.result c.args.piece.now) end (g.S.Source.rest c.args.source.now) (g.S.Source.rest c.give.new.self)) (sym c.extent_len.ensures)
    (piece_is (g.S.Source.rest c.args.source.now) _ c.args.piece.now (g.S.Source.rest c.give.new.self) c.min-len.result c.requires.some least c.requires.zeros
    (ap (λ (l : List ℕ). l ++ drop c.min-len.result c.args.piece.now) (rw reach at c.give.ensures.bytes)) (rw reach at c.give.ensures.after))
