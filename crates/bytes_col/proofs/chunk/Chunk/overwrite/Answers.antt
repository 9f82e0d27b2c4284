use Rattle.std.proofs.Common.{◌<◌, length, arith}
use Rattle.std.proofs.lemmas.List.{length-map}
use Rattle.bytes_col.specs.Chunk.{cell_value}
use Rattle.bytes_col.proofs.CellLaws.{piece_over, memo_over}
use Rattle.bytes_col.proofs.chunk.Chunk.overwrite.Goals as goal

pub invariant_of-self : goal.invariant_of-self
invariant_of-self c =
    (let within : c.args.at < length c.self.inside.cells.items = omega (arith, rw (← c.self.view_is) at c.requires, length-map c.self.inside.cells.items (cell_value c.self.inside.bytes.items)) in
    piece_over c.overwrite_piece.result c.self.inside.cells.items c.self.inside.bytes.items c.overwrite_piece.new.bytes.items c.self.inside.short c.args.at c.index_mut.result.now c.in-Short.piece c.args.value.now
    c.self.invariant within c.in-Short.is c.index_mut.ensures.value c.overwrite_piece.ensures.done c.overwrite_piece.ensures.size c.overwrite_piece.ensures.not_done).chunk

pub invariant_of-self-in-Memo : goal.invariant_of-self-in-Memo
invariant_of-self-in-Memo c =
    (let within : c.args.at < length c.self.inside.cells.items = omega (arith, rw (← c.self.view_is) at c.requires, length-map c.self.inside.cells.items (cell_value c.self.inside.bytes.items)) in
    memo_over c.overwrite.result c.self.inside.cells.items c.self.inside.bytes.items c.self.inside.short c.args.at c.index_mut.result.now c.in-Memo.memo c.overwrite.new.self c.args.value.now
    c.self.invariant within c.in-Memo.is c.index_mut.ensures.value c.overwrite.ensures.done c.overwrite.ensures.size c.overwrite.ensures.not_done).chunk

pub returns-in-Short-clause-done : goal.returns-in-Short-clause-done
returns-in-Short-clause-done c =
    rw (← c.self.view_is)
    (let within : c.args.at < length c.self.inside.cells.items = omega (arith, rw (← c.self.view_is) at c.requires, length-map c.self.inside.cells.items (cell_value c.self.inside.bytes.items)) in
    piece_over c.overwrite_piece.result c.self.inside.cells.items c.self.inside.bytes.items c.overwrite_piece.new.bytes.items c.self.inside.short c.args.at c.index_mut.result.now c.in-Short.piece c.args.value.now
    c.self.invariant within c.in-Short.is c.index_mut.ensures.value c.overwrite_piece.ensures.done c.overwrite_piece.ensures.size c.overwrite_piece.ensures.not_done).values

pub returns-in-Short-clause-size : goal.returns-in-Short-clause-size
returns-in-Short-clause-size c =
    rw (← c.self.view_is)
    (let within : c.args.at < length c.self.inside.cells.items = omega (arith, rw (← c.self.view_is) at c.requires, length-map c.self.inside.cells.items (cell_value c.self.inside.bytes.items)) in
    piece_over c.overwrite_piece.result c.self.inside.cells.items c.self.inside.bytes.items c.overwrite_piece.new.bytes.items c.self.inside.short c.args.at c.index_mut.result.now c.in-Short.piece c.args.value.now
    c.self.invariant within c.in-Short.is c.index_mut.ensures.value c.overwrite_piece.ensures.done c.overwrite_piece.ensures.size c.overwrite_piece.ensures.not_done).size

pub returns-in-Short-clause-not_done : goal.returns-in-Short-clause-not_done
returns-in-Short-clause-not_done c =
    rw (← c.self.view_is)
    (let within : c.args.at < length c.self.inside.cells.items = omega (arith, rw (← c.self.view_is) at c.requires, length-map c.self.inside.cells.items (cell_value c.self.inside.bytes.items)) in
    piece_over c.overwrite_piece.result c.self.inside.cells.items c.self.inside.bytes.items c.overwrite_piece.new.bytes.items c.self.inside.short c.args.at c.index_mut.result.now c.in-Short.piece c.args.value.now
    c.self.invariant within c.in-Short.is c.index_mut.ensures.value c.overwrite_piece.ensures.done c.overwrite_piece.ensures.size c.overwrite_piece.ensures.not_done).stays

pub returns-in-Memo-clause-done : goal.returns-in-Memo-clause-done
returns-in-Memo-clause-done c =
    rw (← c.self.view_is)
    (let within : c.args.at < length c.self.inside.cells.items = omega (arith, rw (← c.self.view_is) at c.requires, length-map c.self.inside.cells.items (cell_value c.self.inside.bytes.items)) in
    memo_over c.overwrite.result c.self.inside.cells.items c.self.inside.bytes.items c.self.inside.short c.args.at c.index_mut.result.now c.in-Memo.memo c.overwrite.new.self c.args.value.now
    c.self.invariant within c.in-Memo.is c.index_mut.ensures.value c.overwrite.ensures.done c.overwrite.ensures.size c.overwrite.ensures.not_done).values

pub returns-in-Memo-clause-size : goal.returns-in-Memo-clause-size
returns-in-Memo-clause-size c =
    rw (← c.self.view_is)
    (let within : c.args.at < length c.self.inside.cells.items = omega (arith, rw (← c.self.view_is) at c.requires, length-map c.self.inside.cells.items (cell_value c.self.inside.bytes.items)) in
    memo_over c.overwrite.result c.self.inside.cells.items c.self.inside.bytes.items c.self.inside.short c.args.at c.index_mut.result.now c.in-Memo.memo c.overwrite.new.self c.args.value.now
    c.self.invariant within c.in-Memo.is c.index_mut.ensures.value c.overwrite.ensures.done c.overwrite.ensures.size c.overwrite.ensures.not_done).size

pub returns-in-Memo-clause-not_done : goal.returns-in-Memo-clause-not_done
returns-in-Memo-clause-not_done c =
    rw (← c.self.view_is)
    (let within : c.args.at < length c.self.inside.cells.items = omega (arith, rw (← c.self.view_is) at c.requires, length-map c.self.inside.cells.items (cell_value c.self.inside.bytes.items)) in
    memo_over c.overwrite.result c.self.inside.cells.items c.self.inside.bytes.items c.self.inside.short c.args.at c.index_mut.result.now c.in-Memo.memo c.overwrite.new.self c.args.value.now
    c.self.invariant within c.in-Memo.is c.index_mut.ensures.value c.overwrite.ensures.done c.overwrite.ensures.size c.overwrite.ensures.not_done).stays
