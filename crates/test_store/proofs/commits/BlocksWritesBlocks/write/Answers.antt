use Rattle.std.proofs.Common.{ℕ, List, [], ◌∷◌, length, refl}
use Rattle.std.proofs.lemmas.List.Elements.{All-nil}
use Rattle.std.proofs.lemmas.Result.{err_from_is_err_and}
use Rattle.free_space.specs.Extents.{Meets}
use Rattle.block_io.specs.Parts.{rounded}
use Rattle.block_io.proofs.Rounding.{length-rounded, take-rounded}
use Rattle.commit_writes.specs.Blocks.{Block}
use Rattle.commit_writes.proofs.Writers.{IsRounded, next_within, puts_failed, puts_more, puts_none, writable_next}
use Rattle.test_store.proofs.commits.BlocksWritesBlocks.write.Goals as goal

abbrev block_at : ℕ → List ℕ → Block
block_at place bytes = record { span = record { place = place; len = length bytes }; bytes = bytes }

rounds : (place : ℕ) (bytes : List ℕ) → IsRounded (block_at place bytes) (rounded bytes)
rounds place bytes = record { is = refl; own = take-rounded bytes; long = length-rounded bytes }

pub write_block-requires-clause-ends : goal.write_block-requires-clause-ends
write_block-requires-clause-ends g c =
    (writable_next [] (block_at 192 c.args.self.now.column.now) (block_at 352 c.args.self.now.directory.now ∷ []) c.requires.writable).0.end_fits

pub write_block-requires-2-clause-ends : goal.write_block-requires-2-clause-ends
write_block-requires-2-clause-ends g c =
    (writable_next (block_at 192 c.args.self.now.column.now ∷ []) (block_at 352 c.args.self.now.directory.now) [] c.requires.writable).0.end_fits

pub returns-in_err-write_block-clause-writes : goal.returns-in_err-write_block-clause-writes
returns-in_err-write_block-clause-writes g c = λ tells.
    let p = err_from_is_err_and c.from_residual.result c.from_residual.ensures.1 in
    let one = block_at 192 c.args.self.now.column.now in
    let two = block_at 352 c.args.self.now.directory.now in
    let put = puts_more {T = Unit {0}} {x = tt} [] one (rounded c.args.self.now.column.now) (rounds 192 c.args.self.now.column.now) (All-nil (λ o. ¬ Meets o.span one.span)) (c.requires.begins tells).0 (puts_none (g.D.Disk.outside c.args.disk.now)) (c.in_err-write_block.ensures.writes tells) in
    rw p.1 (puts_failed (one ∷ []) (two ∷ []) put)

pub write_block-requires-2-clause-within : goal.write_block-requires-2-clause-within
write_block-requires-2-clause-within g c = λ tells.
    let one = block_at 192 c.args.self.now.column.now in
    let two = block_at 352 c.args.self.now.directory.now in
    let put = puts_more {T = Unit {0}} {x = tt} [] one (rounded c.args.self.now.column.now) (rounds 192 c.args.self.now.column.now) (All-nil (λ o. ¬ Meets o.span one.span)) (c.requires.begins tells).0 (puts_none (g.D.Disk.outside c.args.disk.now)) (c.in_ok-write_block.ensures.writes tells) in
    next_within (one ∷ []) two [] (c.requires.begins tells) put

pub returns-clause-writes : goal.returns-clause-writes
returns-clause-writes g c = λ tells.
    let one = block_at 192 c.args.self.now.column.now in
    let two = block_at 352 c.args.self.now.directory.now in
    let put = puts_more {T = Unit {0}} {x = tt} [] one (rounded c.args.self.now.column.now) (rounds 192 c.args.self.now.column.now) (All-nil (λ o. ¬ Meets o.span one.span)) (c.requires.begins tells).0 (puts_none (g.D.Disk.outside c.args.disk.now)) (c.in_ok-write_block.ensures.writes tells) in
    puts_more (one ∷ []) two (rounded c.args.self.now.directory.now) (rounds 352 c.args.self.now.directory.now) (writable_next (one ∷ []) two [] c.requires.writable).1
    (next_within (one ∷ []) two [] (c.requires.begins tells) put) put (c.write_block-2.ensures.writes tells)
