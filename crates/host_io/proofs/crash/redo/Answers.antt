use Rattle.std.proofs.Common.{◌≡◌, ◌+◌, ◌-◌, ℕ, List, take, drop, sym, ap, subst, ◌∙◌, arith}
use Rattle.std.proofs.lemmas.Result.{on_ok_weaker}
use Rattle.host_io.specs.Memory.{left_by, left_pending}
use Rattle.host_io.specs.Log.{IsRedone, WriteFits, disk_after, piece_bytes}
use Rattle.host_io.specs.declared.entry.Event.{Event}
use Rattle.host_io.specs.declared.entry.Event.TheVariants.{Write}
use Rattle.host_io.proofs.Crashes.{IsRedone-write}
use Rattle.host_io.proofs.crash.redo.Goals as goal

pub returns-in_ok-leave-in-Write : goal.returns-in_ok-leave-in-Write
returns-in_ok-leave-in-Write c = λ disk redone fit.
    let all = c.args.all.now in
    let piece = c.in-Write.piece in
    let choice = c.args.choice in
    let fits : WriteFits all disk (Write piece) = rw c.in-Write.is at fit in
    let step = IsRedone-write choice disk all piece c.args.seen.now.items c.args.image.now.items redone fits in
    let count : piece.from + piece.count - piece.from ≡ piece.count = omega arith in
    let bytes = ap (λ (n : ℕ). take n (drop piece.from all)) count in
    let seen_is : c.leave.new.file.items ≡ left_by piece.left piece.at (piece_bytes all piece) c.args.seen.now.items =
    c.in_ok-leave-in-Write.ensures.ok ∙ ap (λ (l : List ℕ). left_by piece.left piece.at l c.args.seen.now.items) bytes in
    on_ok_weaker c.leave_pending.result
    (λ image_is.
    let image : c.leave_pending.new.image.items ≡ left_pending choice piece.left piece.at (piece_bytes all piece) c.args.image.now.items =
    image_is ∙ ap (λ (l : List ℕ). left_pending choice piece.left piece.at l c.args.image.now.items) bytes in
    subst (λ (e : Event). IsRedone choice (disk_after all e disk) c.leave.new.file.items c.leave_pending.new.image.items) (sym c.in-Write.is) (rw (seen_is, image) step))
    c.leave_pending.ensures
