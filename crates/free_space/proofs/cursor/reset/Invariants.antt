use Rattle.std.proofs.Common.{ℕ, ◌≡◌, ◌<◌, length, get_or, All}
use Rattle.free_space.specs.Cursors.{HasLen}
use Rattle.free_space.specs.declared.cursor.Cursor.{Cursor}
use Rattle.free_space.proofs.cursor.reset.Given as goal

abbrev pub invariant-loop-at : goal.invariant-loop-at
invariant-loop-at l = record {
  have_lens : All HasLen l.cursors;
  moved : (k : ℕ) (d : Cursor) → k < l.at → k < length l.cursors → (get_or l.cursors k d).place ≡ l.floor;
}
