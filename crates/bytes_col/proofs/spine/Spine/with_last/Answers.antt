use Rattle.std.proofs.Common.{List, ℕ, [], ◌∷◌}
use Rattle.bytes_col.proofs.Splices.{put_few, one_at_end}
use Rattle.bytes_col.proofs.spine.Spine.with_last.Goals as goal

pub with-requires-clause-few : goal.with-requires-clause-few
with-requires-clause-few c =
    let ss : List (List (List ℕ)) = c.args.self.now in
    let last : List (List ℕ) = c.args.last in
    let n : ℕ = c.count-count.result in
    rw c.in_ok-of_one.ensures
    (put_few ss (last ∷ []) n n (rw (one_at_end ss last n c.count-count.ensures) c.requires.few))
