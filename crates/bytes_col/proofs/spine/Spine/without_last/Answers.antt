use Rattle.std.proofs.Common.{◌-◌, ◌≤◌, List, ℕ, [], length, arith}
use Rattle.segments.specs.Joined.{joined}
use Rattle.segments.proofs.Joined.{part_within}
use Rattle.bytes_col.specs.Growing.{front}
use Rattle.bytes_col.proofs.Splices.{put_few, none_at_last}
use Rattle.bytes_col.proofs.spine.Spine.without_last.Goals as goal

pub with-requires-clause-few : goal.with-requires-clause-few
with-requires-clause-few c =
    let ss : List (List (List ℕ)) = c.args.self.now in
    let n : ℕ = c.count-count.result in
    let few : length (joined (front ss)) ≤ 16777216 = omega (arith, part_within (length ss - 1) ss, c.len-few.ensures.few, c.len-few.ensures.len) in
    rw c.new.ensures (put_few ss [] (n - 1) n (rw (none_at_last ss n c.count-count.ensures) few))
