use Rattle.sample.proofs.Counting.{all_count}
use Rattle.sample.proofs.laws.rows_are_added_and_removed.Goals as goal

pub returns : goal.returns
returns c = all_count
