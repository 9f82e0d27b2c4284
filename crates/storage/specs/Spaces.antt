-- What a store's commit takes up of its file.
use Rattle.commit_plan.specs.Following.{commit_spans}
use Rattle.commit_plan.specs.Usage.{block_count, extents_sum, held}
use Rattle.std.specs.Prelude.{◌≡◌, ℕ, List, length}
use Rattle.recovery.specs.Commits.{Commit}
use Rattle.recovery.specs.Standing.{StandsFor}
use Rattle.storage.specs.declared.space.Report.{Report}
use Rattle.storage.specs.declared.space.Space.{Space}

abbrev pub space_of : Commit → Space
space_of c = record { number = c.number; end = c.end; used = held (extents_sum (commit_spans c)) }

abbrev pub report_of : Commit → Report
report_of c = record { space = space_of c; views = length c.views; blocks = held (block_count (commit_spans c)) }

-- the image stands for a commit, and this is what it has
abbrev pub Reports : List ℕ → Report → Type 0
Reports image report = (c : Commit) × StandsFor image c × (report ≡ report_of c)
