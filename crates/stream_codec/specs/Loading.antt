-- A stream under way: what came, and what is due behind it.
use Rattle.std.specs.Prelude.{◌≡◌, ℕ, ◌+◌, ◌≤◌, List, ◌++◌, length, take, drop}
use Rattle.stream_codec.specs.Fields.{all_due, Due}
use Rattle.stream_codec.specs.Stages.{due_in, IsLoading, spelled_in}
use Rattle.stream_codec.specs.Steps.{Leads, MayWait}
use Rattle.stream_codec.specs.declared.progress.Progress.{Progress}

-- what is due, and how what came is spelled
abbrev pub due_after : Progress → List Due
due_after p = due_in p.root p.stage

abbrev pub came : Progress → List ℕ
came p = spelled_in p.root p.stage

-- from one to another over these bytes
pub record Reaches (old : Progress) (bytes : List ℕ) (new : Progress) : Type 0 where
  pub leads : Leads (due_after old) bytes (due_after new)
  pub spells : came new ≡ came old ++ bytes
  pub whole : IsLoading new.root new.stage
  pub place : new.place ≡ old.place + length bytes

-- over the whole fields at the front of a piece; those behind them may wait
pub record ReachesAlong (old : Progress) (piece : List ℕ) (new : Progress) (count : ℕ) : Type 0 where
  pub within : count ≤ length piece
  pub reaches : Reaches old (take count piece) new
  pub waits : MayWait (due_after new) (drop count piece)

-- the fields that came are as required, and lead here
pub record IsOnWay (p : Progress) : Type 0 where
  pub whole : IsLoading p.root p.stage
  pub leads : Leads all_due (came p) (due_after p)
  pub place : p.place ≡ length (came p)

-- what is kept of a stream under way: the bytes that wait do not make the next field whole
pub record IsUnderWay (p : Progress) (waiting : List ℕ) : Type 0 where
  pub on_way : IsOnWay p
  pub waits : MayWait (due_after p) waiting
