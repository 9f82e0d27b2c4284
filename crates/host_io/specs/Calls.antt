-- What one call may do to the outside.
use Rattle.std.specs.Prelude.{◌≡◌, ℕ, ◌+◌, ◌-◌, ◌^◌, ◌<◌, ◌≤◌, List, [], ◌∷◌, ◌++◌, length, take, drop, max, ◌⊎◌, Result, IsErr, IfOk, OnOk, OnErr}
use Rattle.host_io.specs.Disk.{settled}
use Rattle.host_io.specs.Outside.{Outside}

-- a count of faults rose, or it stands at its type's end, where it cannot rise
abbrev pub Rose : ℕ → ℕ → Type 0
Rose before now = (before < now) ⊎ (now ≡ 2 ^ 64 - 1)

-- a count never falls, and a call fails only where it rose
pub record Counts {T E : Type 0} (before now : ℕ) (result : Result T E) : Type 0 where
  pub later : before ≤ now
  pub cause : IsErr result → Rose before now

-- The disk's faults are counted, those of input and output stay, and so does what the outside stands over.
pub record CountsDisk {T E : Type 0} (old new : Outside) (result : Result T E) : Type 0 where
  pub disk : Counts old.disk_faults new.disk_faults result
  pub takes : new.take_faults ≡ old.take_faults
  pub says : new.say_faults ≡ old.say_faults
  pub source : new.source ≡ old.source

-- The same of a call that may be refused for other reasons too: the disk's faults rose where it failed by one of them.
pub record CountsFaults (failed : Type 0) (old new : Outside) : Type 0 where
  pub later : old.disk_faults ≤ new.disk_faults
  pub cause : failed → Rose old.disk_faults new.disk_faults
  pub takes : new.take_faults ≡ old.take_faults
  pub says : new.say_faults ≡ old.say_faults
  pub source : new.source ≡ old.source

pub record CountsTake {T E : Type 0} (old new : Outside) (result : Result T E) : Type 0 where
  pub takes : Counts old.take_faults new.take_faults result
  pub disk : new.disk_faults ≡ old.disk_faults
  pub says : new.say_faults ≡ old.say_faults
  pub source : new.source ≡ old.source

pub record CountsSay {T E : Type 0} (old new : Outside) (result : Result T E) : Type 0 where
  pub says : Counts old.say_faults new.say_faults result
  pub disk : new.disk_faults ≡ old.disk_faults
  pub takes : new.take_faults ≡ old.take_faults
  pub source : new.source ≡ old.source

-- no moment passes: the bytes of the disk, what a crash may leave of them and what was said stay
pub record StandsStill (old new : Outside) : Type 0 where
  pub now : new.now ≡ old.now
  pub past : new.past ≡ old.past

-- a call that changes nothing but the counts
pub record Looks (old new : Outside) : Type 0 where
  pub still : StandsStill old new
  pub input : new.input ≡ old.input

-- the bytes of a file after these are put at a place within its length or at its end
abbrev pub put_bytes : List ℕ → ℕ → List ℕ → List ℕ
put_bytes file place bytes = take place file ++ bytes ++ drop (place + length bytes) file

-- a file after a write of n bytes that was cut short: any bytes in the range and past the old end, the same elsewhere
pub record IsTorn (place n : ℕ) (old new : List ℕ) : Type 0 where
  pub before : take place new ≡ take place old
  pub after : drop (place + n) new ≡ drop (place + n) old
  pub no_shorter : length old ≤ length new
  pub no_longer : length new ≤ max (length old) (place + n)

-- A write of n bytes began, so a moment came: its range is pending until the next sync.
pub record WritesAt (place n : ℕ) (old new : Outside) : Type 0 where
  pub synced : new.now.disk.synced ≡ old.now.disk.synced
  pub pending : new.now.disk.pending ≡ (record { start = place; count = n }) ∷ old.now.disk.pending
  pub longest : new.now.disk.longest ≡ max old.now.disk.longest (place + n)
  pub said : new.now.said ≡ old.now.said
  pub past : new.past ≡ old.now ∷ old.past

-- A write. One that fails was cut short, or it was refused before it began.
pub record Writes {T E : Type 0} (place : ℕ) (bytes : List ℕ) (old new : Outside) (result : Result T E) : Type 0 where
  pub ok : OnOk result ((new.now.disk.seen ≡ put_bytes old.now.disk.seen place bytes) × WritesAt place (length bytes) old new)
  pub err : OnErr result ((IsTorn place (length bytes) old.now.disk.seen new.now.disk.seen × WritesAt place (length bytes) old new) ⊎ StandsStill old new)
  pub input : new.input ≡ old.input

-- A sync. One that fails leaves all that was pending.
pub record Syncs {T E : Type 0} (old new : Outside) (result : Result T E) : Type 0 where
  pub ok : OnOk result ((new.now.disk ≡ settled old.now.disk.seen) × (new.now.said ≡ old.now.said) × (new.past ≡ old.now ∷ old.past))
  pub err : OnErr result (StandsStill old new)
  pub input : new.input ≡ old.input

-- Bytes come to the front of a piece; what is behind them there may be anything.
pub record Takes {E : Type 0} (room : ℕ) (piece : List ℕ) (old new : Outside) (result : Result ℕ E) : Type 0 where
  pub came : IfOk result (λ n. old.input ≡ take n piece ++ new.input)
  -- none into a piece with room is the end of the input
  pub end : IfOk result (λ n. n ≡ 0 → 0 < room → old.input ≡ [])
  pub err : OnErr result (new.input ≡ old.input)
  pub still : StandsStill old new

-- The front of a piece is said.
pub record Says {E : Type 0} (piece : List ℕ) (old new : Outside) (result : Result ℕ E) : Type 0 where
  pub ok : IfOk result (λ n. (new.now.said ≡ old.now.said ++ take n piece) × (new.now.disk ≡ old.now.disk) × (new.past ≡ old.now ∷ old.past))
  pub err : OnErr result (StandsStill old new)
  pub input : new.input ≡ old.input
