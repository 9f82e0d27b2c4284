-- What putting a record behind a log does to the disk.
use Rattle.std.specs.Prelude.{◌≡◌, ℕ, ◌+◌, ◌≤◌, List, [], ◌∷◌, ◌++◌, length, Result, OnOk}
use Rattle.host_io.specs.Outside.{Outside, Goes}
use Rattle.host_io.specs.Ranges.{WritesWithin, bytes_in}
use Rattle.aside_disk.specs.Records.{Entry, head_bytes, record_len}
use Rattle.aside_disk.specs.Phases.{tail_range}

-- Bytes are written at a place, in one piece or in several. Until a sync a crash may tear them; nothing else is written.
pub record Lays {T E : Type 0} (place : ℕ) (bytes : List ℕ) (old new : Outside) (result : Result T E) : Type 0 where
  pub ok : OnOk result ((place + length bytes ≤ length new.now.disk.seen) × (bytes_in new.now.disk.seen (record { start = place; count = length bytes }) ≡ bytes))
  pub within : WritesWithin (tail_range place (length bytes) ∷ []) old.now.disk new.now.disk
  pub moments : Goes (λ at. (at.said ≡ old.now.said) × WritesWithin (tail_range place (length bytes) ∷ []) old.now.disk at.disk) old new
  pub said : new.now.said ≡ old.now.said
  pub input : new.input ≡ old.input

-- the record stands here
pub record StandsAt (end : ℕ) (entry : Entry) (seen : List ℕ) : Type 0 where
  pub long : end + record_len (length entry.bytes) ≤ length seen
  pub fill : List ℕ
  pub whole : 16 + (length entry.bytes + length fill) ≡ record_len (length entry.bytes)
  pub bytes : bytes_in seen (record { start = end; count = record_len (length entry.bytes) }) ≡ head_bytes entry ++ (entry.bytes ++ fill)

-- A record is written behind a log. Until a sync a crash may tear it; nothing else is written.
pub record Appends {T E : Type 0} (end : ℕ) (entry : Entry) (old new : Outside) (result : Result T E) : Type 0 where
  pub ok : OnOk result (StandsAt end entry new.now.disk.seen)
  pub within : WritesWithin (tail_range end (record_len (length entry.bytes)) ∷ []) old.now.disk new.now.disk
  pub moments : Goes (λ at. (at.said ≡ old.now.said) × WritesWithin (tail_range end (record_len (length entry.bytes)) ∷ []) old.now.disk at.disk) old new
  pub said : new.now.said ≡ old.now.said
  pub input : new.input ≡ old.input
