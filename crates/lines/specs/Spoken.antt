-- What is said of a text, and when.
use Rattle.std.specs.Prelude.{◌≡◌, ℕ, ◌<◌, ◌≤◌, List, ◌++◌, length, take, Result, OnOk, OnErr}
use Rattle.host_io.specs.Outside.{Moment, Outside, Goes}

-- a moment while these bytes are being said, and nothing else happens
pub record IsSaying (bytes : List ℕ) (old at : Moment) : Type 0 where
  pub part : ℕ
  pub within : part ≤ length bytes
  pub said : at.said ≡ old.said ++ take part bytes
  pub disk : at.disk ≡ old.disk

-- These bytes are said: all of them, or, where the output failed, a front of them that is not all.
pub record SaysAll {T E : Type 0} (bytes : List ℕ) (old new : Outside) (result : Result T E) : Type 0 where
  pub part : ℕ
  pub within : part ≤ length bytes
  pub spoke : new.now.said ≡ old.now.said ++ take part bytes
  pub ok : OnOk result (part ≡ length bytes)
  pub err : OnErr result (part < length bytes)
  pub disk : new.now.disk ≡ old.now.disk
  pub input : new.input ≡ old.input
  pub moments : Goes (IsSaying bytes old.now) old new
