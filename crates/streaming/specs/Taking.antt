-- What comes of an input that is taken as a stream.
use Rattle.std.specs.Prelude.{◌≡◌, ℕ, ◌+◌, ◌-◌, ◌<◌, ◌≤◌, ◌⊎◌, List, [], ◌∷◌, ◌++◌, length, Result, Ok, Err, All as Each}
use Rattle.host_io.specs.Calls.{StandsStill}
use Rattle.host_io.specs.Outside.{Outside}
use Rattle.stream_codec.specs.Fields.{IsCutOffAt, IsWrongAt, MayGoOn}
use Rattle.stream_codec.specs.Stream.{IsStream}
use Rattle.tables.specs.Tables.{HasNoHomes}
use Rattle.view_store.specs.Views.{NamedTable}
use Rattle.streaming.specs.declared.taking.Taken.{Taken}
use Rattle.streaming.specs.declared.taking.Taken.TheVariants.{More, All}
use Rattle.streaming.specs.declared.error.LoadFault.{LoadFault}
use Rattle.streaming.specs.declared.error.LoadFault.TheVariants.{BadStream, TooMuch, TakeFailed, Full, DiskFailed, Memory}

-- Bytes were taken, and nothing else was done: no moment came, and no call failed but one that takes.
pub record TakesOnly (taken : List ℕ) (old new : Outside) : Type 0 where
  pub came : old.input ≡ taken ++ new.input
  pub still : StandsStill old new
  pub disk_faults : new.disk_faults ≡ old.disk_faults
  pub take_faults : old.take_faults ≤ new.take_faults
  pub say_faults : new.say_faults ≡ old.say_faults

-- the whole input was taken, within the budget, and is the stream of these views
pub record TakesStream (budget : ℕ) (views : List NamedTable) (old new : Outside) : Type 0 where
  pub taken : List ℕ
  pub takes : TakesOnly taken old new
  pub over : new.input ≡ []
  pub within : length taken ≤ budget
  pub stream : IsStream taken views

-- the most bytes that one take asks for
abbrev pub max_piece : ℕ
max_piece = 65_536

-- A field of the bytes that were taken is not as required, and this is the place of the first such; or they are the whole input, and end
-- within the field at this place, or before it. Each field that stood whole before the last piece came is as required, so nothing was taken
-- behind the piece with the wrong one.
pub record TakesBadStream (budget place : ℕ) (old new : Outside) : Type 0 where
  pub front : List ℕ
  pub last : List ℕ
  pub takes : TakesOnly (front ++ last) old new
  pub within : length (front ++ last) ≤ budget
  pub right : MayGoOn front
  pub piece : length last ≤ max_piece
  pub bad : IsWrongAt (front ++ last) place ⊎ ((new.input ≡ []) × IsCutOffAt (front ++ last) place)

-- one byte more than the budget came, and each field that stood whole before it is as required
pub record TakesTooMuch (budget : ℕ) (old new : Outside) : Type 0 where
  pub front : List ℕ
  pub byte : ℕ
  pub takes : TakesOnly (front ++ byte ∷ []) old new
  pub full : length front ≡ budget
  pub right : MayGoOn front

-- the input failed, and each field that stood whole before that is as required
pub record FailsToTake (budget : ℕ) (old new : Outside) : Type 0 where
  pub taken : List ℕ
  pub takes : TakesOnly taken old new
  pub within : length taken ≤ budget
  pub right : MayGoOn taken

-- memory was wanting while bytes were taken
pub record StopsTaking (old new : Outside) : Type 0 where
  pub taken : List ℕ
  pub takes : TakesOnly taken old new

-- what comes of an input: the views whose stream it is, or why there are none
abbrev pub ComesOfInput : ℕ → Outside → Outside → Result (List NamedTable) LoadFault → Type 0
ComesOfInput budget old new (Ok views) = TakesStream budget views old new
ComesOfInput budget old new (Err (BadStream place)) = TakesBadStream budget place old new
ComesOfInput budget old new (Err TooMuch) = TakesTooMuch budget old new
ComesOfInput budget old new (Err TakeFailed) = FailsToTake budget old new
ComesOfInput budget old new (Err Memory) = StopsTaking old new
ComesOfInput budget old new (Err (Full end cap)) = ⊥
ComesOfInput budget old new (Err DiskFailed) = ⊥

-- This much was taken since a moment: each field that it holds whole is as required, and so many bytes of the budget are left.
pub record HasTaken (budget left : ℕ) (taken : List ℕ) (begin now : Outside) : Type 0 where
  pub takes : TakesOnly taken begin now
  pub right : MayGoOn taken
  pub budget_is : budget ≡ length taken + left

-- what the end of an input says of the bytes that were taken: they are the stream of these views, or end within a field
abbrev pub ComesOfEnd : List ℕ → Result (List NamedTable) LoadFault → Type 0
ComesOfEnd taken (Ok views) = IsStream taken views
ComesOfEnd taken (Err (BadStream place)) = IsCutOffAt taken place
ComesOfEnd taken (Err Memory) = Unit {0}
ComesOfEnd taken (Err _) = ⊥

-- what comes of a piece of the input: it goes on, or it has ended
abbrev pub ComesOfPiece : ℕ → ℕ → Outside → Outside → Result Taken LoadFault → Type 0
ComesOfPiece budget left begin now (Ok (More loader count)) = (count ≤ left) × HasTaken budget (left - count) loader begin now
ComesOfPiece budget left begin now (Ok (All views)) = ComesOfInput budget begin now (Ok views)
ComesOfPiece budget left begin now (Err fault) = ComesOfInput budget begin now (Err fault)

-- an input that goes on has grown by as many bytes as are counted: one at least, and as many as there was room for at most
abbrev pub IsProgress : ℕ → ℕ → Taken → Type 0
IsProgress before room (More loader count) = (0 < count) × (count ≤ room) × (length loader ≡ before + count)
IsProgress before room (All views) = Unit {0}

-- views whose stream was taken name no place of a file
abbrev pub IsHomeless : Taken → Type 0
IsHomeless (More loader count) = Unit {0}
IsHomeless (All views) = Each (λ v. HasNoHomes v.table) views
