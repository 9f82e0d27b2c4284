-- A host in memory: what it went through, what room it has left, and what each call does to it.
use Rattle.std.specs.Prelude.{◌≡◌, ℕ, ◌+◌, ◌-◌, ◌^◌, ◌<◌, ◌≤◌, Bool, ◌&&◌, ◌||◌, not, nat_lt, nat_le, ◌==◌, if◌then◌else◌, List, [], ◌∷◌, ◌++◌, length, slice_index, map, replicate, take, drop, min, max, Option, Some, None, is_some, unwrap_or}
use Rattle.host_io.specs.Disk.{DiskState, IsUntouched, settled}
use Rattle.host_io.specs.Outside.{Moment, Outside}
use Rattle.host_io.specs.Calls.{put_bytes}
use Rattle.host_io.specs.Ranges.{IsAmong}
use Rattle.host_io.specs.declared.fault.Effect.{Effect}
use Rattle.host_io.specs.declared.fault.Effect.TheVariants.{Nothing, Whole, Ones}
use Rattle.host_io.specs.declared.fault.Fault.{Fault}

-- what the script says of this call: its first entry with this number decides
abbrev pub effect_at : ℕ → List Fault → Option Effect
effect_at call [] = None
effect_at call (fault ∷ faults) = if fault.call == call then Some fault.effect else effect_at call faults

-- the bytes of a file after a write that left this in its range
abbrev pub left_by : Effect → ℕ → List ℕ → List ℕ → List ℕ
left_by Nothing place bytes file = file
left_by Whole place bytes file = put_bytes file place bytes
left_by Ones place bytes file = put_bytes file place (replicate (length bytes) 255)

-- the disk after a write that left this in its range
abbrev pub written : Effect → ℕ → List ℕ → DiskState → DiskState
written left place bytes disk = record {
  seen = left_by left place bytes disk.seen;
  synced = disk.synced;
  pending = (record { start = place; count = length bytes }) ∷ disk.pending;
  longest = max disk.longest (place + length bytes);
}

-- a moment, and how many calls had been made when it came
pub record Timed : Type 0 where
  pub calls : ℕ
  pub moment : Moment

-- the moments so far, of which the earlier ones stand with the newest first
pub record Trail : Type 0 where
  pub latest : Timed
  pub earlier : List Timed

-- a trail, and the room for more: how many moments, and how many bytes written or said
pub record History : Type 0 where
  pub trail : Trail
  pub moments_left : ℕ
  pub bytes_left : ℕ

-- one moment more
abbrev pub extended : ℕ → Moment → Trail → Trail
extended calls moment trail = record { latest = record { calls = calls; moment = moment }; earlier = trail.latest ∷ trail.earlier }

-- one moment more, which took this many bytes of the room
abbrev pub recorded : ℕ → Moment → ℕ → History → History
recorded calls moment bytes history = record {
  trail = extended calls moment history.trail;
  moments_left = history.moments_left - 1;
  bytes_left = history.bytes_left - bytes;
}

-- whether one moment more with this many bytes has room
abbrev pub has_room : ℕ → History → Bool
has_room bytes history = nat_lt 0 history.moments_left && nat_le bytes history.bytes_left

-- the newest of these moments that came within so many calls, or the oldest of all
abbrev pub newest_within : ℕ → Timed → List Timed → Moment
newest_within calls timed [] = timed.moment
newest_within calls timed (before ∷ earlier) = if nat_le timed.calls calls then timed.moment else newest_within calls before earlier

-- the moment at which the host stood after so many calls
abbrev pub moment_after : ℕ → Trail → Moment
moment_after calls trail = newest_within calls trail.latest trail.earlier

pub record HostState : Type 0 where
  pub history : History
  -- the bytes that are left to take
  pub input : List ℕ
  -- how many calls were made
  pub calls : ℕ
  pub script : List Fault
  -- the greatest number of bytes in one piece taken or said, where 0 is no bound
  pub most : ℕ
  pub disk_faults : ℕ
  pub take_faults : ℕ
  pub say_faults : ℕ

abbrev pub now_of : HostState → Moment
now_of host = host.history.trail.latest.moment

abbrev pub outside_of : HostState → Outside
outside_of host = record {
  now = now_of host;
  past = map (λ timed. timed.moment) host.history.trail.earlier;
  input = host.input;
  disk_faults = host.disk_faults;
  take_faults = host.take_faults;
  say_faults = host.say_faults;
  source = [];
}

-- a count that goes up by one, up to the last value of its type
abbrev pub risen : ℕ → ℕ
risen count = min (count + 1) (2 ^ 64 - 1)

abbrev pub risen_if : Bool → ℕ → ℕ
risen_if failed count = if failed then risen count else count

-- what the script says of the next call
abbrev pub due : HostState → Option Effect
due host = effect_at host.calls host.script

-- the next call fails by the script
abbrev pub is_due : HostState → Bool
is_due host = is_some (due host)

-- the next call fails by the script, or since it would pass the room
abbrev pub is_refused : ℕ → HostState → Bool
is_refused bytes host = is_due host || not (has_room bytes host.history)

-- at most `most` of so many bytes, where 0 is no bound
abbrev pub bounded : ℕ → ℕ → ℕ
bounded most count = if most == 0 then count else min most count

-- a call of the disk that is answered, or fails
abbrev pub after_disk_call : Bool → History → HostState → HostState
after_disk_call failed history host = record host { history = history; calls = risen host.calls; disk_faults = risen_if failed host.disk_faults }

-- a call of the disk that only looks
abbrev pub after_look : HostState → HostState
after_look host = after_disk_call (is_due host) host.history host

-- A write with room leaves all of it, or where it is due to fail what the script says; one without room leaves nothing.
abbrev pub after_write : ℕ → List ℕ → HostState → HostState
after_write place bytes host = after_disk_call (is_refused (length bytes) host) history host where
  moment : Moment
  moment = record { disk = written (unwrap_or (due host) Whole) place bytes (now_of host).disk; said = (now_of host).said }

  history : History
  history = if has_room (length bytes) host.history then recorded (risen host.calls) moment (length bytes) host.history else host.history

abbrev pub after_sync : HostState → HostState
after_sync host = after_disk_call (is_refused 0 host) history host where
  moment : Moment
  moment = record { disk = settled (now_of host).disk.seen; said = (now_of host).said }

  history : History
  history = if is_refused 0 host then host.history else recorded (risen host.calls) moment 0 host.history

-- how many bytes a take into so much room gives
abbrev pub take_count : ℕ → HostState → ℕ
take_count room host = bounded host.most (min room (length host.input))

abbrev pub after_take : ℕ → HostState → HostState
after_take room host = record host {
  input = if is_due host then host.input else drop (take_count room host) host.input;
  calls = risen host.calls;
  take_faults = risen_if (is_due host) host.take_faults;
}

-- the front of a piece that is said
abbrev pub said_front : List ℕ → HostState → List ℕ
said_front piece host = take (bounded host.most (length piece)) piece

abbrev pub after_say : List ℕ → HostState → HostState
after_say piece host = record host {
  history = if refused then host.history else recorded (risen host.calls) moment (length front) host.history;
  calls = risen host.calls;
  say_faults = risen_if refused host.say_faults;
} where
  front : List ℕ
  front = said_front piece host

  refused : Bool
  refused = is_refused (length front) host

  moment : Moment
  moment = record { disk = (now_of host).disk; said = (now_of host).said ++ front }

-- an image of the greatest length, with `ff` in each pending range and past the synced bytes
pub record IsOnes (disk : DiskState) (image : List ℕ) : Type 0 where
  pub longest : length image ≡ disk.longest
  pub touched : (place : ℕ) → IsAmong place disk.pending → slice_index image place ≡ 255
  pub past : (place : ℕ) → length disk.synced ≤ place → place < length image → slice_index image place ≡ 255
  pub kept : (place : ℕ) → place < length disk.synced → IsUntouched place disk.pending
      → slice_index image place ≡ slice_index disk.synced place

-- the image of a crash that leaves the pending bytes as at the last sync, as they were written, or all `ff`
abbrev pub IsLeft : Effect → DiskState → List ℕ → Type 0
IsLeft Nothing disk image = image ≡ disk.synced
IsLeft Whole disk image = image ≡ disk.seen
IsLeft Ones disk image = IsOnes disk image

-- what a crash leaves of a pending write, which left `left` of its bytes
abbrev pub left_pending : Effect → Effect → ℕ → List ℕ → List ℕ → List ℕ
left_pending Nothing left place bytes image = image
left_pending Whole left place bytes image = left_by left place bytes image
left_pending Ones left place bytes image = put_bytes image place (replicate (length bytes) 255)
