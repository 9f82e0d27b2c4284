-- The outside that an aside disk shows: moments of its own over a lower outside.
use Rattle.std.specs.Prelude.{ℕ, ◌+◌, ◌-◌, ◌^◌, List, [], ◌∷◌, ◌++◌, length, max, min}
use Rattle.host_io.specs.Disk.{settled}
use Rattle.host_io.specs.Outside.{Moment, Outside}
use Rattle.host_io.specs.Calls.{put_bytes}

-- the moments that an upper disk went through, and what it stands over
pub record Seen : Type 0 where
  pub now : Moment
  pub past : List Moment
  pub source : List ℕ

-- its outside: input and counts are the lower one's, and faults of its own are counted with the disk's
abbrev pub shown : Outside → Seen → ℕ → Outside
shown lower seen own = record {
  now = seen.now;
  past = seen.past;
  input = lower.input;
  disk_faults = min (lower.disk_faults + own) (2 ^ 64 - 1);
  take_faults = lower.take_faults;
  say_faults = lower.say_faults;
  source = seen.source;
}

-- the moments alone
abbrev pub bare : Seen → Outside
bare seen = record { now = seen.now; past = seen.past; input = []; disk_faults = 0; take_faults = 0; say_faults = 0; source = seen.source }

-- one moment more, after a write
abbrev pub wrote : Seen → ℕ → List ℕ → Seen
wrote seen place bytes = record {
  now = record {
    disk = record {
      seen = put_bytes seen.now.disk.seen place bytes;
      synced = seen.now.disk.synced;
      pending = (record { start = place; count = length bytes }) ∷ seen.now.disk.pending;
      longest = max seen.now.disk.longest (place + length bytes);
    };
    said = seen.now.said;
  };
  past = seen.now ∷ seen.past;
  source = seen.source;
}

-- after a sync
abbrev pub rested : Seen → Seen
rested seen = record { now = record { disk = settled seen.now.disk.seen; said = seen.now.said }; past = seen.now ∷ seen.past; source = seen.source }

-- after these bytes were said
abbrev pub spoke : Seen → List ℕ → Seen
spoke seen bytes = record { now = record { disk = seen.now.disk; said = seen.now.said ++ bytes }; past = seen.now ∷ seen.past; source = seen.source }

-- what an aside disk stands over: the name of its reference, the moments at which it began, and its base
abbrev pub source_of : ℕ → ℕ → ℕ → ℕ → List ℕ → List ℕ
source_of name lower_since upper_since number base = name ∷ lower_since ∷ upper_since ∷ number ∷ base
