use Rattle.std.proofs.Common.{◌≤◌, ◌-◌, length, take}
use Rattle.stream_codec.specs.Loading.{Reaches}
use Rattle.stream_codec.proofs.progress.advance_along.Given as goal

-- the fields so far lead here
abbrev pub invariant-loop-len : goal.invariant-loop-len
invariant-loop-len l = record { within : l.at ≤ length l.piece; reached : Reaches l.fn.progress (take l.at l.piece) l.progress }

abbrev pub decreases-loop-len : goal.decreases-loop-len
decreases-loop-len l = length l.piece - l.at
