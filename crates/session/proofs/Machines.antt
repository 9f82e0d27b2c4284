-- A session as a machine: what its lines need and what they may leave is the same whatever viewers they may ask.
use Rattle.std.proofs.Common.{ℕ, List}
use Rattle.host_io.specs.Outside.{Moment}
use Rattle.lines.specs.Crash.{IsReady, IsWithin}
use Rattle.lines.specs.Machine.{State}
use Rattle.viewers.specs.Meanings.{Meaning}
use Rattle.session.specs.Disk.{IsSteady}
use Rattle.session.specs.Moments.{IsWithinLine}
use Rattle.session.specs.Step.{machine}
use Rattle.session.specs.World.{World}

pub steady : (viewers : List Meaning) (state : State World) → IsReady (machine viewers) state → IsSteady state
steady viewers state ready = record { allowed = ready.allowed; ready = ready.ready }

pub ready : (viewers : List Meaning) (state : State World) → IsSteady state → IsReady (machine viewers) state
ready viewers state is = record { allowed = is.allowed; ready = is.ready }

pub within : (viewers : List Meaning) (state : State World) (line said : List ℕ) (at : Moment) → IsWithinLine state line said at → IsWithin (machine viewers) state line said at
within viewers state line said at is = record { silent = is.silent; images = is.images }
