-- What may come of a line over a disk whose bytes are known.
use Rattle.std.proofs.Common.{ℕ, List, inl, inr}
use Rattle.cmd_text.specs.declared.command.Command.{Command}
use Rattle.commit_plan.specs.Plans.{Planned}
use Rattle.lines.specs.Machine.{State}
use Rattle.viewers.specs.Meanings.{Meaning}
use Rattle.session.specs.Carried.{Acknowledges, BringsBack, Carried, Comes, FailsToReopen, FailsToRevert, FailsUnderWay, FindsDamage, Gives, IsFull, LeavesDiskBy, Reopens}
use Rattle.session.specs.Commands.{Outcome, Reach, commits, gives, off_disk, opens_disk, outcome_of, reach_of, reads_disk, reopens, reverts, writes_disk}
use Rattle.session.specs.Disk.{LeavesDisk, ReadsDisk, SettlesAtMost, WritesCommit, WritesInPart}
use Rattle.session.specs.Step.{Step}
use Rattle.session.specs.World.{World}

module _ {known : Type 0} (k : known) (old new : State World) where
  known_leaves : LeavesDisk known old new → LeavesDisk (Unit {0}) old new
  known_leaves d = record { bytes = λ _. d.bytes k; faults = d.faults }

  known_reads : ReadsDisk known old new → ReadsDisk (Unit {0}) old new
  known_reads d = record { bytes = λ _. d.bytes k; later = d.later }

  known_settles : SettlesAtMost known old new → SettlesAtMost (Unit {0}) old new
  known_settles d = record { bytes = λ _. d.bytes k; later = d.later }

  known_writes : (planned : Planned) → WritesCommit known planned old new → WritesCommit (Unit {0}) planned old new
  known_writes planned d = record { bytes = λ _. d.bytes k; later = d.later }

  known_in_part : (planned : Planned) → WritesInPart known planned old new → WritesInPart (Unit {0}) planned old new
  known_in_part planned d = record { bytes = λ _. d.bytes k; later = d.later }

  known_gives : (said : List ℕ) (left : World) (reply : List ℕ) → Gives known said left old reply new → Gives (Unit {0}) said left old reply new
  known_gives said left reply g = record { answer = g.answer; world = g.world; disk = known_leaves g.disk }

  known_acknowledges : (note reply : List ℕ) → Acknowledges known note old reply new → Acknowledges (Unit {0}) note old reply new
  known_acknowledges note reply a = record {
    planned = a.planned;
    due = a.due;
    next = a.next;
    within = a.within;
    answer = a.answer;
    world = a.world;
    stands = λ _. a.stands k;
    before = λ _. a.before k;
    writes = known_writes a.planned a.writes;
  }

  known_fails : (note reply : List ℕ) → FailsUnderWay known note old reply new → FailsUnderWay (Unit {0}) note old reply new
  known_fails note reply f = record { planned = f.planned; due = f.due; next = f.next; within = f.within; answer = f.answer; world = f.world; rose = f.rose; writes = known_in_part f.planned f.writes }

  known_full : (note reply : List ℕ) → IsFull known note old reply new → IsFull (Unit {0}) note old reply new
  known_full note reply f = record { end = f.end; ends = f.ends; past = f.past; gives = known_gives _ _ reply f.gives }

  known_reopens : (reply : List ℕ) → Reopens known old reply new → Reopens (Unit {0}) old reply new
  known_reopens reply r = record {
    kept = r.kept;
    slot = r.slot;
    other = r.other;
    stands = λ _. r.stands k;
    rests = λ _. r.rests k;
    answer = r.answer;
    world = r.world;
    disk = known_settles r.disk;
  }

  known_no_reopening : (reply : List ℕ) → FailsToReopen known old reply new → FailsToReopen (Unit {0}) old reply new
  known_no_reopening reply f = record { answer = f.answer; world = f.world; rose = f.rose; disk = known_settles f.disk }

  known_brings : (reply : List ℕ) → BringsBack known old reply new → BringsBack (Unit {0}) old reply new
  known_brings reply b = record { older = b.older; before = λ _. b.before k; answer = b.answer; world = b.world; disk = known_reads b.disk }

  known_damage : (reply : List ℕ) → FindsDamage known old reply new → FindsDamage (Unit {0}) old reply new
  known_damage reply f = record { place = f.place; damaged = λ _. f.damaged k; answer = f.answer; world = f.world; disk = known_reads f.disk }

  known_no_revert : (reply : List ℕ) → FailsToRevert known old reply new → FailsToRevert (Unit {0}) old reply new
  known_no_revert reply f = record { answer = f.answer; world = f.world; rose = f.rose; disk = known_reads f.disk }

  known_comes : (outcome : Outcome) (reply : List ℕ) → Comes known outcome old reply new → Comes (Unit {0}) outcome old reply new
  known_comes (gives said left) reply g = known_gives said left reply g
  known_comes (commits note) reply (inl a) = inl (known_acknowledges note reply a)
  known_comes (commits note) reply (inr (inl f)) = inr (inl (known_fails note reply f))
  known_comes (commits note) reply (inr (inr f)) = inr (inr (known_full note reply f))
  known_comes reopens reply (inl r) = inl (known_reopens reply r)
  known_comes reopens reply (inr (inl f)) = inr (inl (known_no_reopening reply f))
  known_comes reopens reply (inr (inr f)) = absurd (f.unknown k)
  known_comes reverts reply (inl b) = inl (known_brings reply b)
  known_comes reverts reply (inr (inl f)) = inr (inl (known_damage reply f))
  known_comes reverts reply (inr (inr f)) = inr (inr (known_no_revert reply f))

  known_left : (reach : Reach) → LeavesDiskBy known reach old new → LeavesDiskBy (Unit {0}) reach old new
  known_left opens_disk d = known_settles d
  known_left reads_disk d = known_reads d
  known_left off_disk d = known_leaves d
  known_left writes_disk d = known_leaves d

  known_carried : (viewers : List Meaning) (command : Command) (reply : List ℕ) → Carried known viewers command old reply new → Carried (Unit {0}) viewers command old reply new
  known_carried viewers command reply (inl comes) = inl (known_comes (outcome_of viewers old.world command) reply comes)
  known_carried viewers command reply (inr w) = inr (record { takes = w.takes; answer = w.answer; world = w.world; disk = known_left (reach_of command) w.disk })

  pub known_step : (viewers : List Meaning) (line reply : List ℕ) → Step known viewers old line reply new → Step (Unit {0}) viewers old line reply new
  known_step viewers line reply (inl c) = inl (record { command = c.command; reads = c.reads; carried = known_carried viewers c.command reply c.carried })
  known_step viewers line reply (inr (inl r)) = inr (inl (record { error = r.error; offends = r.offends; refuses = known_gives _ _ reply r.refuses }))
  known_step viewers line reply (inr (inr l)) = inr (inr (record { takes = l.takes; refuses = known_gives _ _ reply l.refuses }))
