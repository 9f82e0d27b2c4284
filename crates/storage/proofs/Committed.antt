-- What the writes of a commit do to the disk, said of commits.
use Rattle.std.proofs.Common.{◌≡◌, List, ℕ, Ok, Err, Some, sym, subst}
use Rattle.std.specs.Prelude.{OnOk, Result}
use Rattle.host_io.specs.Disk.{DiskState}
use Rattle.host_io.specs.Outside.{Moment, Outside}
use Rattle.host_io.proofs.Moments.{weaker}
use Rattle.commit_writes.specs.Blocks.{Block}
use Rattle.commit_plan.specs.Plans.{Planned}
use Rattle.commit_writes.specs.Carrying.{Carries, IsCarrying, IsReady}
use Rattle.commit_writes.specs.Phases.{IsAtRest}
use Rattle.commit_marks.specs.declared.mark.Mark.{Mark}
use Rattle.commit_marks.specs.declared.mark.Marks.{Marks}
use Rattle.commit_marks.specs.Marks.{other_slot}
use Rattle.commit_writes.specs.Plans.{IsSoundAfter}
use Rattle.recovery.specs.Commits.{Commit, IsCommit, footprint_of, mark_of}
use Rattle.recovery.proofs.Footprints.{has_before, may_stand, stands_for}
use Rattle.storage.specs.Committing.{Commits, IsUnderWay}
use Rattle.storage.specs.Marking.{marks_of}
use Rattle.storage.specs.Stored.{Rests, Stored}

-- a store that rests on its disk is ready for a sound commit
pub ready_for : (s : Stored) (next : Commit) (writes : List Block) (marks : Marks) (mark : Mark) (disk : DiskState) → marks ≡ marks_of s → mark ≡ mark_of next
    → IsSoundAfter (footprint_of s.kept) writes (footprint_of next) → Rests s disk → IsReady (footprint_of s.kept) (footprint_of next) marks writes mark disk
ready_for s next writes marks mark disk marks_are mark_is sound rests = record {
  rest = subst (λ (m : Marks). IsAtRest (footprint_of s.kept) m.slot m.other disk) (sym marks_are) rests;
  sound = sound;
  mark_is = sym mark_is;
}

moment_of : (s : Stored) (p : Planned) (from : Outside) → IsCommit s.kept → IsCommit p.next → (at : Moment)
    → IsCarrying (footprint_of s.kept) (footprint_of p.next) s.slot p.writes from at → IsUnderWay s p from at
moment_of s p from one two at h = record { silent = h.silent; changes = h.changes; images = λ image is. may_stand s.kept p.next image one two (h.images image is) }

module _ {T E : Type 0} (s : Stored) (p : Planned) (from to : Outside) where
  -- what a commit does, of its footprints
  abbrev pub CarriesOut : Result T E → Type 0
  CarriesOut result = Carries (footprint_of s.kept) (footprint_of p.next) s.slot s.other p.writes from to result

  pub commits_of : (result : Result T E) → IsCommit s.kept → IsCommit p.next → CarriesOut result → Commits s p from to result
  commits_of (Ok x) one two c = record {
    moments = weaker (moment_of s p from one two) c.moments;
    left = λ image is. may_stand s.kept p.next image one two (c.left image is);
    sound = c.sound;
    stands = stands_for p.next to.now.disk.seen two (other_slot s.slot, Some (mark_of s.kept), c.rest.0.chooses, c.rest.0.holds);
    before = has_before s.kept to.now.disk.seen one (other_slot s.slot, mark_of p.next, c.rest.0.chooses, c.rest.1);
    file = c.file;
    changes = c.changes;
    said = c.said;
    input = c.input;
  }
  commits_of (Err e) one two c = record {
    moments = weaker (moment_of s p from one two) c.moments;
    left = λ image is. may_stand s.kept p.next image one two (c.left image is);
    sound = c.sound;
    stands = tt;
    before = tt;
    file = tt;
    changes = c.changes;
    said = c.said;
    input = c.input;
  }

  pub rests_of : (result : Result T E) → CarriesOut result → OnOk result (IsAtRest (footprint_of p.next) (other_slot s.slot) (Some (mark_of s.kept)) to.now.disk)
  rests_of (Ok x) c = c.rest.0
  rests_of (Err e) c = tt

-- the same commit, answered otherwise
module _ {T U E : Type 0} (s : Stored) (p : Planned) (from to : Outside) where
  pub commits_answered : (x : T) (y : U) → Commits {E = E} s p from to (Ok x) → Commits {E = E} s p from to (Ok y)
  commits_answered x y c = record { moments = c.moments; left = c.left; sound = c.sound; stands = c.stands; before = c.before; file = c.file; changes = c.changes; said = c.said; input = c.input }

  pub commits_refused : (e : E) → Commits {T = T} s p from to (Err e) → Commits {T = U} s p from to (Err e)
  commits_refused e c = record { moments = c.moments; left = c.left; sound = c.sound; stands = tt; before = tt; file = tt; changes = c.changes; said = c.said; input = c.input }
