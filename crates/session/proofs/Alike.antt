-- What a reply tells of the state that its line leaves: all that the session holds, and where it is not shut the disk.
use Rattle.std.proofs.Common.{◌≡◌, ℕ, ◌<◌, ◌≤◌, ◌++◌, List, [], ◌∷◌, length, map, get_or, false, Option, refl, ap, sym, subst, ◌∙◌, inl, inr, ⊎_elim, arith, true≢false}
use Rattle.std.specs.List.{filter}
use Rattle.cmd_text.specs.Grammar.{call_of}
use Rattle.cmd_text.specs.Lines.{IsRefusedAs, Reads}
use Rattle.cmd_text.specs.Replies.{reply_bytes}
use Rattle.cmd_text.specs.declared.command.Command.{Command}
use Rattle.cmd_text.specs.declared.error.CmdError.{CmdError}
use Rattle.cmd_text.specs.declared.refusal.Refusal.TheVariants.{Damaged, Disk, Memory}
use Rattle.cmd_text.specs.declared.reply.Reply.TheVariants.{Refused}
use Rattle.commit_marks.specs.declared.mark.Mark.{Mark}
use Rattle.commit_marks.specs.Marks.{Chooses}
use Rattle.commit_marks.proofs.Chosen.{marks_unique}
use Rattle.commit_plan.specs.Following.{FollowsAt, blocks_due, commit_spans, is_some as has_bytes, writes_at}
use Rattle.commit_plan.specs.Plans.{IsPlanOf, Planned}
use Rattle.commit_writes.specs.Blocks.{Block}
use Rattle.dir_codec.specs.Dir.{spelled}
use Rattle.free_space.specs.Sites.{ArePlaced}
use Rattle.free_space.proofs.Placing.{placed_unique}
use Rattle.host_io.specs.Disk.{DiskState, IsSettled, settled}
use Rattle.lines.specs.Machine.{Answers, State}
use Rattle.mk_value.specs.declared.span.Span.{Span}
use Rattle.recovery.specs.Commits.{Commit, blocks_at, directory, mark_of, plain_views}
use Rattle.recovery.specs.Refusals.{IsBefore, Older, whole}
use Rattle.recovery.specs.Standing.{StandsFor}
use Rattle.storage.specs.Reverting.{views_without_homes}
use Rattle.storage.specs.Stored.{Rests, committed, failed, floor_of, is_shut, reopened}
use Rattle.view_store.specs.Views.{NamedTable}
use Rattle.viewers.specs.Meanings.{Meaning}
use Rattle.session.specs.Carried.{Acknowledges, BringsBack, Comes, FailsUnderWay, LeavesDiskBy, Reopens, WantsMemory}
use Rattle.session.specs.Commands.{Outcome, Reach, commits, gives, off_disk, opens_disk, outcome_of, reach_of, reads_disk, reopens, reverts, writes_disk}
use Rattle.session.specs.Determined.{AreAlike, StaysOffDisk}
use Rattle.session.specs.Disk.{LeavesDisk, ReadsDisk, SettlesAtMost, committed_file}
use Rattle.session.specs.Step.{Step, machine}
use Rattle.session.specs.World.{World, with_store, with_tables, without_followers}
use Rattle.session.proofs.Calls.{same_outcome}
use Rattle.session.proofs.Fair.{IsFair, accepted_or_refused, fair_of, opens, reads}

-- what the layers below say: a line asks for one thing or is refused, one commit at most follows, and a file stands for one and has one before
pub record OneAnswer : Type 0 where
  pub call : (line : List ℕ) (one two : Command) → Reads line one → Reads line two → call_of one ≡ call_of two
  pub not_both : (line : List ℕ) (command : Command) (error : CmdError) → Reads line command → IsRefusedAs line error → ⊥
  pub follows : (floor : ℕ) (kept : Commit) (views : List NamedTable) (note : List ℕ) (spans others : List Span) (one other : Commit)
      → FollowsAt floor kept views note spans one → FollowsAt floor kept views note others other → one ≡ other
  pub stands : (image : List ℕ) (one other : Commit) → StandsFor image one → StandsFor image other → one ≡ other
  pub before : (image : List ℕ) (one other : Older) → IsBefore image one → IsBefore image other → one ≡ other

same_state : (one other : State World) → one.world ≡ other.world → one.disk ≡ other.disk → one.disk_faults ≡ other.disk_faults → one ≡ other
same_state one other worlds disks faults =
    ap (λ (w : World). let s : State World = record { world = w; disk = one.disk; disk_faults = one.disk_faults } in s) worlds
    ∙ ap (λ (d : DiskState). let s : State World = record { world = other.world; disk = d; disk_faults = one.disk_faults } in s) disks
    ∙ ap (λ (n : ℕ). let s : State World = record { world = other.world; disk = other.disk; disk_faults = n } in s) faults

-- The session is as it was, and so is the disk where it is not shut; and all is as it was after a line that does not come to the disk.
record Stays (line : List ℕ) (old new : State World) : Type 0 where
  world : new.world ≡ old.world
  disk : is_shut old.world.store ≡ false → new.disk ≡ old.disk
  same : StaysOffDisk line → new ≡ old

both_stay : (line : List ℕ) (old one other : State World) → Stays line old one → Stays line old other → AreAlike line one other
both_stay line old one other s t = record {
  world = s.world ∙ sym t.world;
  disk = λ unshut. let was : is_shut old.world.store ≡ false = sym (ap (λ (w : World). is_shut w.store) s.world) ∙ unshut in s.disk was ∙ sym (t.disk was);
  same = λ off. s.same off ∙ sym (t.same off);
}

-- one plan at most
same_writes : (floor : ℕ) (kept : Commit) (views : List NamedTable) (note : List ℕ) (spans others : List Span) (one other : Commit) → one ≡ other
    → FollowsAt floor kept views note spans one → FollowsAt floor kept views note others other → writes_at views spans one ≡ writes_at views others other
same_writes floor kept views note spans others one other same f g =
    let lens = map length (blocks_due (plain_views views)) in
    let all : spans ++ one.dir ∷ [] ≡ others ++ other.dir ∷ [] =
    placed_unique floor (commit_spans kept) (lens ++ one.dir.len ∷ []) (spans ++ one.dir ∷ []) (others ++ other.dir ∷ []) f.placed
    (subst (λ (c : Commit). ArePlaced floor (commit_spans kept) (lens ++ c.dir.len ∷ []) (others ++ other.dir ∷ [])) (sym same) g.placed) in
    ap (λ ss. filter has_bytes (blocks_at ss (blocks_due (plain_views views) ++ spelled (directory one.views one.notes) ∷ []))) all
    ∙ ap (λ (c : Commit). filter has_bytes (blocks_at (others ++ other.dir ∷ []) (blocks_due (plain_views views) ++ spelled (directory c.views c.notes) ∷ []))) same

-- A disk where nothing is pending is told by its bytes.
settled_is : (disk : DiskState) → IsSettled disk → disk ≡ settled disk.seen
settled_is disk is =
    ap (λ bytes. let d : DiskState = record { seen = disk.seen; synced = bytes; pending = disk.pending; longest = disk.longest } in d) is.synced
    ∙ ap (λ ranges. let d : DiskState = record { seen = disk.seen; synced = disk.seen; pending = ranges; longest = disk.longest } in d) is.pending
    ∙ ap (λ n. let d : DiskState = record { seen = disk.seen; synced = disk.seen; pending = []; longest = n } in d) is.longest

same_settled : (one other : DiskState) → IsSettled one → IsSettled other → one.seen ≡ other.seen → one ≡ other
same_settled one other is too same = settled_is one is ∙ ap settled same ∙ sym (settled_is other too)

whole_same : (one other : Commit) → whole one ≡ whole other → one ≡ other
whole_same one other same = ap commit_in same
  where
    commit_in : Older → Commit
    commit_in (whole c) = c
    commit_in _ = one

-- the refusals that a disk and want of memory give are told apart
disk_or_memory : ¬ (reply_bytes (Refused Disk) ≡ reply_bytes (Refused Memory))
disk_or_memory same = let e : 57 ≡ 49 = ap (λ (bytes : List ℕ). get_or bytes 4 0) same in absurd (omega (arith, e))

module _ (line : List ℕ) (old new : State World) where
  stays_on_disk : LeavesDisk (Unit {0}) old new → new.world ≡ old.world → Stays line old new
  stays_on_disk d same = record { world = same; disk = λ unshut. d.bytes tt; same = λ off. same_state new old same (d.bytes tt) d.faults }

  stays_settled : ¬ StaysOffDisk line → SettlesAtMost (Unit {0}) old new → new.world ≡ old.world → Stays line old new
  stays_settled reaches d same = record {
    world = same;
    disk = λ unshut. ⊎_elim (λ is. is) (λ settles. absurd (true≢false (sym settles.0 ∙ unshut))) (d.bytes tt);
    same = λ off. absurd (reaches off);
  }

  stays_read : ¬ StaysOffDisk line → ReadsDisk (Unit {0}) old new → new.world ≡ old.world → Stays line old new
  stays_read reaches d same = record { world = same; disk = λ unshut. d.bytes tt; same = λ off. absurd (reaches off) }

  stays_by : (reach : Reach) → (¬ (reach ≡ off_disk) → ¬ StaysOffDisk line) → LeavesDiskBy (Unit {0}) reach old new → new.world ≡ old.world → Stays line old new
  stays_by opens_disk reaches d same = stays_settled (reaches opens) d same
  stays_by reads_disk reaches d same = stays_read (reaches reads) d same
  stays_by off_disk reaches d same = stays_on_disk d same
  stays_by writes_disk reaches d same = stays_on_disk d same

  -- what is answered as want of memory changes nothing, whatever came of the command
  memory_stays : (o : Outcome) (reach : Reach) (reply : List ℕ) → (¬ (reach ≡ off_disk) → ¬ StaysOffDisk line) → IsFair old.world reach o → reply ≡ reply_bytes (Refused Memory) → Comes (Unit {0}) o old reply new → Stays line old new
  memory_stays (gives said left) reach reply reaches (inl same) is g = stays_on_disk g.disk (g.world ∙ same)
  memory_stays (gives said left) reach reply reaches (inr not) is g = absurd (not (sym g.answer ∙ is))
  memory_stays (commits note) reach reply reaches fair is (inl a) = absurd (accepted_or_refused _ Memory refl (sym a.answer ∙ is))
  memory_stays (commits note) reach reply reaches fair is (inr (inl f)) = absurd (disk_or_memory (sym f.answer ∙ is))
  memory_stays (commits note) reach reply reaches fair is (inr (inr f)) = stays_on_disk f.gives.disk f.gives.world
  memory_stays reopens reach reply reaches fair is (inl r) = absurd (accepted_or_refused _ Memory refl (sym r.answer ∙ is))
  memory_stays reopens reach reply reaches fair is (inr (inl f)) = stays_settled (reaches fair) f.disk f.world
  memory_stays reopens reach reply reaches fair is (inr (inr f)) = stays_settled (reaches fair) f.disk f.world
  memory_stays reverts reach reply reaches fair is (inl b) = absurd (accepted_or_refused _ Memory refl (sym b.answer ∙ is))
  memory_stays reverts reach reply reaches fair is (inr (inl f)) = stays_read (reaches fair) f.disk f.world
  memory_stays reverts reach reply reaches fair is (inr (inr f)) = stays_read (reaches fair) f.disk f.world

-- What came of a line: it was refused at its offence, memory was wanting, or it is what comes of its command.
data Came (viewers : List Meaning) (old : State World) (line reply : List ℕ) (new : State World) : Type 0 where
  refused : (error : CmdError) → IsRefusedAs line error → Stays line old new → Came viewers old line reply new
  lacked : reply ≡ reply_bytes (Refused Memory) → Stays line old new → Came viewers old line reply new
  came : (command : Command) → Reads line command → Comes (Unit {0}) (outcome_of viewers old.world command) old reply new → Came viewers old line reply new

-- a line that reads as a command that comes to the disk
reaches_disk : (line : List ℕ) (command : Command) → Reads line command → ¬ (reach_of command ≡ off_disk) → ¬ StaysOffDisk line
reaches_disk line command reads reaches off = reaches (off command reads)

came_of : (viewers : List Meaning) (old : State World) (line reply : List ℕ) (new : State World) → Step (Unit {0}) viewers old line reply new → Came viewers old line reply new
came_of viewers old line reply new (inl c) = ⊎_elim
    (λ comes. came c.command c.reads comes)
    (λ (w : WantsMemory (Unit {0}) c.command old reply new). lacked w.answer (stays_by line old new (reach_of c.command) (reaches_disk line c.command c.reads) w.disk w.world))
    c.carried
came_of viewers old line reply new (inr (inl r)) = refused r.error r.offends (stays_on_disk line old new r.refuses.disk r.refuses.world)
came_of viewers old line reply new (inr (inr l)) = lacked l.refuses.answer (stays_on_disk line old new l.refuses.disk l.refuses.world)

module _ (laws : OneAnswer) (line : List ℕ) (old one other : State World) (reply : List ℕ) where
  -- A commit: the next one is determined, and the refusal of one that ends past the cap leaves no other answer.
  module _ (note : List ℕ) where
    abbrev IsNextPlan : Planned → Type 0
    IsNextPlan planned = IsPlanOf (floor_of old.world.store.mode old.world.store.kept.end) old.world.store.kept old.world.store.views note planned

    same_next : (p q : Planned) → IsNextPlan p → IsNextPlan q → p.next ≡ q.next
    same_next p q f g = laws.follows _ _ _ _ f.spans g.spans p.next q.next f.follows g.follows

    same_plan : (p q : Planned) → IsNextPlan p → IsNextPlan q → p ≡ q
    same_plan p q f g =
        let next = same_next p q f g in
        let writes : p.writes ≡ q.writes = f.writes ∙ same_writes _ _ _ _ f.spans g.spans p.next q.next next f.follows g.follows ∙ sym g.writes in
        ap (λ (c : Commit). let r : Planned = record { next = c; writes = p.writes } in r) next ∙ ap (λ (bs : List Block). let r : Planned = record { next = q.next; writes = bs } in r) writes

    acknowledged : ¬ StaysOffDisk line → Acknowledges (Unit {0}) note old reply one → Acknowledges (Unit {0}) note old reply other → AreAlike line one other
    acknowledged reaches a b =
        let plans = same_plan a.planned b.planned a.next b.next in
        record {
          world = a.world ∙ ap (λ (p : Planned). with_store old.world (committed old.world.store p.next)) plans ∙ sym b.world;
          disk = λ unshut. a.writes.bytes tt ∙ ap (λ (p : Planned). settled (committed_file old.world.store p old.disk.seen)) plans ∙ sym (b.writes.bytes tt);
          same = λ off. absurd (reaches off);
        }

    failed_alike : ¬ StaysOffDisk line → FailsUnderWay (Unit {0}) note old reply one → FailsUnderWay (Unit {0}) note old reply other → AreAlike line one other
    failed_alike reaches a b =
        record {
          world = a.world ∙ ap (λ (c : Commit). with_store old.world (failed old.world.store c)) (same_next a.planned b.planned a.next b.next) ∙ sym b.world;
          disk = λ unshut. absurd (true≢false (sym (ap (λ (w : World). is_shut w.store) a.world) ∙ unshut));
          same = λ off. absurd (reaches off);
        }

    within_or_past : (planned : Planned) (end cap : ℕ) → IsNextPlan planned → planned.next.end ≤ cap → ((spans : List Span) (next : Commit) → FollowsAt (floor_of old.world.store.mode old.world.store.kept.end) old.world.store.kept old.world.store.views note spans next → next.end ≡ end)
        → cap < end → ⊥
    within_or_past planned end cap is within ends past = let e = ends is.spans planned.next is.follows in absurd (omega (arith, within, past, e))

  -- a file that was opened anew
  abbrev reopened_as : Commit → ℕ → Option Mark → World
  reopened_as kept slot beside = without_followers (with_store old.world (reopened old.world.store kept slot beside))

  seen_stays : (new : State World) → SettlesAtMost (Unit {0}) old new → new.disk.seen ≡ old.disk.seen
  seen_stays new d = ⊎_elim (λ same. ap (λ (disk : DiskState). disk.seen) same) (λ settles. ap (λ (disk : DiskState). disk.seen) settles.1) (d.bytes tt)

  rests_as : (new : State World) (kept : Commit) (slot : ℕ) (beside : Option Mark) → new.world ≡ reopened_as kept slot beside → Rests new.world.store new.disk → Rests (reopened old.world.store kept slot beside) new.disk
  rests_as new kept slot beside is rests = subst (λ (w : World). Rests w.store new.disk) is rests

  reopened_alike : ¬ StaysOffDisk line → Reopens (Unit {0}) old reply one → Reopens (Unit {0}) old reply other → AreAlike line one other
  reopened_alike reaches a b =
      let rest = rests_as one a.kept a.slot a.other a.world (a.rests tt) in
      let beside = rests_as other b.kept b.slot b.other b.world (b.rests tt) in
      let marks = marks_unique old.disk.seen a.slot b.slot (mark_of a.kept) (mark_of b.kept) a.other b.other
      (subst (λ (bytes : List ℕ). Chooses bytes a.slot (mark_of a.kept) a.other) (seen_stays one a.disk) rest.chooses)
      (subst (λ (bytes : List ℕ). Chooses bytes b.slot (mark_of b.kept) b.other) (seen_stays other b.disk) beside.chooses) in
      let kept = laws.stands old.disk.seen a.kept b.kept (a.stands tt) (b.stands tt) in
      record {
        world = a.world ∙ ap (λ (c : Commit). reopened_as c a.slot a.other) kept ∙ ap (λ (slot : ℕ). reopened_as b.kept slot a.other) marks.0 ∙ ap (λ (m : Option Mark). reopened_as b.kept b.slot m) marks.2 ∙ sym b.world;
        disk = λ unshut. same_settled one.disk other.disk rest.settled beside.settled (seen_stays one a.disk ∙ sym (seen_stays other b.disk));
        same = λ off. absurd (reaches off);
      }

  -- the commit before that was brought back
  brought_alike : ¬ StaysOffDisk line → BringsBack (Unit {0}) old reply one → BringsBack (Unit {0}) old reply other → AreAlike line one other
  brought_alike reaches a b =
      let older = whole_same a.older b.older (laws.before old.disk.seen (whole a.older) (whole b.older) (a.before tt) (b.before tt)) in
      record {
        world = a.world ∙ ap (λ (c : Commit). without_followers (with_tables old.world (views_without_homes c.views))) older ∙ sym b.world;
        disk = λ unshut. a.disk.bytes tt ∙ sym (b.disk.bytes tt);
        same = λ off. absurd (reaches off);
      }

  -- two ways in which the same may come out
  comes_alike : (o : Outcome) (reach : Reach) → (¬ (reach ≡ off_disk) → ¬ StaysOffDisk line) → IsFair old.world reach o → Comes (Unit {0}) o old reply one → Comes (Unit {0}) o old reply other → AreAlike line one other
  comes_alike (gives said left) reach reaches fair a b =
      let worlds = a.world ∙ sym b.world in
      let disks = a.disk.bytes tt ∙ sym (b.disk.bytes tt) in
      record { world = worlds; disk = λ unshut. disks; same = λ off. same_state one other worlds disks (a.disk.faults ∙ sym b.disk.faults) }
  comes_alike (commits note) reach reaches fair (inl a) (inl b) = acknowledged note (reaches fair) a b
  comes_alike (commits note) reach reaches fair (inl a) (inr (inl f)) = absurd (accepted_or_refused _ Disk refl (sym a.answer ∙ f.answer))
  comes_alike (commits note) reach reaches fair (inl a) (inr (inr f)) = absurd (within_or_past note a.planned f.end old.world.store.cap a.next a.within f.ends f.past)
  comes_alike (commits note) reach reaches fair (inr (inl f)) (inl b) = absurd (accepted_or_refused _ Disk refl (sym b.answer ∙ f.answer))
  comes_alike (commits note) reach reaches fair (inr (inl f)) (inr (inl g)) = failed_alike note (reaches fair) f g
  comes_alike (commits note) reach reaches fair (inr (inl f)) (inr (inr g)) = absurd (within_or_past note f.planned g.end old.world.store.cap f.next f.within g.ends g.past)
  comes_alike (commits note) reach reaches fair (inr (inr f)) (inl b) = absurd (within_or_past note b.planned f.end old.world.store.cap b.next b.within f.ends f.past)
  comes_alike (commits note) reach reaches fair (inr (inr f)) (inr (inl g)) = absurd (within_or_past note g.planned f.end old.world.store.cap g.next g.within f.ends f.past)
  comes_alike (commits note) reach reaches fair (inr (inr f)) (inr (inr g)) =
      both_stay line old one other (stays_on_disk line old one f.gives.disk f.gives.world) (stays_on_disk line old other g.gives.disk g.gives.world)
  comes_alike reopens reach reaches fair (inl a) (inl b) = reopened_alike (reaches fair) a b
  comes_alike reopens reach reaches fair (inl a) (inr (inl f)) = absurd (accepted_or_refused _ Disk refl (sym a.answer ∙ f.answer))
  comes_alike reopens reach reaches fair (inl a) (inr (inr f)) = absurd (f.unknown tt)
  comes_alike reopens reach reaches fair (inr (inl f)) (inl b) = absurd (accepted_or_refused _ Disk refl (sym b.answer ∙ f.answer))
  comes_alike reopens reach reaches fair (inr (inl f)) (inr (inl g)) = both_stay line old one other (stays_settled line old one (reaches fair) f.disk f.world) (stays_settled line old other (reaches fair) g.disk g.world)
  comes_alike reopens reach reaches fair (inr (inl f)) (inr (inr g)) = absurd (g.unknown tt)
  comes_alike reopens reach reaches fair (inr (inr f)) b = absurd (f.unknown tt)
  comes_alike reverts reach reaches fair (inl a) (inl b) = brought_alike (reaches fair) a b
  comes_alike reverts reach reaches fair (inl a) (inr (inl f)) = absurd (accepted_or_refused _ (Damaged f.place) refl (sym a.answer ∙ f.answer))
  comes_alike reverts reach reaches fair (inl a) (inr (inr f)) = absurd (accepted_or_refused _ Disk refl (sym a.answer ∙ f.answer))
  comes_alike reverts reach reaches fair (inr (inl f)) (inl b) = absurd (accepted_or_refused _ (Damaged f.place) refl (sym b.answer ∙ f.answer))
  comes_alike reverts reach reaches fair (inr (inl f)) (inr (inl g)) = both_stay line old one other (stays_read line old one (reaches fair) f.disk f.world) (stays_read line old other (reaches fair) g.disk g.world)
  comes_alike reverts reach reaches fair (inr (inl f)) (inr (inr g)) = both_stay line old one other (stays_read line old one (reaches fair) f.disk f.world) (stays_read line old other (reaches fair) g.disk g.world)
  comes_alike reverts reach reaches fair (inr (inr f)) (inl b) = absurd (accepted_or_refused _ Disk refl (sym b.answer ∙ f.answer))
  comes_alike reverts reach reaches fair (inr (inr f)) (inr (inl g)) = both_stay line old one other (stays_read line old one (reaches fair) f.disk f.world) (stays_read line old other (reaches fair) g.disk g.world)
  comes_alike reverts reach reaches fair (inr (inr f)) (inr (inr g)) = both_stay line old one other (stays_read line old one (reaches fair) f.disk f.world) (stays_read line old other (reaches fair) g.disk g.world)

  module _ (viewers : List Meaning) where
    memory_of : (new : State World) (command : Command) → Reads line command → reply ≡ reply_bytes (Refused Memory) → Comes (Unit {0}) (outcome_of viewers old.world command) old reply new → Stays line old new
    memory_of new command reads is comes =
        memory_stays line old new (outcome_of viewers old.world command) (reach_of command) reply (reaches_disk line command reads) (fair_of viewers old.world command) is comes

    came_alike : Came viewers old line reply one → Came viewers old line reply other → AreAlike line one other
    came_alike (refused e offends s) (refused f offends_too t) = both_stay line old one other s t
    came_alike (refused e offends s) (lacked is t) = both_stay line old one other s t
    came_alike (refused e offends s) (came command reads comes) = absurd (laws.not_both line command e reads offends)
    came_alike (lacked is s) (refused f offends t) = both_stay line old one other s t
    came_alike (lacked is s) (lacked too t) = both_stay line old one other s t
    came_alike (lacked is s) (came command reads comes) = both_stay line old one other s (memory_of other command reads is comes)
    came_alike (came command reads comes) (refused f offends t) = absurd (laws.not_both line command f reads offends)
    came_alike (came command reads comes) (lacked is t) = both_stay line old one other (memory_of one command reads is comes) t
    came_alike (came c reads comes) (came d reads_too comes_too) =
        let same = same_outcome viewers old.world d c (laws.call line d c reads_too reads) in
        comes_alike (outcome_of viewers old.world c) (reach_of c) (reaches_disk line c reads) (fair_of viewers old.world c) comes
        (subst (λ (o : Outcome). Comes (Unit {0}) o old reply other) same comes_too)

stays_same : (line : List ℕ) (old new : State World) → new ≡ old → Stays line old new
stays_same line old new same = record { world = ap (λ (s : State World). s.world) same; disk = λ unshut. ap (λ (s : State World). s.disk) same; same = λ off. same }

pub answers_alike : OneAnswer → (viewers : List Meaning) (old one other : State World) (line reply : List ℕ) → Answers (machine viewers) old line reply one → Answers (machine viewers) old line reply other → AreAlike line one other
answers_alike laws viewers old one other line reply (inl a) (inl b) = both_stay line old one other (stays_same line old one a.2) (stays_same line old other b.2)
answers_alike laws viewers old one other line reply (inl a) (inr b) = absurd (b.0 a.0)
answers_alike laws viewers old one other line reply (inr a) (inl b) = absurd (a.0 b.0)
answers_alike laws viewers old one other line reply (inr a) (inr b) =
    came_alike laws line old one other reply viewers (came_of viewers old line reply one a.1) (came_of viewers old line reply other b.1)
