-- What a store is seen as, and what its calls leave of it.
use Rattle.std.specs.Prelude.{◌≡◌, ℕ, ◌^◌, ◌<◌, ◌≤◌, List, [], Option, None, Some, Bool, if◌then◌else◌, ◌==◌, All}
use Rattle.std.specs.Option.{is_some, option_map}
use Rattle.commit_marks.specs.declared.mark.Mark.{Mark}
use Rattle.commit_marks.specs.Marks.{other_slot}
use Rattle.commit_writes.specs.Phases.{IsAtRest}
use Rattle.free_space.specs.Sites.{first_place}
use Rattle.host_io.specs.Disk.{DiskState}
use Rattle.tables.specs.Shapes.{HasHomes}
use Rattle.view_store.specs.Rests.{ViewsRestOn}
use Rattle.view_store.specs.Views.{AreViews, NamedTable}
use Rattle.recovery.specs.Commits.{Commit, IsCommit, footprint_of, mark_of}
use Rattle.storage.specs.declared.mode.Mode.{Mode}
use Rattle.storage.specs.declared.mode.Mode.TheVariants.{Write, Extend, Read}
use Rattle.storage.specs.NewStore.{new_commit}

pub record Stored : Type 0 where
  -- the views that are edited
  pub views : List NamedTable
  -- the commit that the file stands for
  pub kept : Commit
  -- the number of the commit before, where the file still has it
  pub before : Option ℕ
  -- the commit that failed under way: the file may stand for it or for the one that is kept, and the store is shut
  pub attempted : Option Commit
  -- the slot of the mark of the commit that is kept, and the mark of the other slot, where that is open
  pub slot : ℕ
  pub other : Option Mark
  pub mode : Mode
  pub cap : ℕ

abbrev pub is_shut : Stored → Bool
is_shut s = is_some s.attempted

-- where the first block of a commit may stand
abbrev pub floor_of : Mode → ℕ → ℕ
floor_of Write end = first_place
floor_of Extend end = end
floor_of Read end = first_place

-- the other slot has the mark of this number
abbrev pub HasNumber : ℕ → Option Mark → Type 0
HasNumber number other = option_map (λ m. m.number) other ≡ Some number

-- What a store keeps: the commit is whole, the views rest on those that it keeps, and a commit before has its mark in the other slot.
pub record IsStore (s : Stored) : Type 0 where
  pub kept : IsCommit s.kept
  pub views_are : AreViews s.views
  pub shaped : All (λ v. HasHomes v.table) s.views
  pub rests : ViewsRestOn s.views s.kept.views
  pub low : s.slot ≤ 1
  pub beside : (number : ℕ) → s.before ≡ Some number → HasNumber number s.other
  pub capped : s.cap < 2 ^ 63

-- The disk is as the store knows it: nothing is pending, the file chooses the mark of the commit that is kept, whose blocks are there,
-- and the other slot is as the store says.
abbrev pub Rests : Stored → DiskState → Type 0
Rests s disk = IsAtRest (footprint_of s.kept) s.slot s.other disk

-- a store that was made in an empty file
abbrev pub new_store : Mode → ℕ → Stored
new_store mode cap = record {
  views = [];
  kept = new_commit;
  before = None;
  attempted = None;
  slot = 0;
  other = None;
  mode = mode;
  cap = cap;
}

-- the store of a file that stands for the commit and has these marks
abbrev pub opened_store : Commit → ℕ → Option Mark → Mode → ℕ → Stored
opened_store kept slot other mode cap = record {
  views = kept.views;
  kept = kept;
  before = option_map (λ m. m.number) other;
  attempted = None;
  slot = slot;
  other = other;
  mode = mode;
  cap = cap;
}

-- The commit before that a store expects, once its file was opened anew and stands for the commit of this number: the same one as
-- before. Where the store was shut it is the one that was kept, if the one that was attempted stands, and else none.
abbrev pub before_expected : Stored → ℕ → Option ℕ
before_expected s number = if is_shut s then (if number == s.kept.number then None else Some s.kept.number) else s.before

-- this number, where the other slot has its mark
abbrev pub if_marked : Option ℕ → Option Mark → Option ℕ
if_marked None other = None
if_marked (Some number) None = None
if_marked (Some number) (Some m) = if m.number == number then Some number else None

-- The commit before, after a file was opened anew, which has this mark in its other slot: the one that is expected, where that is its mark.
abbrev pub before_reopened : Stored → ℕ → Option Mark → Option ℕ
before_reopened s number other = if_marked (before_expected s number) other

-- a store after its file was opened anew, and stands for the commit
abbrev pub reopened : Stored → Commit → ℕ → Option Mark → Stored
reopened s c slot other = record s {
  views = c.views;
  kept = c;
  before = before_reopened s c.number other;
  attempted = None;
  slot = slot;
  other = other;
}

-- a store after its next commit
abbrev pub committed : Stored → Commit → Stored
committed s next = record s {
  views = next.views;
  kept = next;
  before = Some s.kept.number;
  attempted = None;
  slot = other_slot s.slot;
  other = Some (mark_of s.kept);
}

-- a store after a commit that failed under way
abbrev pub failed : Stored → Commit → Stored
failed s next = record s { attempted = Some next }

-- a store whose views were edited
abbrev pub with_views : Stored → List NamedTable → Stored
with_views s views = record s { views = views }

-- a store whose edits since the last commit are given up
abbrev pub rolled_back : Stored → Stored
rolled_back s = record s { views = s.kept.views }
