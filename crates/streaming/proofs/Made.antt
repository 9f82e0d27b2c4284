-- What is known of a store that is made of views without homes.
use Rattle.std.proofs.Common.{◌≡◌, ◌≢◌, ℕ, ◌≤◌, List, [], ◌∷◌, ◌++◌, Result, Ok, Err, None, inr, refl, ap, ◌∙◌, arith}
use Rattle.std.proofs.lemmas.List.Elements.{All-head, All-tail}
use Rattle.std.specs.Prelude.{All}
use Rattle.commit_plan.specs.Plans.{IsPlanOf, Planned, last_number}
use Rattle.commit_writes.specs.Carrying.{file_after}
use Rattle.free_space.specs.Sites.{first_place}
use Rattle.host_io.specs.Calls.{CountsDisk}
use Rattle.host_io.specs.Disk.{DiskState, settled}
use Rattle.host_io.specs.Outside.{Goes, Moment, Outside}
use Rattle.host_io.proofs.Moments.{joins, weaker}
use Rattle.recovery.specs.Commits.{mark_of}
use Rattle.storage.specs.Committing.{Commits, IsUnderWay}
use Rattle.storage.specs.NewStore.{new_commit, new_file}
use Rattle.storage.specs.Planning.{IsRefusedFor}
use Rattle.storage.specs.Stored.{Stored, floor_of, new_store}
use Rattle.storage.specs.declared.error.PlanError.{PlanError}
use Rattle.storage.specs.declared.error.PlanError.TheVariants as plan_error
use Rattle.storage.specs.declared.mode.Mode.TheVariants.{Write, Read}
use Rattle.tables.specs.Tables.{HasNoHomes}
use Rattle.tables.proofs.Resting.{Rest-none, homed_columns-empty}
use Rattle.view_store.specs.Rests.{ViewsRestOn, homed_views}
use Rattle.view_store.specs.Views.{NamedTable}
use Rattle.streaming.specs.Causes.{IsOfNewStore, fault_of_plan}
use Rattle.streaming.specs.Loading.{ComesOfViews, MakesStore}
use Rattle.streaming.specs.Silence.{GoesInSilence}

-- views none of which has a home rest on any
homeless : (views : List NamedTable) → All (λ v. HasNoHomes v.table) views → homed_views views ≡ []
homeless [] none = refl
homeless (v ∷ views) none =
    let P : NamedTable → Type 0 = λ v. HasNoHomes v.table in
    ap (λ cs. cs ++ homed_views views) (homed_columns-empty v.table (All-head P v views none)) ∙ homeless views (All-tail P v views none)

pub homeless_rests : (views old : List NamedTable) → All (λ v. HasNoHomes v.table) views → ViewsRestOn views old
homeless_rests views old none = Rest-none (homed_views views) (homed_views old) (homeless views none)

-- a store that was just made, with these views
abbrev pub with_first_views : ℕ → List NamedTable → Stored
with_first_views cap views = record (new_store Write cap) { views = views }

pub is_first : (cap : ℕ) (views : List NamedTable) (made put : Stored) → made ≡ new_store Write cap → put ≡ record made { views = views } → put ≡ with_first_views cap views
is_first cap views made put is given = rw is at given

pub silence_of : {T E : Type 0} {result : Result T E} (old new : Outside) → CountsDisk old new result → new.now.said ≡ old.now.said → new.input ≡ old.input → Goes (λ at. at.said ≡ old.now.said) old new → GoesInSilence old new
silence_of old new counts said input moments = record { said = said; input = input; moments = moments; disk_faults = counts.disk.later; take_faults = counts.takes; say_faults = counts.says }

pub silence_joins : (old mid new : Outside) → GoesInSilence old mid → GoesInSilence mid new → GoesInSilence old new
silence_joins old mid new first then =
    let a = first.disk_faults in let b = then.disk_faults in
    record {
      said = then.said ∙ first.said;
      input = then.input ∙ first.input;
      moments = joins first.moments (weaker (λ (at : Moment) (same : at.said ≡ mid.now.said). same ∙ first.said) then.moments);
      disk_faults = omega arith;
      take_faults = then.take_faults ∙ first.take_faults;
      say_faults = then.say_faults ∙ first.say_faults;
    }

-- a commit says nothing
pub commits_in_silence : {T E : Type 0} {result : Result T E} (s : Stored) (p : Planned) (old new : Outside) → CountsDisk old new result → Commits s p old new result → GoesInSilence old new
commits_in_silence s p old new counts commits =
    silence_of old new counts commits.said commits.input (weaker (λ (at : Moment) (way : IsUnderWay s p old at). way.silent) commits.moments)

no_read : Write ≡ Read → ⊥
no_read is = cc

no_last : (Write ≢ Read) × (0 ≡ last_number) → ⊥
no_last is = omega (arith, is.1)

module _ (cap : ℕ) (views : List NamedTable) (old made : Outside) (silence : GoesInSilence old made) (disk : made.now.disk ≡ settled new_file) where
  makes_of : {T E : Type 0} (value : T) (p : Planned) (new : Outside) → IsPlanOf first_place new_commit views [] p → p.next.end ≤ cap → CountsDisk {E = E} made new (Ok value) → Commits {E = E} (with_first_views cap views) p made new (Ok value)
      → MakesStore cap views old new
  makes_of value p new plans within counts commits = record {
    first = p;
    follows = plans;
    within = within;
    silence = silence_joins old made new silence (commits_in_silence (with_first_views cap views) p made new counts commits);
    disk = commits.file ∙ ap (λ (d : DiskState). settled (file_after 0 None p.writes (mark_of p.next) d.seen)) disk;
    stands = commits.stands;
  }

  -- the first commit was made
  pub makes : {T E : Type 0} (s : Stored) → s ≡ with_first_views cap views → (value : T) (p : Planned) (new : Outside) → IsPlanOf (floor_of s.mode s.kept.end) s.kept s.views [] p → p.next.end ≤ s.cap → CountsDisk {E = E} made new (Ok value)
      → Commits {E = E} s p made new (Ok value) → MakesStore cap views old new
  makes s is value p new plans within counts commits = makes_of value p new (rw is at plans) (rw is at within) counts (rw is at commits)

  -- or it was not planned
  pub unplanned : (s : Stored) → s ≡ with_first_views cap views → (e : PlanError) → IsRefusedFor s [] e → IsOfNewStore e × ComesOfViews cap views old made (Err (fault_of_plan e))
  unplanned s is plan_error.ReadOnly refused = absurd (no_read (rw is at refused))
  unplanned s is plan_error.LastNumber refused = absurd (no_last (rw is at refused))
  unplanned s is (plan_error.Full end limit) refused =
      let full : IsRefusedFor (with_first_views cap views) [] (plan_error.Full end limit) = rw is at refused in
      let limit_is = full.1 in
      let past = full.2 in
      (tt, record { limit_is = limit_is; past = omega (arith, limit_is, past); ends = full.3; silence = silence; made = disk })
  unplanned s is plan_error.Memory refused = (tt, record { silence = silence; left = inr disk })
