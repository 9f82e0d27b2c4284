-- What is known of an aside disk after a sync, and after one that failed.
use Rattle.std.proofs.Common.{◌≡◌, refl, sym, ◌∙◌, ap, subst, ℕ, ◌+◌, ◌-◌, ◌%◌, ◌^◌, ◌<◌, ◌≤◌, inl, inr, ⊎_elim, true, false, List, [], ◌∷◌, ◌++◌, length, arith, Option, Some, Result, Ok, Err}
use Rattle.std.proofs.lemmas.Bool.{false≢true}
use Rattle.std.proofs.lemmas.List.{append_assoc, append-nil}
use Rattle.host_io.specs.Disk.{DiskState, IsImage, IsSettled, settled}
use Rattle.host_io.specs.Calls.{StandsStill, Syncs}
use Rattle.host_io.specs.Outside.{Moment, Outside}
use Rattle.host_io.specs.Ranges.{bytes_in}
use Rattle.host_io.proofs.Images.{IsSettled-settled, IsSound-settled}
use Rattle.host_io.proofs.Moments.{steps, weaker}
use Rattle.host_io.proofs.Ranges.{bytes_agree, writes_only_begins}
use Rattle.commit_marks.specs.declared.mark.Mark.{Mark}
use Rattle.commit_marks.specs.declared.mark.Marks.{Marks}
use Rattle.commit_marks.specs.Marks.{other_slot, slot_range}
use Rattle.commit_marks.proofs.Chosen.{marks_unique}
use Rattle.aside_disk.specs.declared.error.BaseRecord.{BaseRecord}
use Rattle.aside_disk.specs.declared.error.AsideError.{AsideError}
use Rattle.aside_disk.specs.declared.error.AsideError.TheVariants as aside
use Rattle.aside_disk.specs.declared.log.Log.{Log}
use Rattle.aside_disk.specs.Records.{Entry, Fit, Spells, applied}
use Rattle.aside_disk.specs.Logical.{HasLog, Logical, record_of, records_range}
use Rattle.aside_disk.specs.Refusals.{AreLogMarks}
use Rattle.aside_disk.specs.Opening.{GivesLogMarks}
use Rattle.aside_disk.specs.Phases.{IsInPhase, IsNext, tail_range}
use Rattle.aside_disk.specs.Committing.{Commits, IsBehind, IsDue}
use Rattle.aside_disk.specs.Shown.{Seen, rested}
use Rattle.aside_disk.specs.Tie.{ShowsAt}
use Rattle.aside_disk.specs.Told.{EachFile, Ends, IsSpent, IsTold, IsWell, Told}
use Rattle.aside_disk.specs.declared.error.SyncError.TheVariants.{Refused}
use Rattle.aside_disk.specs.Syncing.{IsSpentAt, KeepsTold, sync_error_of}
use Rattle.aside_disk.proofs.Excluded.{marks_of_log}
use Rattle.aside_disk.proofs.Spelled.{applied_append, one_spelling}
use Rattle.aside_disk.proofs.Phases.{apart, other_low}
use Rattle.aside_disk.proofs.Ties.{tie_stays, tie_steps}
use Rattle.aside_disk.proofs.Told.{Holds, Lies, at_rest, behind_log, each_rest, holds_shows, last, lies_hold, lies_settle, lies_sound, shows_by, shows_lies, told_still}

-- one moment came, in which all was synced
pub record Rests (lower new : Outside) : Type 0 where
  pub disk : new.now.disk ≡ settled lower.now.disk.seen
  pub said : new.now.said ≡ lower.now.said
  pub past : new.past ≡ lower.now ∷ lower.past

module _ (base : List ℕ) (number : ℕ) (log : Log) (lower_since upper_since : ℕ) (lower : Outside) (seen : Seen) (is : IsTold base number log lower_since upper_since lower seen) where
  abbrev kept : BaseRecord
  kept = record_of base number

  abbrev t : Told base number log lower.now.disk seen.now.disk
  t = is.told

  abbrev all : List Entry
  all = t.old ++ t.more

  -- a sync has begun
  pub told_unsure : IsTold base number (record log { unsure = true }) lower_since upper_since lower seen
  told_unsure = record {
    tie = is.tie;
    told = record {
      old = t.old;
      more = t.more;
      seen = t.seen;
      files = t.files;
      fit = t.fit;
      low = t.low;
      lies = ⊎_elim (λ behind. inl behind)
          (λ half. inr (record { unsure = refl; next = half.next; done = half.done; left = half.left; parts = half.parts; follows = half.follows; reach = half.reach; phase = half.phase })) t.lies;
      ends = t.ends;
    };
    len_is = is.len_is;
  }

  -- where none has, the log is known
  pub sure_behind : log.unsure ≡ false → IsBehind kept log.marks.slot log.marks.chosen log.marks.other t.old lower.now.disk
  sure_behind sure = ⊎_elim (λ behind. behind) (λ half. absurd (false≢true (sym sure ∙ half.unsure))) t.lies

  -- the last number has no next one, so the log is known there too
  pub last_behind : log.marks.chosen.number ≡ 2 ^ 63 - 1 → IsBehind kept log.marks.slot log.marks.chosen log.marks.other t.old lower.now.disk
  last_behind at_last = ⊎_elim (λ behind. behind) (λ half. absurd (let n = half.follows.number in let g = half.follows.good.number in omega (arith, at_last, n, g))) t.lies

  holds_seen : Holds kept t.old t.more log.end lower.now.disk.seen
  holds_seen = lies_hold kept log t.old t.more lower.now.disk lower.now.disk.seen t.low t.ends.longer t.lies (lies_sound kept log t.old t.more lower.now.disk t.low t.lies)

  -- ---- the disk alone was synced
  module _ (new : Outside) (rests : Rests lower new) where
    lies_rest : Lies kept log t.old t.more new.now.disk
    lies_rest = subst (λ (d : DiskState). Lies kept log t.old t.more d) (sym rests.disk) (lies_settle kept log t.old t.more lower.now.disk t.low t.lies)

    seen_is : new.now.disk.seen ≡ lower.now.disk.seen
    seen_is = ap (λ (d : DiskState). d.seen) rests.disk

    shows_rest : ShowsAt (Logical base number) seen.now new.now
    shows_rest = shows_lies base number log lower_since upper_since lower seen is new.now rests.said lies_rest

    pub told_rests : IsTold base number log lower_since upper_since new seen
    told_rests = record {
      tie = tie_stays is.tie (steps rests.past shows_rest) shows_rest;
      told = record {
        old = t.old;
        more = t.more;
        seen = t.seen;
        files = t.files;
        fit = t.fit;
        low = t.low;
        lies = lies_rest;
        ends = subst (λ (l : List ℕ). Ends log.marks.chosen log.end all l) (sym seen_is) t.ends;
      };
      len_is = is.len_is;
    }

    -- the marks that are read are those of a log
    pub marks_accepted : (place : ℕ) → GivesLogMarks new.now.disk.seen (Err (aside.At place)) → ⊥
    marks_accepted place refuses = marks_of_log kept lower.now.disk.seen holds_seen.slot holds_seen.chosen holds_seen.other (t.old ++ holds_seen.done) holds_seen.has place
        (subst (λ (l : List ℕ). GivesLogMarks l (Err (aside.At place))) seen_is refuses)

    -- and say how far the sync came
    pub told_found : (marks : Marks) → AreLogMarks new.now.disk.seen marks.slot marks.chosen marks.other → IsTold base number (record log { marks = marks; unsure = false }) lower_since upper_since new seen
    told_found marks are =
        let h = holds_seen in
        let found : AreLogMarks lower.now.disk.seen marks.slot marks.chosen marks.other = subst (λ (l : List ℕ). AreLogMarks l marks.slot marks.chosen marks.other) seen_is are in
        let u = marks_unique lower.now.disk.seen h.slot marks.slot h.chosen marks.chosen h.other marks.other h.has.chooses found.marks.chooses in
        let has : HasLog kept lower.now.disk.seen marks.slot marks.chosen marks.other (t.old ++ h.done) =
        subst (λ (s : ℕ). HasLog kept lower.now.disk.seen s marks.chosen marks.other (t.old ++ h.done)) u.0
        (subst (λ (m : Mark). HasLog kept lower.now.disk.seen h.slot m marks.other (t.old ++ h.done)) u.1
        (subst (λ (o : Option Mark). HasLog kept lower.now.disk.seen h.slot h.chosen o (t.old ++ h.done)) u.2 h.has)) in
        let all_is : t.old ++ t.more ≡ (t.old ++ h.done) ++ h.left = ap (λ (l : List Entry). t.old ++ l) h.parts ∙ sym (append_assoc t.old h.done h.left) in
        record {
          tie = tie_stays is.tie (steps rests.past shows_rest) shows_rest;
          told = record {
            old = t.old ++ h.done;
            more = h.left;
            seen = t.seen ∙ ap (λ (l : List Entry). applied base l) all_is;
            files = subst (λ (f : List ℕ). EachFile seen.now.disk f h.left) (sym (applied_append base t.old h.done))
                (each_rest seen.now.disk (applied base t.old) h.done h.left (subst (λ (l : List Entry). EachFile seen.now.disk (applied base t.old) l) h.parts t.files));
            fit = subst (λ (l : List Entry). Fit (length base) l) all_is t.fit;
            low = found.marks.chooses.low;
            lies = inl (subst (λ (d : DiskState). IsBehind kept marks.slot marks.chosen marks.other (t.old ++ h.done) d) (sym rests.disk)
                (at_rest kept (record log { marks = marks; unsure = false }) (t.old ++ h.done) h.left lower.now.disk.seen has));
            ends = record {
              based = let b = found.rules.based in let e = found.rules.end in omega (arith, b, e);
              longer = let r = h.reach in let m = ap (λ (m : Mark). m.end) u.1 in omega (arith, r, m);
              long = subst (λ (l : List ℕ). log.end ≤ length l) (sym seen_is) t.ends.long;
              spells = subst (λ (l : List Entry). Spells l (bytes_in new.now.disk.seen (records_range log.end))) all_is
                  (subst (λ (l : List ℕ). Spells all (bytes_in l (records_range log.end))) (sym seen_is) t.ends.spells);
            };
          };
          len_is = is.len_is;
        }

    -- Where no record was added the upper disk is synced by it.
    pub told_idle : log.unsure ≡ false → log.end ≡ log.marks.chosen.end → IsTold base number (record log { unsure = false }) lower_since upper_since new (rested seen)
    told_idle sure ended =
        let behind = sure_behind sure in
        let has : HasLog kept lower.now.disk.seen log.marks.slot log.marks.chosen log.marks.other t.old = behind_log kept log t.old t.more lower.now.disk lower.now.disk.seen behind behind.only.sound in
        let same : t.old ≡ all = one_spelling (length base) (length base) all t.old (bytes_in lower.now.disk.seen (records_range log.end)) t.fit has.fit t.ends.spells
        (subst (λ (e : ℕ). Spells t.old (bytes_in lower.now.disk.seen (records_range e))) (sym ended) has.spells) in
        let has_all : HasLog kept lower.now.disk.seen log.marks.slot log.marks.chosen log.marks.other all = subst (λ (l : List Entry). HasLog kept lower.now.disk.seen log.marks.slot log.marks.chosen log.marks.other l) same has in
        let file : IsImage (rested seen).now.disk (applied base all) = subst (λ (l : List ℕ). IsImage (rested seen).now.disk l) t.seen (IsSound-settled (rested seen).now.disk (IsSettled-settled seen.now.disk.seen)) in
        let behind_all : IsBehind kept log.marks.slot log.marks.chosen log.marks.other all new.now.disk = subst (λ (d : DiskState). IsBehind kept log.marks.slot log.marks.chosen log.marks.other all d) (sym rests.disk) (at_rest kept log all [] lower.now.disk.seen has_all) in
        record {
          tie = tie_steps is.tie refl (steps rests.past (inl shows_rest)) (record {
            said = rests.said ∙ sym is.tie.said;
            images = λ image left. holds_shows base number all [] log.end (rested seen).now.disk image file (lies_hold kept log all [] new.now.disk image t.low t.ends.longer (inl behind_all) left);
          });
          told = record {
            old = all;
            more = [];
            seen = t.seen ∙ ap (λ (l : List Entry). applied base l) (sym (append-nil all));
            files = file;
            fit = subst (λ (l : List Entry). Fit (length base) l) (sym (append-nil all)) t.fit;
            low = t.low;
            lies = inl behind_all;
            ends = subst (λ (l : List Entry). Ends log.marks.chosen log.end l new.now.disk.seen) (sym (append-nil all)) (subst (λ (l : List ℕ). Ends log.marks.chosen log.end all l) (sym seen_is) t.ends);
          };
          len_is = is.len_is;
        }

    -- ---- the same, in one fact
    spent_rests : IsSpentAt log base lower → IsSpentAt log base new
    spent_rests spent = subst (λ (l : List ℕ). IsSpent log.marks.chosen.number (length base) (length l)) (sym seen_is) spent

    pub keeps_rests : (late : Outside) → StandsStill new late → KeepsTold base number log log lower_since upper_since lower late seen seen
    keeps_rests late still = record {
      told = told_still base number log lower_since upper_since new seen told_rests late still;
      spent = λ spent. subst (λ (m : Moment). IsSpent log.marks.chosen.number (length base) (length m.disk.seen)) (sym still.now) (spent_rests spent);
    }

    pub keeps_found : (late : Outside) → StandsStill new late → (marks : Marks) → AreLogMarks new.now.disk.seen marks.slot marks.chosen marks.other
        → KeepsTold base number log (record log { marks = marks; unsure = false }) lower_since upper_since lower late seen seen
    keeps_found late still marks are = record {
      told = told_still base number (record log { marks = marks; unsure = false }) lower_since upper_since new seen (told_found marks are) late still;
      spent = λ spent. subst (λ (m : Moment). IsSpent marks.chosen.number (length base) (length m.disk.seen)) (sym still.now) (⊎_elim (λ at_last. inl (same_number at_last)) (λ long. inr (subst (λ (l : List ℕ). 2 ^ 63 - 8192 < length base + length l) (sym seen_is) long)) spent);
    } where
      same_number : log.marks.chosen.number ≡ 2 ^ 63 - 1 → marks.chosen.number ≡ 2 ^ 63 - 1
      same_number at_last =
          let behind = last_behind at_last in
          let has : HasLog kept lower.now.disk.seen log.marks.slot log.marks.chosen log.marks.other t.old = behind_log kept log t.old t.more lower.now.disk lower.now.disk.seen behind behind.only.sound in
          let found : AreLogMarks lower.now.disk.seen marks.slot marks.chosen marks.other = subst (λ (l : List ℕ). AreLogMarks l marks.slot marks.chosen marks.other) seen_is are in
          sym (ap (λ (m : Mark). m.number) (marks_unique lower.now.disk.seen log.marks.slot marks.slot log.marks.chosen marks.chosen log.marks.other marks.other has.chooses found.marks.chooses).1) ∙ at_last

    pub never_refused : (a : AsideError) → GivesLogMarks new.now.disk.seen (Err a) → sync_error_of a ≡ Refused → ⊥
    never_refused (aside.At place) gives same = marks_accepted place gives
    never_refused (aside.OtherBase one two) gives same = gives
    never_refused aside.Failed gives same = cc

    pub keeps_idle : log.unsure ≡ false → log.end ≡ log.marks.chosen.end → KeepsTold base number log (record log { unsure = false }) lower_since upper_since lower new seen (rested seen)
    keeps_idle sure ended = record { told = told_idle sure ended; spent = spent_rests }

  -- no moment came
  pub keeps_still : (new : Outside) → StandsStill lower new → KeepsTold base number log log lower_since upper_since lower new seen seen
  keeps_still new still = record {
    told = told_still base number log lower_since upper_since lower seen is new still;
    spent = λ spent. subst (λ (m : Moment). IsSpent log.marks.chosen.number (length base) (length m.disk.seen)) (sym still.now) spent;
  }

  -- ---- the records behind the log were to be committed by this mark
  module _ (well : IsWell log) (sure : log.unsure ≡ false) (next : Mark) (version : next.version ≡ 1) (number_is : next.number ≡ log.marks.chosen.number + 1) (place : next.place ≡ 192)
      (len_so : next.len ≡ log.end - 192) (end_so : next.end ≡ log.end) (room : log.marks.chosen.number < 2 ^ 63 - 1) where
    follows : IsNext kept log.marks.chosen next t.old t.more
    follows = record {
      good = record { version = inl version; number = omega (arith, number_is, room); place = omega (arith, place); len = let e = well.end_fits in omega (arith, len_so, e); end = let e = well.end_fits in omega (arith, end_so, e) };
      rules = record {
        version = version;
        place = place;
        aligned = subst (λ (k : ℕ). k % 16 ≡ 0) (sym len_so) well.aligned;
        based = let b = well.based in omega (arith, len_so, b);
        end = let b = well.based in omega (arith, len_so, end_so, b);
        bound = let e = well.end_fits in omega (arith, end_so, e);
      };
      number = omega (arith, number_is);
      longer = let l = t.ends.longer in omega (arith, l, end_so);
      fit = t.fit;
    }

    pub due : IsDue kept log.marks.slot log.marks.chosen next log.marks.other t.old t.more lower.now.disk
    due = record {
      behind = sure_behind sure;
      follows = follows;
      there = record { long = let l = t.ends.long in omega (arith, l, end_so); spells = subst (λ (e : ℕ). Spells all (bytes_in lower.now.disk.seen (records_range e))) (sym end_so) t.ends.spells };
    }

    module _ (T E : Type 0) (result : Result T E) (new : Outside) (commits : Commits kept log.marks.slot log.marks.chosen next log.marks.other t.old t.more lower new result) where
      abbrev unsure : Log
      unsure = record log { unsure = true }

      phase_lies : (disk : DiskState) → IsInPhase kept log.marks.slot log.marks.chosen next log.marks.other t.old t.more disk → Lies kept unsure t.old t.more disk
      phase_lies disk phase = inr (record { unsure = refl; next = next; done = t.more; left = []; parts = sym (append-nil t.more); follows = follows; reach = omega (arith, end_so); phase = phase })

      shows_phase : (at : Moment) → (at.said ≡ lower.now.said) × IsInPhase kept log.marks.slot log.marks.chosen next log.marks.other t.old t.more at.disk → ShowsAt (Logical base number) seen.now at
      shows_phase at p = shows_by base number log lower_since upper_since lower seen is at p.0 (λ image left. lies_hold kept unsure t.old t.more at.disk image t.low t.ends.longer (phase_lies at.disk p.1) left)

      same_log : bytes_in new.now.disk.seen (records_range log.end) ≡ bytes_in lower.now.disk.seen (records_range log.end)
      same_log = bytes_agree (slot_range (other_slot log.marks.slot) ∷ []) lower.now.disk.seen new.now.disk.seen (records_range log.end) commits.places
          (apart (slot_range (other_slot log.marks.slot)) (records_range log.end) (inl (omega arith))) (let l = t.ends.long in let b = well.based in omega (arith, l, b))

      long_on : log.end ≤ length new.now.disk.seen
      long_on = let l = t.ends.long in let a = commits.places.no_shorter in omega (arith, l, a)

      pub longer_on : length lower.now.disk.seen ≤ length new.now.disk.seen
      longer_on = commits.places.no_shorter

      -- It failed: a crash leaves what the upper disk may leave, and the next sync has to look how far it came.
      pub told_halfway : IsTold base number (record log { unsure = true }) lower_since upper_since new seen
      told_halfway = record {
        tie = tie_stays is.tie (weaker shows_phase commits.moments) (shows_phase new.now (commits.said, commits.now));
        told = record {
          old = t.old;
          more = t.more;
          seen = t.seen;
          files = t.files;
          fit = t.fit;
          low = t.low;
          lies = phase_lies new.now.disk commits.now;
          ends = record { based = t.ends.based; longer = t.ends.longer; long = long_on; spells = subst (λ (l : List ℕ). Spells all l) (sym same_log) t.ends.spells };
        };
        len_is = is.len_is;
      }

      spent_on : (last : ℕ) → IsSpentAt log base lower → IsSpent last (length base) (length new.now.disk.seen)
      spent_on last spent = ⊎_elim (λ at_last. absurd (omega (arith, at_last, room))) (λ long. inr (let l = longer_on in omega (arith, long, l))) spent

      pub keeps_halfway : KeepsTold base number log (record log { unsure = true }) lower_since upper_since lower new seen seen
      keeps_halfway = record { told = told_halfway; spent = spent_on log.marks.chosen.number }

      -- It succeeded.
      module _ (rests : IsSettled new.now.disk) (has : HasLog kept new.now.disk.seen (other_slot log.marks.slot) next (Some log.marks.chosen) all) where
        abbrev committed : Log
        committed = record log { marks = record { chosen = next; slot = other_slot log.marks.slot; other = Some log.marks.chosen }; unsure = false }

        file : IsImage (rested seen).now.disk (applied base all)
        file = subst (λ (l : List ℕ). IsImage (rested seen).now.disk l) t.seen (IsSound-settled (rested seen).now.disk (IsSettled-settled seen.now.disk.seen))

        lies_all : Lies kept committed all [] new.now.disk
        lies_all = inl (record { synced = new.now.disk.seen; reach = 0; has = has; only = writes_only_begins (tail_range next.end 0 ∷ []) new.now.disk rests })

        pub told_commits : IsTold base number committed lower_since upper_since new (rested seen)
        told_commits = record {
          tie = tie_steps is.tie refl (weaker (λ at p. inl (shows_phase at p)) commits.moments) (record {
            said = commits.said ∙ sym is.tie.said;
            images = λ image left. holds_shows base number all [] log.end (rested seen).now.disk image file (lies_hold kept committed all [] new.now.disk image (other_low log.marks.slot) (omega (arith, end_so)) lies_all left);
          });
          told = record {
            old = all;
            more = [];
            seen = t.seen ∙ ap (λ (l : List Entry). applied base l) (sym (append-nil all));
            files = file;
            fit = subst (λ (l : List Entry). Fit (length base) l) (sym (append-nil all)) t.fit;
            low = other_low log.marks.slot;
            lies = lies_all;
            ends = record {
              based = let b = well.based in omega (arith, b, end_so);
              longer = omega (arith, end_so);
              long = long_on;
              spells = subst (λ (l : List Entry). Spells l (bytes_in new.now.disk.seen (records_range log.end))) (sym (append-nil all)) (subst (λ (l : List ℕ). Spells all l) (sym same_log) t.ends.spells);
            };
          };
          len_is = is.len_is;
        }

        pub keeps_commits : KeepsTold base number log committed lower_since upper_since lower new seen (rested seen)
        keeps_commits = record { told = told_commits; spent = spent_on next.number }

-- a sync that succeeded
pub rests_syncs : {T E : Type 0} {x : T} {lower new : Outside} → Syncs {E = E} lower new (Ok x) → Rests lower new
rests_syncs syncs = record { disk = syncs.ok.0; said = syncs.ok.1; past = syncs.ok.2 }

-- one step, and the next
pub keeps_joins : {base : List ℕ} {number lower_since upper_since : ℕ} {was mid is : Log} {old between new : Outside} {seen after : Seen} → KeepsTold base number was mid lower_since upper_since old between seen seen
    → KeepsTold base number mid is lower_since upper_since between new seen after → KeepsTold base number was is lower_since upper_since old new seen after
keeps_joins first then = record { told = then.told; spent = λ spent. then.spent (first.spent spent) }
