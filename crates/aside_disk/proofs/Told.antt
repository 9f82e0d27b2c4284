-- How what is known of an aside disk goes on from call to call.
use Rattle.std.proofs.Common.{◌≡◌, refl, sym, ◌∙◌, ap, subst, ℕ, ◌+◌, ◌≤◌, ◌⊎◌, inl, inr, ⊎_elim, List, [], ◌∷◌, ◌++◌, length, take, drop, take-append-drop, max, arith, Option, Some, Result}
use Rattle.std.proofs.lemmas.List.{append_assoc, append-nil}
use Rattle.host_io.specs.Disk.{DiskState, IsImage, IsSound, settled, widened}
use Rattle.host_io.specs.Calls.{StandsStill, put_bytes}
use Rattle.host_io.specs.Outside.{Goes, Moment, Outside}
use Rattle.host_io.specs.Ranges.{AreWithin, WritesWithin, bytes_in}
use Rattle.host_io.proofs.Bytes.{IsTorn-put_bytes, length-put_bytes}
use Rattle.host_io.proofs.Images.{IsImage-widened, IsSettled-settled, IsSound-torn, same_images}
use Rattle.host_io.proofs.Moments.{begins, begins_still, steps, weaker}
use Rattle.host_io.proofs.Ranges.{bytes_agree, images_agree, within_wider, writes_only_begins, writes_only_goes_on}
use Rattle.commit_marks.specs.declared.mark.Mark.{Mark}
use Rattle.commit_marks.specs.Marks.{other_slot}
use Rattle.aside_disk.specs.declared.error.BaseRecord.{BaseRecord}
use Rattle.aside_disk.specs.declared.log.Log.{Log}
use Rattle.aside_disk.specs.Records.{Entry, Fit, Fits, Spells, applied, record_len}
use Rattle.aside_disk.specs.Logical.{HasLog, Logical, record_of, records_range}
use Rattle.aside_disk.specs.Phases.{tail_range}
use Rattle.aside_disk.specs.Committing.{IsBehind}
use Rattle.aside_disk.specs.Appending.{Appends, StandsAt}
use Rattle.aside_disk.specs.Shown.{Seen, spoke, wrote}
use Rattle.aside_disk.specs.Tie.{AllShow, Shows, ShowsAt}
use Rattle.aside_disk.specs.Told.{EachFile, Ends, IsHalfway, IsTold, Told}
use Rattle.aside_disk.proofs.Spelled.{applied_append, fit_snoc, length-applied, longer_log, spells_snoc}
use Rattle.aside_disk.proofs.Phases.{means_log, tail_clear, tail_log}
use Rattle.aside_disk.proofs.Steps.{widen_only}
use Rattle.aside_disk.proofs.Resuming.{phase_found, phase_on, phase_settles, phase_sound}
use Rattle.aside_disk.proofs.Ties.{tie_stays, tie_steps}

-- ---- the files on the way

each_first : (disk : DiskState) (file : List ℕ) (entries : List Entry) → EachFile disk file entries → IsImage disk file
each_first disk file [] each = each
each_first disk file (e ∷ entries) each = each.0

each_part : (disk : DiskState) (file : List ℕ) (done left : List Entry) → EachFile disk file (done ++ left) → IsImage disk (applied file done)
each_part disk file [] left each = each_first disk file left each
each_part disk file (e ∷ done) left each = each_part disk (put_bytes file e.place e.bytes) done left each.1

pub each_rest : (disk : DiskState) (file : List ℕ) (done left : List Entry) → EachFile disk file (done ++ left) → EachFile disk (applied file done) left
each_rest disk file [] left each = each
each_rest disk file (e ∷ done) left each = each_rest disk (put_bytes file e.place e.bytes) done left each.1

each_wider : (disk wider : DiskState) → ((image : List ℕ) → IsImage disk image → IsImage wider image) → (file : List ℕ) (entries : List Entry) → EachFile disk file entries → EachFile wider file entries
each_wider disk wider more file [] each = more file each
each_wider disk wider more file (e ∷ entries) each = (more file each.0, each_wider disk wider more (put_bytes file e.place e.bytes) entries each.1)

each_snoc : (disk : DiskState) (file : List ℕ) (entries : List Entry) (entry : Entry) → EachFile disk file entries → IsImage disk (applied file (entries ++ entry ∷ [])) → EachFile disk file (entries ++ entry ∷ [])
each_snoc disk file [] entry each last = (each, last)
each_snoc disk file (e ∷ entries) entry each last = (each.0, each_snoc disk (put_bytes file e.place e.bytes) entries entry each.1 last)

-- ---- what an image holds: a log with the old records and the first of those behind it

pub record Holds (kept : BaseRecord) (old more : List Entry) (end : ℕ) (image : List ℕ) : Type 0 where
  pub slot : ℕ
  pub chosen : Mark
  pub other : Option Mark
  pub done : List Entry
  pub left : List Entry
  pub parts : more ≡ done ++ left
  pub reach : chosen.end ≤ end
  pub has : HasLog kept image slot chosen other (old ++ done)

module _ (kept : BaseRecord) (log : Log) (old more : List Entry) where
  abbrev pub Lies : DiskState → Type 0
  Lies disk = IsBehind kept log.marks.slot log.marks.chosen log.marks.other old disk ⊎ IsHalfway kept log old more disk

  pub holds_old : {image : List ℕ} {slot : ℕ} {chosen : Mark} {other : Option Mark} → chosen.end ≤ log.end → HasLog kept image slot chosen other old → Holds kept old more log.end image
  holds_old {image} {slot} {chosen} {other} reach has = record {
    slot = slot;
    chosen = chosen;
    other = other;
    done = [];
    left = more;
    parts = refl;
    reach = reach;
    has = subst (λ (l : List Entry). HasLog kept image slot chosen other l) (sym (append-nil old)) has;
  }

  pub behind_log : (disk : DiskState) (image : List ℕ) → IsBehind kept log.marks.slot log.marks.chosen log.marks.other old disk → IsImage disk image → HasLog kept image log.marks.slot log.marks.chosen log.marks.other old
  behind_log disk image behind is = tail_log kept log.marks.slot log.marks.chosen log.marks.chosen log.marks.other old old behind.has.chooses.low old behind.synced image behind.reach log.marks.slot log.marks.chosen log.marks.other behind.has.chooses.low behind.has
      (images_agree (tail_range log.marks.chosen.end behind.reach ∷ []) behind.synced disk image behind.only is)

  pub lies_hold : (disk : DiskState) (image : List ℕ) → log.marks.slot ≤ 1 → log.marks.chosen.end ≤ log.end → Lies disk → IsImage disk image → Holds kept old more log.end image
  lies_hold disk image low longer lies is = ⊎_elim
      (λ behind. holds_old longer (behind_log disk image behind is))
      (λ half. ⊎_elim (λ was. holds_old longer was) (λ others. ⊎_elim (λ shut. holds_old longer shut)
      (λ new_. record { slot = other_slot log.marks.slot; chosen = half.next; other = Some log.marks.chosen; done = half.done; left = half.left; parts = half.parts; reach = half.reach; has = new_ })
      others)
      (phase_found kept log.marks.slot log.marks.chosen half.next log.marks.other old half.done low half.follows disk image half.phase is))
      lies

  pub lies_sound : (disk : DiskState) → log.marks.slot ≤ 1 → Lies disk → IsSound disk
  lies_sound disk low lies = ⊎_elim (λ behind. behind.only.sound) (λ half. phase_sound kept log.marks.slot log.marks.chosen half.next log.marks.other old half.done low half.follows disk half.phase) lies

  -- a log that is at rest on its disk
  pub at_rest : (seen : List ℕ) → HasLog kept seen log.marks.slot log.marks.chosen log.marks.other old → IsBehind kept log.marks.slot log.marks.chosen log.marks.other old (settled seen)
  at_rest seen has = record { synced = seen; reach = 0; has = has; only = writes_only_begins (tail_range log.marks.chosen.end 0 ∷ []) (settled seen) (IsSettled-settled seen) }

  -- the disk was synced
  pub lies_settle : (disk : DiskState) → log.marks.slot ≤ 1 → Lies disk → Lies (settled disk.seen)
  lies_settle disk low lies = ⊎_elim
      (λ behind. inl (at_rest disk.seen (behind_log disk disk.seen behind behind.only.sound)))
      (λ half. inr (record {
        unsure = half.unsure;
        next = half.next;
        done = half.done;
        left = half.left;
        parts = half.parts;
        follows = half.follows;
        reach = half.reach;
        phase = phase_settles kept log.marks.slot log.marks.chosen half.next log.marks.other old half.done low half.follows disk half.phase;
      }))
      lies

  -- bytes were written behind the log
  pub lies_on : (n : ℕ) (was is : DiskState) → log.marks.slot ≤ 1 → log.marks.chosen.end ≤ log.end → WritesWithin (tail_range log.end n ∷ []) was is → Lies was → Lies is
  lies_on n was is low longer writes lies = ⊎_elim
      (λ behind. inl (
      let reach : ℕ = behind.reach + (log.end + n) in
      let wider : AreWithin (tail_range log.marks.chosen.end behind.reach ∷ []) (tail_range log.marks.chosen.end (behind.reach + (log.end + n)) ∷ []) = λ place among. ⊎_elim (λ here. inl (here.0, let b = here.1 in omega (arith, b))) (λ none. absurd none) among in
      let inside : AreWithin (tail_range log.end n ∷ []) (tail_range log.marks.chosen.end (behind.reach + (log.end + n)) ∷ []) = λ place among. ⊎_elim (λ here. inl (let a = here.0 in omega (arith, a, longer), let b = here.1 in omega (arith, b))) (λ none. absurd none) among in
      record {
        synced = behind.synced;
        reach = behind.reach + (log.end + n);
        has = behind.has;
        only = writes_only_goes_on (tail_range log.marks.chosen.end (behind.reach + (log.end + n)) ∷ []) behind.synced was is
            (widen_only (tail_range log.marks.chosen.end behind.reach ∷ []) (tail_range log.marks.chosen.end (behind.reach + (log.end + n)) ∷ []) behind.synced was wider behind.only)
            (within_wider (tail_range log.end n ∷ []) (tail_range log.marks.chosen.end (behind.reach + (log.end + n)) ∷ []) was is inside writes);
      }))
      (λ half. inr (record {
        unsure = half.unsure;
        next = half.next;
        done = half.done;
        left = half.left;
        parts = half.parts;
        follows = half.follows;
        reach = half.reach;
        phase = phase_on kept log.marks.slot log.marks.chosen half.next log.marks.other old half.done low half.follows log.end n was is half.reach writes half.phase;
      }))
      lies

-- ---- the tie

-- an upper disk with each file on the way shows each image that holds one of them
pub holds_shows : (base : List ℕ) (number : ℕ) (old more : List Entry) (end : ℕ) (upper : DiskState) (image : List ℕ) → EachFile upper (applied base old) more → Holds (record_of base number) old more end image → Shows (Logical base number) upper image
holds_shows base number old more end upper image files holds = record {
  file = applied base (old ++ holds.done);
  means_it = means_log holds.has;
  is = subst (λ (l : List ℕ). IsImage upper l) (sym (applied_append base old holds.done))
      (each_part upper (applied base old) holds.done holds.left (subst (λ (l : List Entry). EachFile upper (applied base old) l) holds.parts files));
}

module _ (base : List ℕ) (number : ℕ) (log : Log) (lower_since upper_since : ℕ) (lower : Outside) (seen : Seen) (is : IsTold base number log lower_since upper_since lower seen) where
  abbrev pub kept : BaseRecord
  kept = record_of base number

  abbrev pub t : Told base number log lower.now.disk seen.now.disk
  t = is.told

  abbrev pub all : List Entry
  all = t.old ++ t.more

  -- a moment of the lower disk whose images hold what the upper disk may leave
  pub shows_by : (at : Moment) → at.said ≡ lower.now.said → ((image : List ℕ) → IsImage at.disk image → Holds kept t.old t.more log.end image) → ShowsAt (Logical base number) seen.now at
  shows_by at said holds = record {
    said = said ∙ sym is.tie.said;
    images = λ image left. holds_shows base number t.old t.more log.end seen.now.disk image t.files (holds image left);
  }

  pub shows_lies : (at : Moment) → at.said ≡ lower.now.said → Lies kept log t.old t.more at.disk → ShowsAt (Logical base number) seen.now at
  shows_lies at said lies = shows_by at said (λ image left. lies_hold kept log t.old t.more at.disk image t.low t.ends.longer lies left)

  -- the file as it is read is one that a crash may leave
  pub last : IsImage seen.now.disk (applied base all)
  last = subst (λ (l : List ℕ). IsImage seen.now.disk l) (sym (applied_append base t.old t.more))
      (each_part seen.now.disk (applied base t.old) t.more [] (subst (λ (l : List Entry). EachFile seen.now.disk (applied base t.old) l) (sym (append-nil t.more)) t.files))

  pub sound_upper : IsSound seen.now.disk
  sound_upper = subst (λ (l : List ℕ). IsImage seen.now.disk l) (sym t.seen) last

  -- no moment came
  pub told_still : (new : Outside) → StandsStill lower new → IsTold base number log lower_since upper_since new seen
  told_still new still = record {
    tie = tie_stays is.tie (begins_still still) (subst (λ (m : Moment). ShowsAt (Logical base number) seen.now m) (sym still.now) (shows_lies lower.now refl t.lies));
    told = subst (λ (m : Moment). Told base number log m.disk seen.now.disk) (sym still.now) t;
    len_is = is.len_is;
  }

  -- ---- a record is put behind the log
  module _ (T E : Type 0) (result : Result T E) (new : Outside) (entry : Entry) (appends : Appends log.end entry lower new result) where
    abbrev n : ℕ
    n = record_len (length entry.bytes)

    lies_at : (disk : DiskState) → WritesWithin (tail_range log.end n ∷ []) lower.now.disk disk → Lies kept log t.old t.more disk
    lies_at disk writes = lies_on kept log t.old t.more n lower.now.disk disk t.low t.ends.longer writes t.lies

    goes : Goes (ShowsAt (Logical base number) seen.now) lower new
    goes = weaker (λ at w. shows_lies at w.0 (lies_at at.disk w.1)) appends.moments

    behind_256 : 256 ≤ log.end
    behind_256 = let b = t.ends.based in let l = t.ends.longer in omega (arith, b, l)

    same_log : bytes_in new.now.disk.seen (records_range log.end) ≡ bytes_in lower.now.disk.seen (records_range log.end)
    same_log = bytes_agree (tail_range log.end n ∷ []) lower.now.disk.seen new.now.disk.seen (records_range log.end) appends.within.changes.agrees
        (tail_clear log.end n (records_range log.end) (let b = behind_256 in omega (arith, b))) (let l = t.ends.long in let b = behind_256 in omega (arith, l, b))

    ends_on : Ends log.marks.chosen log.end all new.now.disk.seen
    ends_on = record {
      based = t.ends.based;
      longer = t.ends.longer;
      long = let l = t.ends.long in let a = appends.within.changes.agrees.no_shorter in omega (arith, l, a);
      spells = subst (λ (l : List ℕ). Spells all l) (sym same_log) t.ends.spells;
    }

    -- It was not written whole: it is not there.
    pub told_fails : IsTold base number log lower_since upper_since new seen
    told_fails = record {
      tie = tie_stays is.tie goes (shows_lies new.now appends.said (lies_at new.now.disk appends.within));
      told = record { old = t.old; more = t.more; seen = t.seen; files = t.files; fit = t.fit; low = t.low; lies = lies_at new.now.disk appends.within; ends = ends_on };
      len_is = is.len_is;
    }

    -- It was, and the upper disk takes its step.
    module _ (stands : StandsAt log.end entry new.now.disk.seen) (fits : Fits (length seen.now.disk.seen) entry) where
      abbrev after : Seen
      after = wrote seen entry.place entry.bytes

      abbrev longer : Log
      longer = record log { end = log.end + n; len = max log.len (entry.place + length entry.bytes) }

      all_is : t.old ++ (t.more ++ entry ∷ []) ≡ all ++ entry ∷ []
      all_is = sym (append_assoc t.old t.more (entry ∷ []))

      seen_is : after.now.disk.seen ≡ applied base (t.old ++ (t.more ++ entry ∷ []))
      seen_is = ap (λ (l : List ℕ). put_bytes l entry.place entry.bytes) t.seen ∙ sym (applied_append base all (entry ∷ [])) ∙ sym (ap (λ (l : List Entry). applied base l) all_is)

      grows : (image : List ℕ) → IsImage seen.now.disk image → IsImage after.now.disk image
      grows image left = same_images (widened entry.place (length entry.bytes) seen.now.disk) after.now.disk image refl refl refl (IsImage-widened entry.place (length entry.bytes) seen.now.disk image left)

      sound_after : IsSound after.now.disk
      sound_after = same_images (widened entry.place (length entry.bytes) seen.now.disk) after.now.disk after.now.disk.seen refl refl refl
          (IsSound-torn entry.place (length entry.bytes) seen.now.disk after.now.disk.seen fits.within (IsTorn-put_bytes seen.now.disk.seen entry.place entry.bytes fits.within) sound_upper)

      files_on : EachFile after.now.disk (applied base t.old) (t.more ++ entry ∷ [])
      files_on = each_snoc after.now.disk (applied base t.old) t.more entry (each_wider seen.now.disk after.now.disk grows (applied base t.old) t.more t.files)
          (subst (λ (l : List ℕ). IsImage after.now.disk l) (seen_is ∙ applied_append base t.old (t.more ++ entry ∷ [])) sound_after)

      lies_longer : (disk : DiskState) → Lies kept log t.old t.more disk → Lies kept longer t.old (t.more ++ entry ∷ []) disk
      lies_longer disk lies = ⊎_elim (λ behind. inl behind)
          (λ half. inr (record {
            unsure = half.unsure;
            next = half.next;
            done = half.done;
            left = half.left ++ entry ∷ [];
            parts = ap (λ (l : List Entry). l ++ entry ∷ []) half.parts ∙ append_assoc half.done half.left (entry ∷ []);
            follows = half.follows;
            reach = let r = half.reach in omega (arith, r);
            phase = half.phase;
          }))
          lies

      fit_on : Fit (length base) (t.old ++ (t.more ++ entry ∷ []))
      fit_on = subst (λ (l : List Entry). Fit (length base) l) (sym all_is) (fit_snoc (length base) all entry t.fit
          (subst (λ (k : ℕ). Fits k entry) (ap length t.seen ∙ length-applied base all t.fit) fits))

      pub told_writes : IsTold base number longer lower_since upper_since new after
      told_writes = record {
        tie = tie_steps is.tie refl (weaker (λ at shows. inl shows) goes)
            (record {
              said = appends.said ∙ sym is.tie.said;
              images = λ image left. holds_shows base number t.old (t.more ++ entry ∷ []) longer.end after.now.disk image files_on
                  (lies_hold kept longer t.old (t.more ++ entry ∷ []) new.now.disk image t.low (let l = t.ends.longer in omega (arith, l)) (lies_longer new.now.disk (lies_at new.now.disk appends.within)) left);
            });
        told = record {
          old = t.old;
          more = t.more ++ entry ∷ [];
          seen = seen_is;
          files = files_on;
          fit = fit_on;
          low = t.low;
          lies = lies_longer new.now.disk (lies_at new.now.disk appends.within);
          ends = record {
            based = t.ends.based;
            longer = let l = t.ends.longer in omega (arith, l);
            long = stands.long;
            spells = subst (λ (l : List Entry). Spells l (bytes_in new.now.disk.seen (records_range (log.end + n)))) (sym all_is)
                (subst (λ (l : List ℕ). Spells (all ++ entry ∷ []) l) (sym (longer_log new.now.disk.seen log.end n behind_256))
                (spells_snoc all (bytes_in new.now.disk.seen (records_range log.end)) (bytes_in new.now.disk.seen (record { start = log.end; count = n })) stands.fill entry ends_on.spells stands.bytes stands.whole));
          };
        };
        len_is = ap (λ (k : ℕ). max k (entry.place + length entry.bytes)) is.len_is ∙ sym (length-put_bytes seen.now.disk.seen entry.place entry.bytes fits.within);
      }

  -- ---- nothing is written, at a place of the file
  put_none : (file : List ℕ) (place : ℕ) → put_bytes file place [] ≡ file
  put_none file place = ap (λ (l : List ℕ). l ++ drop (place + 0) file) (append-nil (take place file)) ∙ ap (λ (k : ℕ). take place file ++ drop k file) (omega arith) ∙ take-append-drop place file

  pub told_nothing : (place : ℕ) → place ≤ length seen.now.disk.seen → IsTold base number log lower_since upper_since lower (wrote seen place [])
  told_nothing place within =
      let after : Seen = wrote seen place [] in
      let grows : (image : List ℕ) → IsImage seen.now.disk image → IsImage (wrote seen place []).now.disk image =
      λ image left. same_images (widened place 0 seen.now.disk) (wrote seen place []).now.disk image refl refl refl (IsImage-widened place 0 seen.now.disk image left) in
      let files : EachFile (wrote seen place []).now.disk (applied base t.old) t.more = each_wider seen.now.disk (wrote seen place []).now.disk grows (applied base t.old) t.more t.files in
      record {
        tie = tie_steps is.tie refl (begins lower) (record {
          said = sym is.tie.said;
          images = λ image left. holds_shows base number t.old t.more log.end (wrote seen place []).now.disk image files
              (lies_hold kept log t.old t.more lower.now.disk image t.low t.ends.longer t.lies left);
        });
        told = record { old = t.old; more = t.more; seen = put_none seen.now.disk.seen place ∙ t.seen; files = files; fit = t.fit; low = t.low; lies = t.lies; ends = t.ends };
        len_is = is.len_is ∙ sym (ap length (put_none seen.now.disk.seen place));
      }

  -- ---- a piece is said
  pub told_says : (new : Outside) (piece : List ℕ) → new.now.said ≡ lower.now.said ++ piece → new.now.disk ≡ lower.now.disk → new.past ≡ lower.now ∷ lower.past → IsTold base number log lower_since upper_since new (spoke seen piece)
  told_says new piece said disk past =
      let now_is : ShowsAt (Logical base number) (spoke seen piece).now new.now = record {
        said = said ∙ ap (λ (l : List ℕ). l ++ piece) (sym is.tie.said);
        images = subst (λ (d : DiskState). AllShow (Logical base number) d seen.now.disk) (sym disk) is.tie.now;
      } in
      record {
        tie = tie_steps is.tie refl (steps past (inr now_is)) now_is;
        told = subst (λ (d : DiskState). Told base number log d seen.now.disk) (sym disk) t;
        len_is = is.len_is;
      }
