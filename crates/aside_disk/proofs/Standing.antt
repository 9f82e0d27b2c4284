-- How an aside disk goes on from call to call.
use Rattle.std.proofs.Common.{◌≡◌, inl, inr, ⊎_elim, refl, sym, ◌∙◌, ap, subst, ℕ, ◌+◌, ◌-◌, ◌^◌, ◌<◌, ◌≤◌, List, [], ◌∷◌, ◌++◌, length, length-drop, drop, max, arith, Result, Ok}
use Rattle.std.proofs.lemmas.List.{append-nil, length-take-le}
use Rattle.host_io.specs.Disk.{DiskState, IsImage, settled}
use Rattle.host_io.specs.Calls.{StandsStill}
use Rattle.host_io.specs.Outside.{Left, Moment, Outside, moment}
use Rattle.host_io.specs.Ranges.{bytes_in}
use Rattle.host_io.proofs.Images.{IsSettled-settled, IsSound-settled, image_of_settled}
use Rattle.host_io.proofs.Moments.{Left-now, only_now}
use Rattle.host_io.proofs.Ranges.{writes_only_begins}
use Rattle.aside_disk.specs.declared.log.Log.{Log}
use Rattle.aside_disk.specs.Records.{Entry, Fit, Spells, applied, grown, record_len}
use Rattle.aside_disk.specs.Logical.{HasLog, Logical, entries_of, record_of, records_range}
use Rattle.aside_disk.specs.Opening.{IsOpened, Opens}
use Rattle.aside_disk.specs.Phases.{tail_range}
use Rattle.aside_disk.specs.Appending.{Appends, StandsAt}
use Rattle.aside_disk.specs.Shown.{Seen, bare, spoke, wrote}
use Rattle.aside_disk.specs.Tie.{Tie}
use Rattle.aside_disk.specs.Told.{IsSpent, IsTold, IsWell}
use Rattle.aside_disk.specs.Syncing.{IsSpentAt, KeepsTold}
use Rattle.aside_disk.specs.Standing.{Begins, IsOver, Stands, first_seen}
use Rattle.aside_disk.proofs.Parsed.{entries_are}
use Rattle.aside_disk.proofs.Phases.{means_log}
use Rattle.aside_disk.proofs.Spelled.{grown_least, length-applied}
use Rattle.aside_disk.proofs.Synced.{last_behind}
use Rattle.aside_disk.proofs.Told.{behind_log, told_fails, told_nothing, told_says, told_still, told_writes}

module _ {tells : Type 0} {name : ℕ} {base : List ℕ} {number : ℕ} {log : Log} {own : ℕ} {lower : Outside} {seen : Seen} (is : Stands tells name base number log own lower seen) where
  spent_same : (new : Outside) → (tells → length lower.now.disk.seen ≤ length new.now.disk.seen) → tells → 0 < own → IsSpent log.marks.chosen.number (length base) (length new.now.disk.seen)
  spent_same new longer t some = ⊎_elim (λ last. inl last) (λ long. inr (let l = longer t in omega (arith, long, l))) (is.spent t some)

  -- the lower disk stands still
  pub stands_still : (new : Outside) → (tells → StandsStill lower new) → Stands tells name base number log own new seen
  stands_still new still = record {
    lower_since = is.lower_since;
    upper_since = is.upper_since;
    source = is.source;
    well = is.well;
    told = λ t. told_still base number log is.lower_since is.upper_since lower seen (is.told t) new (still t);
    spent = spent_same new (λ t. let l = ap (λ (m : Moment). length m.disk.seen) (still t).now in omega (arith, l));
  }

  -- a fault of its own
  pub stands_fault : (more : ℕ) → (tells → IsSpentAt log base lower) → Stands tells name base number log more lower seen
  stands_fault more spent = record {
    lower_since = is.lower_since;
    upper_since = is.upper_since;
    source = is.source;
    well = is.well;
    told = is.told;
    spent = λ t some. spent t;
  }

  -- the file is no longer than base and log together
  pub file_bound : tells → length seen.now.disk.seen + 256 ≤ length base + log.end
  file_bound t =
      let told = (is.told t).told in
      let all = told.old ++ told.more in
      let file : length seen.now.disk.seen ≡ grown (length base) (told.old ++ told.more) = ap length told.seen ∙ length-applied base (told.old ++ told.more) told.fit in
      let least = grown_least (length base) (told.old ++ told.more) (bytes_in lower.now.disk.seen (records_range log.end)) told.fit told.ends.spells in
      let b = is.well.based in
      let long : length (bytes_in lower.now.disk.seen (records_range log.end)) ≡ log.end - 256 =
      length-take-le (log.end - 256) (drop 256 lower.now.disk.seen) (let d = length-drop 256 lower.now.disk.seen in let l = told.ends.long in omega (arith, d, l, b)) in
      omega (arith, file, least, long, b)

  -- so a write that does not fit comes only where the two are that long
  pub spent_by_file : (at n : ℕ) → n ≤ 4096 → 2 ^ 63 ≤ at + n → (tells → at ≤ length seen.now.disk.seen) → tells → IsSpentAt log base lower
  spent_by_file at n short past within t = let f = file_bound t in let w = within t in let l = (is.told t).told.ends.long in inr (omega (arith, short, past, f, w, l))

  -- a record was not written whole
  pub stands_fails : {T E : Type 0} {new : Outside} (result : Result T E) (entry : Entry) → (tells → Appends log.end entry lower new result) → Stands tells name base number log own new seen
  stands_fails {T} {E} {new} result entry appends = record {
    lower_since = is.lower_since;
    upper_since = is.upper_since;
    source = is.source;
    well = is.well;
    told = λ t. told_fails base number log is.lower_since is.upper_since lower seen (is.told t) T E result new entry (appends t);
    spent = spent_same new (λ t. (appends t).within.changes.agrees.no_shorter);
  }

  -- it was
  pub stands_writes : {T E : Type 0} {new : Outside} {result : Result T E} (at more len : ℕ) (bytes : List ℕ) → more ≡ record_len (length bytes) → log.end + more < 2 ^ 63 → 0 < length bytes
      → at + length bytes < 2 ^ 63 → len ≡ max log.len (at + length bytes)
      → (tells → at ≤ length seen.now.disk.seen) → (tells → Appends log.end (record { place = at; bytes = bytes }) lower new result) → (tells → StandsAt log.end (record { place = at; bytes = bytes }) new.now.disk.seen)
      → Stands tells name base number (record log { end = log.end + more; len = len }) own new (wrote seen at bytes)
  stands_writes {T} {E} {new} {result} at more len bytes more_is fits some bound len_is within appends stands = record {
    lower_since = is.lower_since;
    upper_since = is.upper_since;
    source = is.source;
    well = record {
      low = is.well.low;
      number_fits = is.well.number_fits;
      based = let b = is.well.based in omega (arith, b);
      aligned = let a = is.well.aligned in let b = is.well.based in omega (arith, a, b, more_is);
      end_fits = fits;
      len_fits = let l = is.well.len_fits in omega (arith, l, len_is, bound);
    };
    told = λ t.
        let on = told_writes base number log is.lower_since is.upper_since lower seen (is.told t) T E result new (record { place = at; bytes = bytes }) (appends t) (stands t)
        (record { some = some; within = within t; bound = bound }) in
        subst (λ (k : ℕ). IsTold base number (record log { end = log.end + k; len = len }) is.lower_since is.upper_since new (wrote seen at bytes)) (sym more_is)
        (subst (λ (k : ℕ). IsTold base number (record log { end = log.end + record_len (length bytes); len = k }) is.lower_since is.upper_since new (wrote seen at bytes)) (sym len_is) on);
    spent = spent_same new (λ t. (appends t).within.changes.agrees.no_shorter);
  }

  -- nothing was written
  pub stands_nothing : (at : ℕ) (bytes : List ℕ) → bytes ≡ [] → (tells → at ≤ length seen.now.disk.seen) → Stands tells name base number log own lower (wrote seen at bytes)
  stands_nothing at bytes none within = subst (λ (l : List ℕ). Stands tells name base number log own lower (wrote seen at l)) (sym none) (record {
    lower_since = is.lower_since;
    upper_since = is.upper_since;
    source = is.source;
    well = is.well;
    told = λ t. told_nothing base number log is.lower_since is.upper_since lower seen (is.told t) at (within t);
    spent = is.spent;
  })

  -- a sync, whether it succeeded or not
  pub stands_syncs : (new : Outside) (synced : Log) (after : Seen) → after.source ≡ seen.source → IsWell synced
      → (tells → KeepsTold base number log synced is.lower_since is.upper_since lower new seen after) → Stands tells name base number synced own new after
  stands_syncs new synced after same well keeps = record {
    lower_since = is.lower_since;
    upper_since = is.upper_since;
    source = same ∙ is.source;
    well = well;
    told = λ t. (keeps t).told;
    spent = λ t some. (keeps t).spent (is.spent t some);
  }

  -- a piece was said
  pub stands_says : (new : Outside) (piece : List ℕ) → (tells → (new.now.said ≡ lower.now.said ++ piece) × (new.now.disk ≡ lower.now.disk) × (new.past ≡ lower.now ∷ lower.past)) → Stands tells name base number log own new (spoke seen piece)
  stands_says new piece says = record {
    lower_since = is.lower_since;
    upper_since = is.upper_since;
    source = is.source;
    well = is.well;
    told = λ t. told_says base number log is.lower_since is.upper_since lower seen (is.told t) new piece (says t).0 (says t).1 (says t).2;
    spent = spent_same new (λ t. let l = ap (λ (d : DiskState). length d.seen) (says t).1 in omega (arith, l));
  }

  -- what a program learns
  pub over_is : IsOver tells name lower seen own
  over_is = record {
    base = base;
    number = number;
    lower_since = is.lower_since;
    upper_since = is.upper_since;
    source = is.source;
    tie = λ t. (is.told t).tie;
    worn = λ t some. ⊎_elim
        (λ at_last.
        let told = (is.told t).told in
        let behind = last_behind base number log is.lower_since is.upper_since lower seen (is.told t) at_last in
        let has : HasLog (record_of base number) lower.now.disk.seen log.marks.slot log.marks.chosen log.marks.other told.old = behind_log (record_of base number) log told.old told.more lower.now.disk lower.now.disk.seen behind behind.only.sound in
        inl (log.marks.slot, log.marks.chosen, log.marks.other, has.chooses, at_last))
        (λ long. inr long)
        (is.spent t some);
  }

-- ---- the beginning
module _ (name : ℕ) (base : List ℕ) (number : ℕ) (log : Log) (lower : Outside) (opened : IsOpened (record_of base number) log lower) where
  abbrev file : List ℕ
  file = applied base (entries_of lower.now.disk.seen log.end)

  entries_is : entries_of lower.now.disk.seen log.end ≡ opened.entries
  entries_is = entries_are (length base) lower.now.disk.seen log.end opened.entries opened.has.fit (subst (λ (e : ℕ). Spells opened.entries (bytes_in lower.now.disk.seen (records_range e))) (sym opened.end_is) opened.has.spells)

  file_is : file ≡ applied base opened.entries
  file_is = ap (λ (l : List Entry). applied base l) entries_is

  pub logical_now : Logical base number lower.now.disk.seen file
  logical_now = subst (λ (f : List ℕ). Logical base number lower.now.disk.seen f) (sym file_is) (means_log opened.has)

  file_left : IsImage (settled file) file
  file_left = IsSound-settled (settled file) (IsSettled-settled file)

  means_it : (image : List ℕ) → IsImage lower.now.disk image → Logical base number image file
  means_it image left = subst (λ (l : List ℕ). Logical base number l file) (sym (image_of_settled lower.now.disk image opened.rests left)) logical_now

  tie_begins : Tie (Logical base number) (moment lower) 0 lower (bare (first_seen name number base log.end lower))
  tie_begins = record {
    lower_began = omega arith;
    upper_began = omega arith;
    said = refl;
    now = λ image left. record { file = file; means_it = means_it image left; is = file_left };
    left = λ image n left. let now = only_now lower image n left in record {
      file = file;
      means_it = means_it image now.0;
      left = subst (λ (k : ℕ). Left 0 (bare (first_seen name number base log.end lower)) file k) (sym now.1) (Left-now 0 (bare (first_seen name number base log.end lower)) file (omega arith) file_left);
    };
  }

  pub told_begins : IsTold base number log (moment lower) 0 lower (first_seen name number base log.end lower)
  told_begins = record {
    tie = tie_begins;
    told = record {
      old = opened.entries;
      more = [];
      seen = file_is ∙ ap (λ (l : List Entry). applied base l) (sym (append-nil opened.entries));
      files = subst (λ (f : List ℕ). IsImage (settled file) f) file_is file_left;
      fit = subst (λ (l : List Entry). Fit (length base) l) (sym (append-nil opened.entries)) opened.has.fit;
      low = opened.has.chooses.low;
      lies = inl (record { synced = lower.now.disk.seen; reach = 0; has = opened.has; only = writes_only_begins (tail_range log.marks.chosen.end 0 ∷ []) lower.now.disk opened.rests });
      ends = record {
        based = let e = opened.has.mark.end in let b = opened.has.mark.based in omega (arith, e, b);
        longer = let e = opened.end_is in omega (arith, e);
        long = let e = opened.end_is in let w = opened.has.within in omega (arith, e, w);
        spells = subst (λ (l : List Entry). Spells l (bytes_in lower.now.disk.seen (records_range log.end))) (sym (append-nil opened.entries))
            (subst (λ (e : ℕ). Spells opened.entries (bytes_in lower.now.disk.seen (records_range e))) (sym opened.end_is) opened.has.spells);
      };
    };
    len_is = opened.len_is ∙ sym (ap length file_is ∙ length-applied base opened.entries opened.has.fit);
  }

pub stands_begins : {tells : Type 0} {name : ℕ} {base : List ℕ} {number : ℕ} {log : Log} {lower : Outside} → IsWell log → (tells → IsOpened (record_of base number) log lower)
    → Stands tells name base number log 0 lower (first_seen name number base log.end lower)
stands_begins {name = name} {base} {number} {log} {lower} well opened = record {
  lower_since = moment lower;
  upper_since = 0;
  source = refl;
  well = well;
  told = λ t. told_begins name base number log lower (opened t);
  spent = λ t none. absurd (omega (arith, none));
}

-- what an aside disk begins with, where its log was opened
pub begins_is : (name : ℕ) (base : List ℕ) (number : ℕ) (log : Log) (old new : Outside) → Opens (record_of base number) old new (Ok log) → Begins base number old new (first_seen name number base log.end new)
begins_is name base number log old new opens = record {
  rests = opens.0.rests;
  logical = logical_now name base number log new opens.0;
  rests_too = IsSettled-settled (applied base (entries_of new.now.disk.seen log.end));
  past = refl;
  said = opens.1;
  lower_said = opens.1;
  input = opens.2;
  made = opens.3;
}
