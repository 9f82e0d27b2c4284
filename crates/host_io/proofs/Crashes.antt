-- What a crash leaves, one event after another.
use Rattle.std.proofs.Common.{◌≡◌, ◌≢◌, ℕ, ◌+◌, ◌-◌, ◌<◌, ◌≤◌, ⊎_elim, List, [], ◌∷◌, ◌++◌, length, take, drop, replicate, refl, sym, ◌∙◌, ap, subst, arith, slice_index, get_or, zero, suc, add-one, take-append-drop}
use Rattle.std.proofs.lemmas.Bool.{cases_lt}
use Rattle.std.proofs.lemmas.Bool.Decides.{nat_tests}
use Rattle.std.proofs.lemmas.List.{length-replicate, get_or-replicate, append_assoc, append-nil, take_more, drop_more}
use Rattle.host_io.specs.Disk.{DiskState, IsWithin, IsImage, IsSound, settled, widened}
use Rattle.host_io.specs.Outside.{Moment}
use Rattle.host_io.specs.Calls.{put_bytes, IsTorn}
use Rattle.host_io.specs.Memory.{Timed, Trail, extended, left_by, left_pending, written, newest_within, moment_after, IsOnes, IsLeft}
use Rattle.host_io.specs.Log.{piece_bytes, disk_after, disk_at, next_moment, replayed, first_trail, WriteFits, WritesFit, AreLater, IsRedone, CanRedo}
use Rattle.host_io.specs.declared.fault.Effect.{Effect}
use Rattle.host_io.specs.declared.fault.Effect.TheVariants.{Nothing, Whole, Ones}
use Rattle.host_io.specs.declared.entry.Piece.{Piece}
use Rattle.host_io.specs.declared.entry.Event.{Event}
use Rattle.host_io.specs.declared.entry.Event.TheVariants.{Write, Sync, Say}
use Rattle.host_io.specs.declared.entry.Entry.{Entry}
use Rattle.host_io.proofs.Bytes.{within_or_not, length-put_bytes, IsTorn-put_bytes, IsTorn-same, slice_index-put_bytes_inside, slice_index-put_bytes_outside}
use Rattle.host_io.proofs.Images.{IsSound-torn, IsSound-settled, IsSettled-settled, same_images}
use Rattle.host_io.proofs.Replays.{replayed-push, disk_at-push, disk-replayed}

IsTorn-left_by : (left : Effect) (place : ℕ) (bytes file : List ℕ) → place ≤ length file → IsTorn place (length bytes) file (left_by left place bytes file)
IsTorn-left_by Nothing place bytes file within = IsTorn-same place (length bytes) file
IsTorn-left_by Whole place bytes file within = IsTorn-put_bytes file place bytes within
IsTorn-left_by Ones place bytes file within =
    subst (λ (n : ℕ). IsTorn place n file (put_bytes file place (replicate (length bytes) 255))) (length-replicate {A = ℕ} (length bytes) 255) (IsTorn-put_bytes file place (replicate (length bytes) 255) within)

-- a write that left this keeps the disk sound
pub IsSound-written : (left : Effect) (place : ℕ) (bytes : List ℕ) (disk : DiskState) → place ≤ length disk.seen → IsSound disk → IsSound (written left place bytes disk)
IsSound-written left place bytes disk within sound =
    let file = left_by left place bytes disk.seen in
    same_images (widened place (length bytes) disk) (written left place bytes disk) file refl refl refl
    (IsSound-torn place (length bytes) disk file within (IsTorn-left_by left place bytes disk.seen within) sound)

-- a range more of `ff`
module _ (left : Effect) (place : ℕ) (bytes : List ℕ) (disk : DiskState) (image : List ℕ) (ones : IsOnes disk image) (within : place ≤ length image) where
  abbrev n : ℕ
  n = length bytes

  abbrev more : List ℕ
  more = replicate n 255

  count : length more ≡ n
  count = length-replicate {A = ℕ} n 255

  inside : (at : ℕ) → IsWithin at (record { start = place; count = n }) → slice_index (put_bytes image place more) at ≡ 255
  inside at within_range =
      let back : place + (at - place) ≡ at = omega (arith, within_range.0) in
      let below : at - place < n = omega (arith, within_range.0, within_range.1) in
      subst (λ (k : ℕ). slice_index (put_bytes image place more) k ≡ 255) back
      (slice_index-put_bytes_inside image place more within (at - place) (omega (arith, below, count)) ∙ get_or-replicate n (at - place) 255 0 below)

  outside : (at : ℕ) → (¬ IsWithin at (record { start = place; count = n })) → slice_index (put_bytes image place more) at ≡ slice_index image at
  outside at not_within =
      slice_index-put_bytes_outside image place more at within (λ w. not_within (w.0, omega (arith, w.1, count)))

  pub IsOnes-written : IsOnes (written left place bytes disk) (put_bytes image place more)
  IsOnes-written = record {
    longest = omega (arith, length-put_bytes image place more within, count, ones.longest);
    touched = λ at touched. ⊎_elim (inside at) (λ earlier. ⊎_elim (inside at) (λ not_within. outside at not_within ∙ ones.touched at earlier) (within_or_not at place n)) touched;
    past = λ at behind below. ⊎_elim (inside at) (λ not_within. outside at not_within ∙ ones.past at behind (still at below not_within)) (within_or_not at place n);
    kept = λ at below untouched. outside at untouched.0 ∙ ones.kept at below untouched.1;
  }
    where
      still : (at : ℕ) → at < length (put_bytes image place more) → (¬ IsWithin at (record { start = place; count = n })) → at < length image
      still at below not_within = ⊎_elim (λ fine. fine) (λ past. absurd (not_within (omega (arith, within), omega (arith, length-put_bytes image place more within, count)))) (cases_lt at (length image))

IsLeft-written : (choice left : Effect) (place : ℕ) (bytes : List ℕ) (disk : DiskState) (image : List ℕ) → place ≤ length disk.seen → IsSound disk → IsLeft choice disk image → IsLeft choice (written left place bytes disk) (left_pending choice left place bytes image)
IsLeft-written Nothing left place bytes disk image within sound is = is
IsLeft-written Whole left place bytes disk image within sound is = ap (λ (l : List ℕ). left_by left place bytes l) is
IsLeft-written Ones left place bytes disk image within sound is = IsOnes-written left place bytes disk image is (omega (arith, within, sound.no_longer, is.longest))

-- a write more
pub IsRedone-write : (choice : Effect) (disk : DiskState) (all : List ℕ) (piece : Piece) (seen image : List ℕ) → IsRedone choice disk seen image → WriteFits all disk (Write piece)
    → IsRedone choice (disk_after all (Write piece) disk) (left_by piece.left piece.at (piece_bytes all piece) seen) (left_pending choice piece.left piece.at (piece_bytes all piece) image)
IsRedone-write choice disk all piece seen image redone fit = record {
  seen_is = ap (λ (l : List ℕ). left_by piece.left piece.at (piece_bytes all piece) l) redone.seen_is;
  left = IsLeft-written choice piece.left piece.at (piece_bytes all piece) disk image fit.1 redone.sound redone.left;
  sound = IsSound-written piece.left piece.at (piece_bytes all piece) disk fit.1 redone.sound;
}

image_reaches : (choice : Effect) (disk : DiskState) (image : List ℕ) → IsSound disk → IsLeft choice disk image → choice ≢ Nothing → length disk.seen ≤ length image
image_reaches Nothing disk image sound is some = absurd (some refl)
image_reaches Whole disk image sound is some = omega (arith, ap length is)
image_reaches Ones disk image sound is some = omega (arith, sound.no_longer, is.longest)

-- an event that fits can be gone on by
pub CanRedo-redone : (choice : Effect) (disk : DiskState) (all seen image : List ℕ) (event : Event) → IsRedone choice disk seen image → WriteFits all disk event → CanRedo choice all (length seen) (length image) event
CanRedo-redone choice disk all seen image (Write piece) redone fit = (
  fit.0,
  omega (arith, fit.1, ap length redone.seen_is),
  λ some. omega (arith, fit.1, image_reaches choice disk image redone.sound redone.left some),
)
CanRedo-redone choice disk all seen image Sync redone fit = tt
CanRedo-redone choice disk all seen image (Say end) redone fit = tt

-- before the first event
pub IsRedone-begins : (choice : Effect) (file : List ℕ) → IsRedone choice (settled file) file file
IsRedone-begins choice file = record { seen_is = refl; left = left choice; sound = IsSound-settled (settled file) (IsSettled-settled file) }
  where
    left : (c : Effect) → IsLeft c (settled file) file
    left Nothing = refl
    left Whole = refl
    left Ones = record { longest = refl; touched = λ at touched. absurd touched; past = λ at behind below. absurd (omega arith); kept = λ at below untouched. refl }

-- what a crash may leave
pub IsImage-left : (choice : Effect) (disk : DiskState) (image : List ℕ) → IsSound disk → IsLeft choice disk image → IsImage disk image
IsImage-left Nothing disk image sound is = record {
  no_shorter = omega (arith, ap length is);
  no_longer = omega (arith, ap length is, sound.no_shorter, sound.no_longer);
  kept = λ at below untouched. ap (λ (l : List ℕ). slice_index l at) is;
}
IsImage-left Whole disk image sound is = subst (IsImage disk) (sym is) sound
IsImage-left Ones disk image sound is = record {
  no_shorter = omega (arith, is.longest, sound.no_shorter, sound.no_longer);
  no_longer = omega (arith, is.longest);
  kept = is.kept;
}

-- a settled disk stays sound over events that fit
pub IsSound-disk_at : (all : List ℕ) (disk : DiskState) (entries : List Entry) → WritesFit all disk entries → IsSound disk → IsSound (disk_at all disk entries)
IsSound-disk_at all disk [] fit sound = sound
IsSound-disk_at all disk (e ∷ entries) fit sound = IsSound-disk_at all (disk_after all e.event disk) entries fit.1 (after e.event fit.0)
  where
    after : (event : Event) → WriteFits all disk event → IsSound (disk_after all event disk)
    after (Write piece) one = IsSound-written piece.left piece.at (piece_bytes all piece) disk one.1 sound
    after Sync one = IsSound-settled (settled disk.seen) (IsSettled-settled disk.seen)
    after (Say end) one = sound

pub WritesFit-front : (all : List ℕ) (disk : DiskState) (entries rest : List Entry) → WritesFit all disk (entries ++ rest) → WritesFit all disk entries
WritesFit-front all disk [] rest fit = tt
WritesFit-front all disk (e ∷ entries) rest fit = (fit.0, WritesFit-front all (disk_after all e.event disk) entries rest fit.1)

-- entries that came later change nothing of where the host stood
moment_after-later : (calls : ℕ) (all said : List ℕ) (trail : Trail) (entries rest : List Entry) → AreLater calls rest → moment_after calls (replayed all said trail (entries ++ rest)) ≡ moment_after calls (replayed all said trail entries)
moment_after-later calls all said trail entries [] later = ap (λ (l : List Entry). moment_after calls (replayed all said trail l)) (append-nil entries)
moment_after-later calls all said trail entries (e ∷ rest) later =
    ap (λ (l : List Entry). moment_after calls (replayed all said trail l)) (sym (append_assoc entries (e ∷ []) rest))
    ∙ moment_after-later calls all said trail (entries ++ e ∷ []) rest later.1
    ∙ ap (moment_after calls) (replayed-push all said trail entries e)
    ∙ skipped (next_moment all said e.event (replayed all said trail entries).latest.moment) (replayed all said trail entries) later.0
  where
    skipped : (m : Moment) (t : Trail) → calls < e.calls → moment_after calls (extended e.calls m t) ≡ moment_after calls t
    skipped m t above = grind (arith, nat_tests)

moment_after-newest : (calls : ℕ) (timed : Timed) (earlier : List Timed) → timed.calls ≤ calls → newest_within calls timed earlier ≡ timed.moment
moment_after-newest calls timed [] le = refl
moment_after-newest calls timed (t ∷ earlier) le = grind (arith, nat_tests)

-- where the newest of the entries is within so many calls, the host stood behind it
front_is : (calls count : ℕ) (image all said : List ℕ) (entries : List Entry) → count ≤ length entries
    → (0 < count → (e : Entry) → (get_or entries (count - 1) e).calls ≤ calls)
    → moment_after calls (replayed all said (first_trail image) (take count entries)) ≡ (replayed all said (first_trail image) (take count entries)).latest.moment
front_is calls zero image all said entries within newest = refl
front_is calls (suc k) image all said entries within newest =
    let none : Entry = record { calls = 0; event = Sync } in
    let entry = get_or entries k none in
    let before = replayed all said (first_trail image) (take k entries) in
    let moment = next_moment all said entry.event before.latest.moment in
    let at_k : suc k - 1 ≡ k = omega arith in
    let in_time : entry.calls ≤ calls = subst (λ (j : ℕ). (get_or entries j none).calls ≤ calls) at_k (newest (omega arith) none) in
    let more : take (suc k) entries ≡ take k entries ++ entry ∷ [] = ap (λ (j : ℕ). take j entries) (sym (add-one k)) ∙ take_more entries k none (omega arith) in
    let trail : replayed all said (first_trail image) (take (suc k) entries) ≡ extended entry.calls moment before =
    ap (λ (l : List Entry). replayed all said (first_trail image) l) more ∙ replayed-push all said (first_trail image) (take k entries) entry in
    subst (λ (t : Trail). moment_after calls t ≡ t.latest.moment) (sym trail) (moment_after-newest calls (record { calls = entry.calls; moment = moment }) (before.latest ∷ before.earlier) in_time)

pub moment_after-front : (calls count : ℕ) (image all said : List ℕ) (entries : List Entry) → count ≤ length entries → AreLater calls (drop count entries)
    → (0 < count → (e : Entry) → (get_or entries (count - 1) e).calls ≤ calls)
    → moment_after calls (replayed all said (first_trail image) entries) ≡ (replayed all said (first_trail image) (take count entries)).latest.moment
moment_after-front calls count image all said entries within later newest =
    ap (λ (l : List Entry). moment_after calls (replayed all said (first_trail image) l)) (sym (take-append-drop count entries))
    ∙ moment_after-later calls all said (first_trail image) (take count entries) (drop count entries) later
    ∙ front_is calls count image all said entries within newest

-- an entry to name where there is none
abbrev pub no_entry : Entry
no_entry = record { calls = 0; event = Write (record { at = 0; from = 0; count = 0; left = Nothing }) }

-- the next of the entries
pub WritesFit-next : (all : List ℕ) (disk : DiskState) (entries : List Entry) (i : ℕ) (d : Entry) → i < length entries → WritesFit all disk (drop i entries)
    → WriteFits all disk (get_or entries i d).event × WritesFit all (disk_after all (get_or entries i d).event disk) (drop (i + 1) entries)
WritesFit-next all disk entries i d below fit = subst (λ (l : List Entry). WritesFit all disk l) (drop_more entries i d below) fit

pub disk_at-more : (all : List ℕ) (disk : DiskState) (entries : List Entry) (i : ℕ) (d : Entry) → i < length entries
    → disk_at all disk (take (i + 1) entries) ≡ disk_after all (get_or entries i d).event (disk_at all disk (take i entries))
disk_at-more all disk entries i d below =
    ap (λ (l : List Entry). disk_at all disk l) (take_more entries i d below) ∙ disk_at-push all disk (take i entries) (get_or entries i d)

-- what is left by the entries within so many calls is left by the moment at which the host stood
pub disk_after_calls : (calls count : ℕ) (image all said : List ℕ) (entries : List Entry) → count ≤ length entries → AreLater calls (drop count entries)
    → (0 < count → (e : Entry) → (get_or entries (count - 1) e).calls ≤ calls)
    → disk_at all (settled image) (take count entries) ≡ (moment_after calls (replayed all said (first_trail image) entries)).disk
disk_after_calls calls count image all said entries within later newest =
    sym (disk-replayed all said (first_trail image) (take count entries)) ∙ ap (λ (m : Moment). m.disk) (sym (moment_after-front calls count image all said entries within later newest))

pub WritesFit-take : (all : List ℕ) (disk : DiskState) (entries : List Entry) (count : ℕ) → WritesFit all disk entries → WritesFit all disk (take count entries)
WritesFit-take all disk entries count fit =
    WritesFit-front all disk (take count entries) (drop count entries) (subst (λ (l : List Entry). WritesFit all disk l) (sym (take-append-drop count entries)) fit)
