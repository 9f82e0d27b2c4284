-- An image is refused at one place at most, and an aside file at none.
use Rattle.std.proofs.Common.{◌≡◌, sym, ◌∙◌, ap, subst, ℕ, ◌+◌, ◌-◌, ◌^◌, ◌<◌, ◌≤◌, ◌⊎◌, inl, inr, ⊎_elim, List, [], ◌∷◌, ◌++◌, length, length-drop, drop, replicate, arith, Option}
use Rattle.std.proofs.lemmas.Bool.{cases_eq, cases_lt}
use Rattle.std.proofs.lemmas.List.{length-take-le}
use Rattle.byteorder.specs.Endian.{little_bytes, little_number}
use Rattle.byteorder.specs.Numbers.{little_number-reads_back}
use Rattle.host_io.specs.Ranges.{bytes_in}
use Rattle.commit_marks.specs.declared.mark.Mark.{Mark}
use Rattle.commit_marks.specs.Marks.{AreMarks, Chooses, HasMark, IsBadMark, IsFirstSpoiled, IsHeaded, IsOpen, IsSpoiled, slot_place}
use Rattle.commit_marks.proofs.Chosen.{marks_unique, open_from_mark}
use Rattle.aside_disk.specs.declared.error.BaseRecord.{BaseRecord}
use Rattle.aside_disk.specs.Records.{Entry, Fit, IsRecordAt, Spells, grown}
use Rattle.aside_disk.specs.Logical.{IsAsideOf, IsBased, IsLogMark, base_bytes, records_range}
use Rattle.aside_disk.specs.Refusals.{AreLogMarks, HasNoBase, HasNoLogMark, HasNoMarks, HasNoRecord, IsNoAside}
use Rattle.aside_disk.proofs.Excluded.{in_slot, marks_differ, marks_of_log, marks_stand}
use Rattle.aside_disk.proofs.Spelled.{fit_later, longer_log, splits}
use Rattle.aside_disk.proofs.Walked.{spelled_here}

-- ---- one record of a base

same_record : (one two : BaseRecord) → one.length ≡ two.length → one.number ≡ two.number → one ≡ two
same_record one two length number = ap (λ (l : ℕ). (record { length = l; number = one.number })) length ∙ ap (λ (n : ℕ). (record { length = two.length; number = n })) number

read_back : (kept : BaseRecord) → kept.length < 2 ^ 64 → kept.number < 2 ^ 64 → (little_number 8 (drop 8 (base_bytes kept)) ≡ kept.length) × (little_number 8 (drop 16 (base_bytes kept)) ≡ kept.number)
read_back kept length_fits number_fits = (
  little_number-reads_back 8 kept.length (little_bytes 8 kept.number ++ replicate 40 0) length_fits,
  little_number-reads_back 8 kept.number (replicate 40 0) number_fits,
)

pub based_once : (image : List ℕ) (one two : BaseRecord) → IsBased one image → IsBased two image → one ≡ two
based_once image one two first second =
    let same : base_bytes one ≡ base_bytes two = sym first.bytes ∙ second.bytes in
    let a = read_back one first.length_fits first.number_fits in
    let b = read_back two second.length_fits second.number_fits in
    same_record one two (sym a.0 ∙ ap (λ (l : List ℕ). little_number 8 (drop 8 l)) same ∙ b.0) (sym a.1 ∙ ap (λ (l : List ℕ). little_number 8 (drop 16 l)) same ∙ b.1)

-- ---- one bad mark

module _ (image : List ℕ) where
  spoiled_once : (s t : ℕ) → IsFirstSpoiled image s → IsFirstSpoiled image t → s ≡ t
  spoiled_once s t first second = ⊎_elim (λ less. absurd (second.2 s less first.1))
      (λ more. ⊎_elim (λ less. absurd (first.2 t less second.1)) (λ also. omega (arith, more, also)) (cases_lt t s))
      (cases_lt s t)

  not_spoiled : (s : ℕ) (m n : Mark) → s ≤ 1 → HasMark image 0 m → HasMark image 1 n → IsSpoiled image s → ⊥
  not_spoiled s m n low zero one spoiled = ⊎_elim (λ is. spoiled.spoiled m (subst (λ (k : ℕ). HasMark image k m) (sym is) zero))
      (λ differs. let is : s ≡ 1 = omega (arith, low, differs) in spoiled.spoiled n (subst (λ (k : ℕ). HasMark image k n) (sym is) one))
      (cases_eq s 0)

  chosen_not_spoiled : (slot s : ℕ) (m : Mark) (other : Option Mark) → Chooses image slot m other → s ≤ 1 → IsSpoiled image s → ⊥
  chosen_not_spoiled slot s m other chooses low spoiled = let i = in_slot image slot m other chooses other chooses.beside s low spoiled.opened in spoiled.spoiled i.0 i.1

  bad_once : (p q : ℕ) → IsBadMark image p → IsBadMark image q → p ≡ q
  bad_once p q first second = ⊎_elim
      (λ a. ⊎_elim (λ b. a.2 ∙ ap slot_place (spoiled_once a.0 b.0 a.1 b.1) ∙ sym b.2)
      (λ others. ⊎_elim (λ one. absurd (not_spoiled a.0 one.0.0 one.0.1 a.1.0 one.0.2 one.0.3 a.1.1)) (λ wide. absurd (chosen_not_spoiled wide.0 a.0 wide.1 wide.2 wide.3 a.1.0 a.1.1)) others) second)
      (λ rest. ⊎_elim
      (λ one. ⊎_elim (λ b. absurd (not_spoiled b.0 one.0.0 one.0.1 b.1.0 one.0.2 one.0.3 b.1.1))
      (λ others. ⊎_elim (λ two. one.1 ∙ sym two.1) (λ wide. absurd (marks_differ image wide.0 wide.1 wide.2 wide.3 one.0)) others) second)
      (λ wide. ⊎_elim (λ b. absurd (chosen_not_spoiled wide.0 b.0 wide.1 wide.2 wide.3 b.1.0 b.1.1))
      (λ others. ⊎_elim (λ two. absurd (marks_differ image wide.0 wide.1 wide.2 wide.3 two.0))
      (λ also. wide.5 ∙ ap slot_place (marks_unique image wide.0 also.0 wide.1 also.1 wide.2 also.2 wide.3 also.3).0 ∙ sym also.5) others) second)
      rest)
      first

  -- a bad mark is that of an open slot
  bad_opens : (p : ℕ) → IsHeaded image → IsBadMark image p → (¬ IsOpen image 0) → (¬ IsOpen image 1) → ⊥
  bad_opens p headed bad shut closed = ⊎_elim
      (λ a. in_one a.0 a.1.0 a.1.1.opened)
      (λ rest. ⊎_elim (λ one. in_one 0 (omega arith) (open_from_mark image 0 one.0.0 headed (omega arith) one.0.2)) (λ wide. in_one wide.0 wide.3.low (open_from_mark image wide.0 wide.1 wide.3.headed wide.3.low wide.3.here)) rest)
      bad
    where
      in_one : (s : ℕ) → s ≤ 1 → IsOpen image s → ⊥
      in_one s low is = ⊎_elim (λ zero. shut (subst (λ (k : ℕ). IsOpen image k) zero is)) (λ differs. let one : s ≡ 1 = omega (arith, low, differs) in closed (subst (λ (k : ℕ). IsOpen image k) one is)) (cases_eq s 0)

  no_marks_once : (p q : ℕ) → HasNoMarks image p → HasNoMarks image q → p ≡ q
  no_marks_once p q first second = ⊎_elim
      (λ short. ⊎_elim (λ also. short.1 ∙ sym also.1) (λ others. ⊎_elim (λ none. absurd (short.0 none.0.0)) (λ bad. absurd (short.0 bad.0)) others) second)
      (λ rest. ⊎_elim
      (λ none. ⊎_elim (λ short. absurd (short.0 none.0.0)) (λ others. ⊎_elim (λ also. none.1 ∙ sym also.1) (λ bad. absurd (bad_opens q bad.0 bad.1 none.0.1 none.0.2)) others) second)
      (λ bad. ⊎_elim (λ short. absurd (short.0 bad.0)) (λ others. ⊎_elim (λ none. absurd (bad_opens p bad.0 bad.1 none.0.1 none.0.2)) (λ also. bad_once p q bad.1 also.1) others) second)
      rest)
      first

  -- a record that stands before the end of a part stands before the end of all
  further : (end part place len : ℕ) (entry : Entry) → part ≤ end → IsRecordAt image part place len entry → IsRecordAt image end place len entry
  further end part place len entry le is = record { fits = is.fits; inside = let i = is.inside in omega (arith, i, le); bytes = is.bytes }

  -- where records go on behind a place, one stands there
  goes_on : (start p q end : ℕ) (before after : List Entry) → 256 ≤ p → p < q → q ≤ end → end ≤ length image → Spells before (bytes_in image (records_range p)) → Fit start before
      → Spells after (bytes_in image (records_range q)) → Fit start after → ((entry : Entry) → ¬ IsRecordAt image end p (grown start before) entry) → ⊥
  goes_on start p q end before after behind less within long spells fit also fits breaks =
      let parts : p + (q - p) ≡ q = omega (arith, less) in
      let all : bytes_in image (records_range q) ≡ bytes_in image (records_range p) ++ bytes_in image (record { start = p; count = q - p }) =
      ap (λ (k : ℕ). bytes_in image (records_range k)) (sym parts) ∙ longer_log image p (q - p) behind in
      let s = splits start start before after (bytes_in image (records_range p)) (bytes_in image (record { start = p; count = q - p })) fit fits spells (subst (λ (l : List ℕ). Spells after l) all also) in
      none s.0 s.1 s.2
    where
      count : length (bytes_in image (record { start = p; count = q - p })) ≡ q - p
      count = length-take-le (q - p) (drop p image) (let d = length-drop p image in omega (arith, d, less, within, long))

      none : (rest : List Entry) → after ≡ before ++ rest → Spells rest (bytes_in image (record { start = p; count = q - p })) → ⊥
      none [] is has = let l = ap length has in let c = count in omega (arith, l, c, less)
      none (e ∷ rest) is has = breaks e (further end q p (grown start before) e within
          (spelled_here image p q (grown start before) e rest (omega (arith, less)) (omega (arith, within, long)) (fit_later start before (e ∷ rest) (subst (λ (l : List Entry). Fit start l) is fits)).0 has))

  record_once : (p q : ℕ) → HasNoRecord image p → HasNoRecord image q → p ≡ q
  record_once p q first second =
      let u = marks_unique image first.slot second.slot first.chosen second.chosen first.other second.other first.marks.marks.chooses second.marks.marks.chooses in
      let ends : first.chosen.end ≡ second.chosen.end = ap (λ (m : Mark). m.end) u.1 in
      let bases : first.kept ≡ second.kept = based_once image first.kept second.kept first.based second.based in
      let long = first.marks.marks.fits.within in
      let fit_two : Fit first.kept.length second.before = subst (λ (k : BaseRecord). Fit k.length second.before) (sym bases) second.fit in
      let fit_one : Fit second.kept.length first.before = subst (λ (k : BaseRecord). Fit k.length first.before) bases first.fit in
      ⊎_elim
      (λ less. absurd (goes_on first.kept.length p q first.chosen.end first.before second.before first.behind less (let e = second.early in omega (arith, e, ends)) long first.spells first.fit second.spells fit_two first.breaks))
      (λ more. ⊎_elim
      (λ less. absurd (goes_on second.kept.length q p second.chosen.end second.before first.before second.behind less (let e = first.early in omega (arith, e, ends)) (omega (arith, long, ends)) second.spells second.fit first.spells fit_one second.breaks))
      (λ also. omega (arith, more, also))
      (cases_lt q p))
      (cases_lt p q)

  -- the marks of an image that is refused for another reason
  record Marked : Type 0 where
    slot : ℕ
    chosen : Mark
    other : Option Mark
    marks : AreMarks image slot chosen other

  marked_stand : (m : Marked) (place : ℕ) → ¬ HasNoMarks image place
  marked_stand m place = marks_stand image m.slot m.chosen m.other m.marks.chooses m.marks.fits place

  log_not_broken : (p : ℕ) (slot : ℕ) (chosen : Mark) (other : Option Mark) → AreLogMarks image slot chosen other → ¬ HasNoLogMark image p
  log_not_broken p slot chosen other are broken =
      broken.breaks (subst IsLogMark (marks_unique image slot broken.slot chosen broken.chosen other broken.other are.marks.chooses broken.marks.chooses).1 are.rules)

  pub refused_once : (p q : ℕ) → IsNoAside image p → IsNoAside image q → p ≡ q
  refused_once p q first second = ⊎_elim
      (λ one. ⊎_elim (λ two. no_marks_once p q one two) (λ rest. absurd (marked_stand (later rest) p one)) second)
      (λ others. ⊎_elim (λ two. absurd (marked_stand (later others) q two)) (λ rest. further_once others rest) second)
      first
    where
      later : {place : ℕ} → HasNoLogMark image place ⊎ (HasNoBase image place ⊎ HasNoRecord image place) → Marked
      later rest = ⊎_elim (λ a. record { slot = a.slot; chosen = a.chosen; other = a.other; marks = a.marks })
          (λ more. ⊎_elim (λ b. record { slot = b.slot; chosen = b.chosen; other = b.other; marks = b.marks.marks }) (λ d. record { slot = d.slot; chosen = d.chosen; other = d.other; marks = d.marks.marks }) more) rest

      further_once : HasNoLogMark image p ⊎ (HasNoBase image p ⊎ HasNoRecord image p) → HasNoLogMark image q ⊎ (HasNoBase image q ⊎ HasNoRecord image q) → p ≡ q
      further_once one two = ⊎_elim
          (λ a. ⊎_elim (λ b. a.place_is ∙ ap slot_place (marks_unique image a.slot b.slot a.chosen b.chosen a.other b.other a.marks.chooses b.marks.chooses).0 ∙ sym b.place_is)
          (λ rest. ⊎_elim (λ b. absurd (log_not_broken p b.slot b.chosen b.other b.marks a)) (λ b. absurd (log_not_broken p b.slot b.chosen b.other b.marks a)) rest) two)
          (λ rest. ⊎_elim
          (λ a. ⊎_elim (λ b. absurd (log_not_broken q a.slot a.chosen a.other a.marks b)) (λ more. ⊎_elim (λ b. a.place_is ∙ sym b.place_is) (λ b. absurd (a.breaks b.kept b.based)) more) two)
          (λ a. ⊎_elim (λ b. absurd (log_not_broken q a.slot a.chosen a.other a.marks b)) (λ more. ⊎_elim (λ b. absurd (b.breaks a.kept a.based)) (λ b. record_once p q a b) more) two)
          rest)
          one

  -- an aside file passes all tests
  pub aside_stands : (kept : BaseRecord) (place : ℕ) → IsAsideOf kept image → ¬ IsNoAside image place
  aside_stands kept place is refuses = ⊎_elim
      (λ one. marks_of_log kept image is.slot is.chosen is.other is.entries is.has place (inl one))
      (λ rest. ⊎_elim (λ two. marks_of_log kept image is.slot is.chosen is.other is.entries is.has place (inr two))
      (λ more. ⊎_elim (λ base. base.breaks kept is.has.based) (λ broken. not_broken broken) more) rest)
      refuses
    where
      not_broken : HasNoRecord image place → ⊥
      not_broken broken =
          let u = marks_unique image broken.slot is.slot broken.chosen is.chosen broken.other is.other broken.marks.marks.chooses is.has.chooses in
          let ends : broken.chosen.end ≡ is.chosen.end = ap (λ (m : Mark). m.end) u.1 in
          let bases : kept ≡ broken.kept = based_once image kept broken.kept is.has.based broken.based in
          goes_on broken.kept.length place is.chosen.end is.chosen.end broken.before is.entries broken.behind (let e = broken.early in omega (arith, e, ends)) (omega arith) is.has.within broken.spells broken.fit
          is.has.spells (subst (λ (k : BaseRecord). Fit k.length is.entries) bases is.has.fit) (subst (λ (e : ℕ). (entry : Entry) → ¬ IsRecordAt image e place (grown broken.kept.length broken.before) entry) ends broken.breaks)
