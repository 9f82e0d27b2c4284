-- What the tests of an opening find.
use Rattle.std.proofs.Common.{◌≡◌, refl, sym, ◌∙◌, ap, subst, ℕ, ◌+◌, ◌^◌, ◌<◌, ◌≤◌, inl, inr, ⊎_elim, List, [], ◌∷◌, ◌++◌, length, arith, false, Ok, Err, Option, Some, None}
use Rattle.commit_marks.specs.declared.error.MarkError.{MarkError}
use Rattle.commit_marks.specs.declared.error.MarkError.TheVariants.{NotAStore, NoOpenMark, BadMark, Failed}
use Rattle.commit_marks.specs.Marks.{IsMarkRefusal}
use Rattle.aside_disk.specs.Marked.{refusal_of}
use Rattle.commit_marks.specs.declared.mark.Mark.{Mark}
use Rattle.aside_disk.specs.declared.error.AsideError.{AsideError}
use Rattle.aside_disk.specs.declared.error.BaseRecord.{BaseRecord}
use Rattle.aside_disk.specs.Refusals.{AreLogMarks}
use Rattle.aside_disk.specs.Opening.{GivesLogMarks, Opens, ReadsLog, Walks, first_mark, new_bytes}
use Rattle.aside_disk.specs.Walking.{Steps, Walked}
use Rattle.aside_disk.specs.declared.walking.Walk.{Walk}
use Rattle.aside_disk.specs.declared.walking.Record.{Record}
use Rattle.aside_disk.specs.declared.error.AsideError.TheVariants as aside
use Rattle.aside_disk.specs.Records.{Entry, record_len}
use Rattle.aside_disk.specs.Logical.{HasLog, IsBased}
use Rattle.std.proofs.lemmas.List.{nil_from_length}
use Rattle.host_io.specs.Disk.{DiskState, IsSettled, settled}
use Rattle.host_io.specs.Outside.{Moment, Outside}
use Rattle.host_io.specs.Calls.{Looks, put_bytes}
use Rattle.host_io.specs.Ranges.{PutsAndSyncs}
use Rattle.host_io.proofs.Images.{IsSettled-settled}
use Rattle.aside_disk.proofs.Walked.{seen_same, walked_step}

pub marks_refused : (image : List ℕ) (m : MarkError) → IsMarkRefusal image m → GivesLogMarks image (Err (refusal_of m))
marks_refused image NotAStore is = inl (inl (is, refl))
marks_refused image NoOpenMark is = inl (inr (inl (is, refl)))
marks_refused image (BadMark place) is = inl (inr (inr is))
marks_refused image Failed is = tt

-- the records that a walk went over
abbrev pub Went : List ℕ → ℕ → ℕ → ℕ → Type 0
Went image start at len = (before : List Entry) × Walked image start at len before

pub went_on : (image : List ℕ) (start : ℕ) (old new : Walk) (found : Record) → old.end ≤ length image → 256 ≤ old.at → Steps image old new (Some found) → Went image start old.at old.len → Went image start new.at new.len
went_on image start old new found long behind steps went = (
  went.0 ++ steps.0 ∷ [],
  subst (λ (a : ℕ). Walked image start a new.len (went.0 ++ steps.0 ∷ [])) (sym steps.3)
      (subst (λ (l : ℕ). Walked image start (old.at + record_len (length steps.0.bytes)) l (went.0 ++ steps.0 ∷ [])) (sym steps.4) (walked_step image old.end old.at old.len steps.0 steps.1 long start went.0 behind went.1)),
)

-- the refusals of a file that is read as a log
pub no_marks : (image : List ℕ) (given : BaseRecord) (e : AsideError) → GivesLogMarks image (Err e) → ReadsLog image given (Err e)
no_marks image given (aside.At place) is = ⊎_elim (λ one. inl one) (λ two. inr (inl two)) is
no_marks image given (aside.OtherBase kept other) is = absurd is
no_marks image given aside.Failed is = tt

pub no_log : (image : List ℕ) (given kept : BaseRecord) (slot : ℕ) (chosen : Mark) (other : Option Mark) (e : AsideError) → AreLogMarks image slot chosen other → IsBased kept image
    → Walks image kept.length chosen.end (Err e) → ReadsLog image given (Err e)
no_log image given kept slot chosen other (aside.At place) marks based is = inr (inr (inr (record {
  slot = slot;
  chosen = chosen;
  other = other;
  marks = marks;
  kept = kept;
  based = based;
  before = is.0;
  behind = is.1;
  early = is.2;
  spells = is.3;
  fit = is.4;
  breaks = is.5;
})))
no_log image given kept slot chosen other (aside.OtherBase kept' other') marks based is = absurd is
no_log image given kept slot chosen other aside.Failed marks based is = tt

-- a new aside file
pub new_log : (given : BaseRecord) → given.length < 2 ^ 64 → given.number < 2 ^ 64 → HasLog given (new_bytes given) 0 first_mark None []
new_log given length_fits number_fits = record {
  chooses = record {
    headed = record { long = omega arith; header = refl };
    low = omega arith;
    here = record { good = record { version = inl refl; number = omega arith; place = omega arith; len = omega arith; end = omega arith }; bytes = refl };
    beside = λ open_. omega (arith, open_);
  };
  within = omega arith;
  mark = record { version = refl; place = refl; aligned = refl; based = omega arith; end = refl; bound = omega arith };
  based = record { length_fits = length_fits; number_fits = number_fits; bytes = refl };
  spells = refl;
  fit = tt;
}

-- it was made where the file was empty
pub opened_new : {T E : Type 0} {x : T} (given : BaseRecord) → given.length < 2 ^ 64 → given.number < 2 ^ 64 → {old mid new : Outside} → Looks old mid → length old.now.disk.seen ≡ 0 → PutsAndSyncs {E = E} 0 (new_bytes given) mid new (Ok x)
    → Opens given old new (Ok (record { marks = record { chosen = first_mark; slot = 0; other = None }; end = 256; len = given.length; unsure = false }))
opened_new given length_fits number_fits {old} {mid} {new} looks none puts =
    let empty : old.now.disk.seen ≡ [] = nil_from_length old.now.disk.seen none in
    let settled_is : new.now.disk ≡ settled (new_bytes given) = puts.ok ∙ ap (λ (l : List ℕ). settled (put_bytes l 0 (new_bytes given))) (seen_same looks ∙ empty) in
    let seen_is : new.now.disk.seen ≡ new_bytes given = ap (λ (d : DiskState). d.seen) settled_is in (
      record {
        rests = subst (λ (d : DiskState). IsSettled d) (sym settled_is) (IsSettled-settled (new_bytes given));
        entries = [];
        has = subst (λ (l : List ℕ). HasLog given l 0 first_mark None []) (sym seen_is) (new_log given length_fits number_fits);
        end_is = refl;
        len_is = refl;
        sure = refl;
      },
      puts.said ∙ ap (λ (m : Moment). m.said) looks.still.now,
      puts.input ∙ looks.input,
      inl (empty, seen_is),
    )
