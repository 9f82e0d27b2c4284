use Rattle.std.proofs.Common.{ℕ, IsTrue, false, refl, subst, sym, ◌∙◌, inr, arith}
use Rattle.std.proofs.lemmas.List.{length-take-le}
use Rattle.std.proofs.lemmas.Result.{err_from_is_err_and}
use Rattle.commit_marks.specs.Marks.{FitsFile}
use Rattle.commit_marks.proofs.Heads.{header_in_head, parts_of}
use Rattle.commit_marks.proofs.choosing.choose.Goals as goal

pub slice_bounds-is_header-end : goal.slice_bounds-is_header-end
slice_bounds-is_header-end c = sym (length-take-le 64 c.args.head.now (omega arith))

pub returns-then-not-is_header-clause-gives : goal.returns-then-not-is_header-clause-gives
returns-then-not-is_header-clause-gives c = λ image is headed.
    let passes : IsTrue false = c.if-not-is_header.ensures.1 (header_in_head c.args.head.now image c.args.len is ∙ headed.header) in cc

pub returns-in_err-marks-clause-gives : goal.returns-in_err-marks-clause-gives
returns-in_err-marks-clause-gives c = λ image is.
    let parts = parts_of c.args.head.now image c.args.len c.read_slot.result c.read_slot-2.result c.requires is (c.if-not-is_header.ensures.0 refl) c.read_slot.ensures c.read_slot-2.ensures in
    let p = err_from_is_err_and c.from_residual.result c.from_residual.ensures.1 in
    rw (p.1, p.2) (c.in_err-marks.ensures.gives image parts.0 parts.1 parts.2)

pub returns-then-fits_file-clause-gives : goal.returns-then-fits_file-clause-gives
returns-then-fits_file-clause-gives c = λ image is.
    let parts = parts_of c.args.head.now image c.args.len c.read_slot.result c.read_slot-2.result c.requires is (c.if-not-is_header.ensures.0 refl) c.read_slot.ensures c.read_slot-2.ensures in
    record {
      chooses = c.in_ok-marks.ensures.gives image parts.0 parts.1 parts.2;
      fits = subst (λ (len : ℕ). FitsFile len c.in_ok-marks.marks.chosen) (sym is.long) (c.if-fits_file.ensures.0 refl);
    }

pub returns-else-fits_file-clause-gives : goal.returns-else-fits_file-clause-gives
returns-else-fits_file-clause-gives c = λ image is.
    let parts = parts_of c.args.head.now image c.args.len c.read_slot.result c.read_slot-2.result c.requires is (c.if-not-is_header.ensures.0 refl) c.read_slot.ensures c.read_slot-2.ensures in
    let chooses = c.in_ok-marks.ensures.gives image parts.0 parts.1 parts.2 in
    let marks = c.in_ok-marks.marks in (
      parts.0,
      inr (inr (
        marks.slot,
        marks.chosen,
        marks.other,
        chooses,
        (λ fits. let passes : IsTrue false = c.if-fits_file.ensures.1 (subst (λ (len : ℕ). FitsFile len marks.chosen) is.long fits) in cc),
        omega (arith, c.from.ensures),
      )),
    )
