use Rattle.std.proofs.Common.{◌≡◌, ℕ, ◌<◌, Bool, true, false, List, length, refl, ap, sym, ◌∙◌}
use Rattle.mk_value.specs.Data.{Datum}
use Rattle.row_edits.specs.declared.edit.RowEdit.{RowEdit}
use Rattle.row_edits.specs.Edits.{bring, edited_by}
use Rattle.row_edits.specs.Lines.{row_at}
use Rattle.row_edits.proofs.Editing.{edited_by_any}
use Rattle.row_edits.proofs.laws.lines_are_edits.Goals as goal

pub returns : goal.returns
returns c = λ edits home row before after h made home_is. record {
  in_range = h;
  there = λ b. (home_is b).0;
  made = made ∙ same edits home row before after home_is (bring edits) refl;
}
  where
    same : (edits : List RowEdit) (home : ℕ) (row : List Datum) (before after : List (List Datum)) → (bring edits ≡ true → (home < length after) × (row_at after home ≡ row))
        → (b : Bool) → bring edits ≡ b → edited_by row edits before ≡ edited_by (row_at after home) edits before
    same edits home row before after h true e = ap (λ r. edited_by r edits before) (sym (h e).1)
    same edits home row before after h false e = edited_by_any row (row_at after home) edits before e
