use Rattle.std.proofs.Common.{◌≡◌, ℕ, ◌+◌, ◌<◌, List, ◌∷◌, length, get_or, drop, ap, sym, subst, ◌∙◌}
use Rattle.std.proofs.lemmas.List.{drop_more, drop_all}
use Rattle.row_edits.specs.declared.edit.RowEdit.{RowEdit}
use Rattle.row_edits.specs.Edits.{AreInRange, IsInRange, size_after, size_by}
use Rattle.row_edits.proofs.origin.size_by.Goals as goal

module _ (edits : List RowEdit) (i size : ℕ) (d : RowEdit) (p : i < length edits) (h : AreInRange (drop i edits) size) where
  next : AreInRange (get_or edits i d ∷ drop (i + 1) edits) size
  next = subst (λ es. AreInRange es size) (drop_more edits i d p) h

  next_here : IsInRange (get_or edits i d) size
  next_here = next.0

  next_rest : (n total : ℕ) → n ≡ size_after (get_or edits i d) size → size_by (drop i edits) size ≡ total
      → AreInRange (drop (i + 1) edits) n × (size_by (drop (i + 1) edits) n ≡ total)
  next_rest n total e t = (
    subst (AreInRange (drop (i + 1) edits)) (sym e) next.1,
    ap (size_by (drop (i + 1) edits)) e ∙ sym (ap (λ es. size_by es size) (drop_more edits i d p)) ∙ t,
  )

pub size_after-rows-requires : goal.size_after-rows-requires
size_after-rows-requires c = next_here c.args.edits.now c.loop-edit.edit-index c.loop-edit.rows _ c.loop-edit-test.true c.loop-edit.invariant.0

pub loop-edit-preserved : goal.loop-edit-preserved
loop-edit-preserved c =
    next_rest c.args.edits.now c.loop-edit.edit-index c.loop-edit.rows _ c.loop-edit-test.true c.loop-edit.invariant.0 c.size_after-rows.result (size_by c.args.edits.now c.args.size) c.size_after-rows.ensures c.loop-edit.invariant.1

pub returns : goal.returns
returns c =
    sym (ap (λ es. size_by es c.loop-edit.rows) (drop_all c.loop-edit.edit-index c.args.edits.now c.loop-edit-test.false)) ∙ c.loop-edit.invariant.1
