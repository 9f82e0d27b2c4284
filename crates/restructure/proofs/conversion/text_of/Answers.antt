use Rattle.std.proofs.Common.{◌≡◌, true, false, sym, subst, ◌∙◌}
use Rattle.mk_value.specs.Data.{IsText}
use Rattle.view_store.proofs.Editing.{IfOk-then}
use Rattle.restructure.proofs.Texts.{text_kept, text_lost}
use Rattle.restructure.proofs.conversion.text_of.Goals as goal
use Rattle.restructure.proofs.conversion.text_of.Goals.{in_default-via-in-Ok+else-is_text, in_default-via-in_default}

pub returns-in-Ok : goal.returns-in-Ok
returns-in-Ok c =
    let content : c.in-Ok.text.now ≡ c.args.bytes.now = c.in-Ok.ensures.cases.0 in
    let text : IsText c.args.bytes.now = subst IsText content (c.is_text.ensures.0 c.if-is_text.true) in
    IfOk-then c.from_slice.result c.from_slice.ensures (λ made e. e ∙ sym (text_kept c.args.bytes.now text))

pub returns-in_default : goal.returns-in_default
returns-in_default c =
    elim c.in_default.branch [
      | in_default-via-in-Ok+else-is_text w ↦
          let content : w.in-Ok.text.now ≡ c.args.bytes.now = w.in-Ok.ensures.cases.0 in
          c.new.ensures ∙ sym (text_lost c.args.bytes.now (λ text.
          let yes : w.is_text.result ≡ true = w.is_text.ensures.1 (subst IsText (sym content) text) in
          let other = w.if-is_text.false in
          absurd (let e : false ≡ true = sym other ∙ yes in cc)))
      | in_default-via-in_default w ↦
          c.new.ensures ∙ sym (text_lost c.args.bytes.now (λ text. w.in_default.ensures.cases.0 text.utf8))
    ]
