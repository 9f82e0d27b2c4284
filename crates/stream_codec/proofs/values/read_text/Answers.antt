use Rattle.std.proofs.Common.{◌∙◌, sym, subst}
use Rattle.std.proofs.lemmas.Bool.{false≢true}
use Rattle.mk_value.specs.Data.{IsText}
use Rattle.stream_codec.proofs.ReadFields.{text_is, text_wrong}
use Rattle.stream_codec.proofs.values.read_text.Goals as goal
use Rattle.stream_codec.proofs.values.read_text.Goals.{in_default-via-in-Ok+else-is_text, in_default-via-in_default}

pub returns-in_ok-from_str-in-Ok : goal.returns-in_ok-from_str-in-Ok
returns-in_ok-from_str-in-Ok c =
    text_is c.args.field.now c.in_ok-from_str-in-Ok.field-0.bytes (c.in_ok-from_str-in-Ok.ensures ∙ c.in-Ok.ensures.cases.0)
    (subst IsText c.in-Ok.ensures.cases.0 (c.is_text.ensures.0 c.if-is_text.true)) c.requires

pub returns-in_default : goal.returns-in_default
returns-in_default c = text_wrong c.args.field.now c.args.place
    (elim c.in_default.branch [
      | in_default-via-in-Ok+else-is_text w ↦ λ is. false≢true (w.if-is_text.ensures.1 (subst IsText (sym w.in-Ok.ensures.cases.0) is))
      | in_default-via-in_default w ↦ λ is. w.in_default.ensures.cases.0 is.utf8
    ])
