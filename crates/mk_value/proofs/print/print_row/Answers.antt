-- What was there before is a text, and it stands at the front.
use Rattle.std.proofs.Common.{sym, ◌∙◌}
use Rattle.mk_value.proofs.Appending.{utf8_front}
use Rattle.mk_value.proofs.print.print_row.Goals as goal

pub truncate-requires : goal.truncate-requires
truncate-requires c =
    utf8_front _ _ _ _ _ c.len-before.ensures.value (sym c.is_err.ensures.value ∙ c.if-is_err.true) c.len-before.ensures.utf8 c.append_row-appended.ensures
