use Rattle.live.proofs.Edits.{inserted_turn, removed_turn, set_turn}
use Rattle.live.proofs.laws.edits_are_events.Goals as goal

pub returns : goal.returns
returns c = record {
  comes = λ p rows row le. inserted_turn rows p row le;
  goes = λ p rows lt. removed_turn rows p lt;
  changes = λ p rows row lt. set_turn rows p row lt;
}
