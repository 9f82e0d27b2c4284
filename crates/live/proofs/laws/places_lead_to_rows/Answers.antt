use Rattle.live.proofs.Leading.{row_stands}
use Rattle.live.proofs.laws.places_lead_to_rows.Goals as goal

pub returns : goal.returns
returns c = record {
  within = λ schema rows watches k d i h p q. (row_stands schema rows watches k d i h p q).0;
  value = λ schema rows watches k d i h p q. (row_stands schema rows watches k d i h p q).1;
}
