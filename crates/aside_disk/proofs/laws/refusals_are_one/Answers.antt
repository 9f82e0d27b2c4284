use Rattle.aside_disk.proofs.Refused.{aside_stands, based_once, refused_once}
use Rattle.aside_disk.proofs.laws.refusals_are_one.Goals as goal

pub returns : goal.returns
returns c = record {
  place = refused_once;
  none = λ image place kept refuses is. aside_stands image kept place is refuses;
  base = λ image one other first second. based_once image one other first.has.based second.has.based;
}
