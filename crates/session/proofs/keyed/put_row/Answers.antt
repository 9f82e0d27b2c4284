use Rattle.std.proofs.Common.{ap, sym}
use Rattle.tables.proofs.Apart.{Rest-self}
use Rattle.session.specs.Keyed.{edited_in_turn}
use Rattle.session.proofs.KeyedLines.{none_put}
use Rattle.session.proofs.keyed.put_row.Goals as goal

pub returns-in_default : goal.returns-in_default
returns-in_default c = record {
  memory = tt;
  ok = sym (ap (λ edits. edited_in_turn c.args.views.now c.args.path.now edits) (none_put c.args.row.now c.args.edit c.in_default.not-Put c.in_default.not-Replace));
  rests = Rest-self _;
}
