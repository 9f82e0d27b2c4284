use Rattle.std.proofs.Common.{ap, sym}
use Rattle.tables.proofs.Apart.{Rest-self}
use Rattle.session.specs.Keyed.{edited_in_turn}
use Rattle.session.proofs.KeyedLines.{none_stands, rests_in_turn}
use Rattle.session.proofs.keyed.stand.Goals as goal

pub returns-in_ok-remove_other-in-Move-clause-rests : goal.returns-in_ok-remove_other-in-Move-clause-rests
returns-in_ok-remove_other-in-Move-clause-rests c =
    rests_in_turn c.args.views.now c.remove_other-in-Move.new.views c.replace_row.new.views c.replace_row.ensures.rests c.remove_other-in-Move.ensures.rests

pub returns-in_default : goal.returns-in_default
returns-in_default c = record {
  memory = tt;
  ok = sym (ap (λ edits. edited_in_turn c.args.views.now c.args.path.now edits) (none_stands c.args.row.now c.args.edit c.in_default.not-Change c.in_default.not-Move));
  rests = Rest-self _;
}
