use Rattle.session.proofs.KeyedLines.{rests_in_turn}
use Rattle.session.proofs.keyed.replace_row.Goals as goal

pub returns-clause-rests : goal.returns-clause-rests
returns-clause-rests c = rests_in_turn c.args.views.now c.remove_row.new.views c.insert_row.new.views c.insert_row.ensures.rests c.remove_row.ensures.rests
