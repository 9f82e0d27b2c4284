use Rattle.row_edits.proofs.Eventing.{begun_all, begun_more, begun_none, begun_range}
use Rattle.row_edits.proofs.laws.events_happen.Goals as goal

pub returns-clause-next : goal.returns-clause-next
returns-clause-next c = λ e k row rows. begun_more row e k rows

pub returns-clause-none : goal.returns-clause-none
returns-clause-none c = λ e row rows. begun_none row e rows

pub returns-clause-all : goal.returns-clause-all
returns-clause-all c = begun_all

pub returns-clause-some : goal.returns-clause-some
returns-clause-some c = begun_range
