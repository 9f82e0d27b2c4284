use Rattle.command_line.proofs.Lone.{lone_asks_for}
use Rattle.command_line.proofs.laws.a_name_alone_is_served.Goals as goal

pub returns : goal.returns
returns c = λ program rest first job plain served. lone_asks_for first rest plain program job served
