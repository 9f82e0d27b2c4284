use Rattle.clap.specs.Simple.{matches_of}
use Rattle.command_line.proofs.OneJob.{one_job}
use Rattle.command_line.specs.Command.{the_command}
use Rattle.command_line.proofs.laws.words_ask_for_one_job.Goals as goal

pub returns : goal.returns
returns c = λ words one other asks asks-2. one_job (matches_of the_command words) one other asks.asks asks-2.asks
