use Rattle.session.proofs.OnlyReading.{leaves_the_file}
use Rattle.session.proofs.laws.reading_leaves_the_file.Goals as goal

pub returns : goal.returns
returns c = leaves_the_file
