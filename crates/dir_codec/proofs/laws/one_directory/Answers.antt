use Rattle.dir_codec.proofs.Spelled.{one_dir}
use Rattle.dir_codec.proofs.laws.one_directory.Goals as goal

pub returns : goal.returns
returns c = one_dir
