use Rattle.aside_disk.proofs.Parsed.{logical_unique}
use Rattle.aside_disk.proofs.laws.files_are_one.Goals as goal

pub returns : goal.returns
returns c = logical_unique
