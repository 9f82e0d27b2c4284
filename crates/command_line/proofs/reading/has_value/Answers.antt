use Rattle.std.proofs.Common.{◌∙◌, sym}
use Rattle.clap.specs.Matches.{found_of}
use Rattle.command_line.proofs.Found.{is_found}
use Rattle.command_line.proofs.reading.has_value.Goals as goal

pub returns : goal.returns
returns c = c.is_some.ensures ∙ sym (is_found (found_of c.args.matches.now) c.args.name.now c.get_str.result c.get_str.ensures)
