use Rattle.std.proofs.Common.{◌∙◌, Some, ap, codes, sym}
use Rattle.clap.specs.Matches.{found_of}
use Rattle.command_line.proofs.Found.{none_found, text_found}
use Rattle.command_line.proofs.reading.aside_of.Goals as goal

pub returns-in_ok-from_str-in-Some : goal.returns-in_ok-from_str-in-Some
returns-in_ok-from_str-in-Some c =
    ap Some c.in_ok-from_str-in-Some.ensures ∙ sym (text_found (found_of c.args.matches.now) (codes "aside") c.get_str.result c.get_str.ensures c.in-Some.name c.in-Some.is)

pub returns-in-None : goal.returns-in-None
returns-in-None c = sym (none_found (found_of c.args.matches.now) (codes "aside") c.get_str.result c.get_str.ensures c.in-None.is)
