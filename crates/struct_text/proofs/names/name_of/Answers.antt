-- The bytes of a name are ASCII, so they are UTF-8 and nothing is refused.
use Rattle.std.proofs.Common.{rules}
use Rattle.mk_value.proofs.Names.{IsUtf8-name}
use Rattle.struct_text.proofs.names.name_of.Goals as goal

pub unwrap-requires : goal.unwrap-requires
unwrap-requires c = let text = IsUtf8-name c.args.word.now c.requires in search (rules, text, c.from_utf8.ensures.cases)
