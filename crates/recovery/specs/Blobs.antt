-- What a directory has of a column of texts or byte strings, as it is handed to be read.
use Rattle.std.specs.Prelude.{List}
use Rattle.dir_codec.specs.declared.dir.Memo.{Memo}
use Rattle.recovery.specs.declared.strings.StringBlocks.{StringBlocks}
use Rattle.recovery.specs.Strings.{Parts}

abbrev pub parts_of : StringBlocks → List Memo → Parts
parts_of b memos = record { width = b.width; sizes = b.sizes; short = b.short; memos = memos }
