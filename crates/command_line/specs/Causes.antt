-- Why words give no job, by the kind of `clap`'s error.
use Rattle.clap.specs.declared.error.kind.ErrorKind.{ErrorKind}
use Rattle.clap.specs.declared.error.kind.ErrorKind.TheVariants.{OutOfMemory}
use Rattle.command_line.specs.declared.error.WordsError.{WordsError}
use Rattle.command_line.specs.declared.error.WordsError.TheVariants.{Usage, Memory}

-- want of memory is no fault of the words, and every other kind is one, help and version among them
abbrev pub cause_of : ErrorKind → WordsError
cause_of OutOfMemory = Memory
cause_of _ = Usage
