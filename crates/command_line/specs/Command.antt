-- The one command that words are read as, as `clap` sees it.
use Rattle.std.specs.Prelude.{ℕ, List, [], ◌∷◌, Some, true, codes, fold}
use Rattle.clap.specs.Simple.{App, new_app, new_rule, with_rule}
use Rattle.clap.specs.Walk.{Rule}
use Rattle.clap.specs.declared.builder.action.ArgAction.TheVariants.{Set, SetTrue}

-- `--NAME` with one value
abbrev pub option_rule : List ℕ → Rule
option_rule name = record (new_rule name) { long = Some name; action = Some Set }

-- `--NAME` without a value
abbrev pub flag_rule : List ℕ → Rule
flag_rule name = record (new_rule name) { long = Some name; action = Some SetTrue }

-- a word that has to be there
abbrev pub required_rule : List ℕ → Rule
required_rule name = record (new_rule name) { required = true; action = Some Set }

abbrev pub rules : List Rule
rules = option_rule (codes "cap") ∷ flag_rule (codes "extend") ∷ flag_rule (codes "read") ∷ flag_rule (codes "check")
    ∷ option_rule (codes "sample") ∷ option_rule (codes "count") ∷ flag_rule (codes "save") ∷ flag_rule (codes "load") ∷ option_rule (codes "aside") ∷ required_rule (codes "file") ∷ []

-- no subcommand, no short option, and nothing that excludes or requires another
unfoldable pub the_command : App
the_command = fold with_rule (new_app (codes "mkshell")) rules
