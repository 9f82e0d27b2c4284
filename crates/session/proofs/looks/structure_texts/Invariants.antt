use Rattle.std.proofs.Common.{◌≡◌, ◌++◌, drop}
use Rattle.cmd_text.specs.Replies.{contents}
use Rattle.session.specs.Structures.{structure_texts}
use Rattle.session.proofs.looks.structure_texts.Given as goal

-- the texts so far, with those to come, are those of all views
abbrev pub invariant-loop-at : goal.invariant-loop-at
invariant-loop-at l = contents l.texts ++ structure_texts (drop l.at l.names) (drop l.at l.tables) ≡ structure_texts l.names l.tables
