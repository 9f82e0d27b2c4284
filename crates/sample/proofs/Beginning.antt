-- How the lines of a sample begin.
use Rattle.std.proofs.Common.{arith}
use Rattle.sample.specs.Edits.{edit_line}
use Rattle.sample.specs.Lines.{BeginsWithVerb}
use Rattle.sample.specs.declared.edit.Edit.{Edit}
use Rattle.sample.specs.declared.edit.Edit.TheVariants.{Set, Remove, Commit, Add}

pub edit_begins : (edit : Edit) → BeginsWithVerb (edit_line edit)
edit_begins (Set row quantity) = (λ is. omega (arith, is), λ is. omega (arith, is))
edit_begins (Remove row) = (λ is. omega (arith, is), λ is. omega (arith, is))
edit_begins Commit = (λ is. omega (arith, is), λ is. omega (arith, is))
edit_begins (Add id name quantity) = (λ is. omega (arith, is), λ is. omega (arith, is))
