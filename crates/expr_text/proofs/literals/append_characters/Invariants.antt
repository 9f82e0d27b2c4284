use Rattle.std.proofs.Common.{◌≡◌, ◌++◌, List, ℕ}
use Rattle.std.specs.List.{flat_map}
use Rattle.mk_value.specs.Appending.{Appends}
use Rattle.mk_value.specs.Tokens.{escaped}
use Rattle.expr_text.proofs.literals.append_characters.Given as goal

-- some front of the text was appended, and the rest is to come
abbrev pub invariant-loop-character : goal.invariant-loop-character
invariant-loop-character l = (front : List ℕ) × (l.text ≡ front ++ l.character-iterator.rest.now) × Appends l.fn.out (flat_map escaped front) l.out
