-- The letter is tested as the walk tests it.
use Rattle.std.proofs.Common.{sym, ◌∙◌}
use Rattle.mk_value.specs.Kinds.{domain_of}
use Rattle.struct_text.proofs.LetterParts.{letter_ends, letter_floats, letter_wrong, letter_found}
use Rattle.struct_text.proofs.reading.read_letter.Goals as goal

pub returns-in_default-clause-refused : goal.returns-in_default-clause-refused
returns-in_default-clause-refused c = letter_ends c.args.bytes.now c.args.at c.in_default.ensures.end

pub returns-then-is_floating-clause-refused : goal.returns-then-is_floating-clause-refused
returns-then-is_floating-clause-refused c =
    letter_floats c.args.bytes.now c.args.at c.in-Some.letter c.in-Some.ensures.found.1 (sym c.is_floating.ensures ∙ c.if-is_floating.true)

pub returns-in-Some-kind_of-clause-found : goal.returns-in-Some-kind_of-clause-found
returns-in-Some-kind_of-clause-found c =
    letter_found c.args.bytes.now c.args.at c.in-Some.letter (domain_of c.in-Some-kind_of.kind) c.in-Some.ensures.found.0 c.in-Some.ensures.found.1 c.in-Some-kind_of.ensures.found

pub returns-in-None-clause-refused : goal.returns-in-None-clause-refused
returns-in-None-clause-refused c =
    letter_wrong c.args.bytes.now c.args.at c.in-Some.letter c.in-Some.ensures.found.1 c.in-None.ensures.none (sym c.is_floating.ensures ∙ c.if-is_floating.false)
