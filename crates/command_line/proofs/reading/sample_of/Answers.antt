use Rattle.std.proofs.Common.{◌≡◌, ◌∙◌, arith, sym}
use Rattle.std.proofs.lemmas.Fmt.{decimal_injective}
use Rattle.command_line.proofs.reading.sample_of.Goals as goal

pub returns-then-count-gt-MOST_EDITS-clause-none : goal.returns-then-count-gt-MOST_EDITS-clause-none
returns-then-count-gt-MOST_EDITS-clause-none c = λ task means.
    let same : means.edits ≡ c.in_ok-count.count = decimal_injective means.edits c.in_ok-count.count (omega (arith, means.most)) (omega arith) (sym means.counted ∙ c.in_ok-count.ensures.some) in
    omega (arith, means.most)
