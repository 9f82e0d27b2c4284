use Rattle.std.proofs.Common.{◌++◌, ◌-◌, ◌∙◌, ap, length, take}
use Rattle.tables.specs.Lists.{head_tables}
use Rattle.tables.proofs.Chunks.{front-append}
use Rattle.tables.proofs.growing.Longer.cancel.Goals as goal

pub returns : goal.returns
returns c =
    ap (λ ts. head_tables c.self.inside.head ++ ts) c.pop.ensures
    ∙ front-append (head_tables c.self.inside.head) c.self.inside.last c.self.invariant
    ∙ ap (λ ts. take (length ts - 1) ts) c.self.view_is
