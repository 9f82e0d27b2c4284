use Rattle.std.proofs.Common.{[], ◌∷◌, length}
use Rattle.mk_value.specs.Names.{IsName}
use Rattle.mk_value.specs.Tokens.{word}
use Rattle.expr_text.specs.Readers.{rest_of}
use Rattle.expr_text.proofs.Lists.{ListRead}
use Rattle.expr_text.proofs.reader.Reader.names_of.Given as goal

abbrev pub invariant-members : goal.invariant-members
invariant-members l = ListRead l.item IsName (λ n. word n ∷ []) (rest_of l.fn.self) l.list (rest_of l.self)

abbrev pub decreases-members : goal.decreases-members
decreases-members l = length l.self.rest.now
