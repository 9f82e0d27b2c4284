use Rattle.std.proofs.Common.{[], ◌∷◌, subst, sym}
use Rattle.expr_text.specs.Readers.{Fails, rest_of}
use Rattle.expr_text.specs.Walk.{a_path}
use Rattle.expr_text.specs.declared.error.ExprError.TheVariants.{Syntax}
use Rattle.expr_text.proofs.Pieces.{path_fails, path_meets, spells_front}
use Rattle.expr_text.proofs.reader.Reader.path.Goals as goal

pub returns-in-Ok-clause-spells : goal.returns-in-Ok-clause-spells
returns-in-Ok-clause-spells c = spells_front _ _ _ c.in-Ok.ensures.spells.is

pub returns-in-Ok-clause-meets : goal.returns-in-Ok-clause-meets
returns-in-Ok-clause-meets c = path_meets _ _ _ _ c.in-Ok.ensures.spells c.in-Ok.ensures.ends

pub returns-in-Err-Stuck-clause-fails : goal.returns-in-Err-Stuck-clause-fails
returns-in-Err-Stuck-clause-fails c =
    subst (λ place. Fails (a_path ∷ []) (rest_of c.args.self.now) (Syntax place)) (sym c.place_behind.ensures) (path_fails _ _ _ _ c.in-Err-Stuck.field-0-is c.in-Err-Stuck.ensures.stuck)
