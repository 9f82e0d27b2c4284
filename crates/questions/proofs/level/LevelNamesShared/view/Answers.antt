use Rattle.std.proofs.Common.{List, [], ◌++◌, map, ap, eqb, length, sym, subst, ◌∙◌}
use Rattle.std.specs.Prelude.{find}
use Rattle.std.proofs.lemmas.Bool.{false≢true}
use Rattle.mk_value.specs.declared.path.Step.{Step}
use Rattle.computing.specs.Computed.{names_of}
use Rattle.computing.proofs.Naming.{no_steps}
use Rattle.derived.specs.Layers.{table_of}
use Rattle.eval.specs.Names.{IsSeen, seen_at}
use Rattle.questions.proofs.Found.{is_this, no_steps_left}
use Rattle.questions.proofs.Levels.{Refused, refused_before, seen_before, seen_behind, seen_stepped}
use Rattle.questions.proofs.level.LevelNamesShared.view.Goals as goal

pub returns-then-not-is_empty : goal.returns-then-not-is_empty
returns-then-not-is_empty g c =
    let l = c.args.self.now in
    let first = g.N.Names.named l.names.now in
    let sources = g.S.Names.named l.sources.now in
    let viewers = map g.V.Viewer.meaning l.viewers.now in
    let second = names_of sources viewers l.watches.now in
    let path = c.args.path.now in
    subst (λ due. IsSeen due c.view.result)
    (sym (seen_stepped first second path.name path.steps
    (λ none. false≢true (sym (sym c.is_empty.ensures ∙ c.if-not-is_empty.true) ∙ ap (λ (steps : List Step). eqb (length steps) 0) (c.steps.ensures ∙ none)))
    (no_steps sources viewers l.watches.now path.name)))
    c.view.ensures

pub returns-in-Ok : goal.returns-in-Ok
returns-in-Ok g c =
    let l = c.args.self.now in
    let first = g.N.Names.named l.names.now in
    let second = names_of (g.S.Names.named l.sources.now) (map g.V.Viewer.meaning l.viewers.now) l.watches.now in
    let path = c.args.path.now in
    seen_before first second path.name path.steps (table_of c.in-Ok.table) c.in-Ok.ensures

pub returns-in-Err : goal.returns-in-Err
returns-in-Err g c =
    let l = c.args.self.now in
    let first = g.N.Names.named l.names.now in
    let second = names_of (g.S.Names.named l.sources.now) (map g.V.Viewer.meaning l.viewers.now) l.watches.now in
    let path = c.args.path.now in
    let none = sym c.steps.ensures ∙ no_steps_left c.steps.result.now (sym c.is_empty.ensures ∙ c.if-not-is_empty.false) in
    let seen = subst (λ steps. Refused (seen_at (find (is_this path.name) first) steps) c.in-Err.error) none c.in-Err.ensures in
    subst (λ due. IsSeen due c.computed_table.result)
    (sym (ap (λ steps. seen_at (find (is_this path.name) (first ++ second)) steps) none ∙ seen_behind first second path.name c.in-Err.error (c.is_absent.ensures.0 c.if-is_absent.true) seen))
    (subst (λ name. IsSeen (seen_at (find (is_this name) second) []) c.computed_table.result) c.name.ensures c.computed_table.ensures)

pub returns-in-Err-2 : goal.returns-in-Err-2
returns-in-Err-2 g c =
    let l = c.args.self.now in
    let first = g.N.Names.named l.names.now in
    let second = names_of (g.S.Names.named l.sources.now) (map g.V.Viewer.meaning l.viewers.now) l.watches.now in
    let path = c.args.path.now in
    refused_before first second path.name path.steps c.in-Err.error c.in-Err.ensures (λ same. false≢true (sym c.if-is_absent.false ∙ c.is_absent.ensures.1 same))
