use Rattle.std.proofs.Common.{ap, ◌∙◌}
use Rattle.cmd_text.specs.Replies.{lines_text}
use Rattle.view_store.specs.Views.{view_names}
use Rattle.session.specs.Structures.{structure_texts, structures}
use Rattle.session.specs.World.{World}
use Rattle.session.proofs.Walked.{structures_of}
use Rattle.session.proofs.session.Session.structures.Goals as goal

pub returns-in-Ok-clause-lines : goal.returns-in-Ok-clause-lines
returns-in-Ok-clause-lines c =
    c.in-Ok.ensures
    ∙ ap lines_text (
    ap (λ names. structure_texts names c.tables.result.now) (c.as_slice.ensures ∙ c.names.ensures.names)
    ∙ ap (λ tables. structure_texts (view_names c.views-views.result.now) tables) c.tables.ensures.tables
    ∙ structures_of c.views-views.result.now
    ∙ ap structures c.views-views.ensures
    ∙ ap (λ (w : World). structures w.store.views) c.self.view_is)
