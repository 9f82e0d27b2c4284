use Rattle.std.proofs.Common.{position, ap, subst, sym, ◌∙◌}
use Rattle.std.specs.Prelude.{remove}
use Rattle.keyed_views.specs.Keeping.{AreKept, IsKept, mapped}
use Rattle.keyed_views.proofs.Finding.{first_at}
use Rattle.keyed_views.proofs.Holding.{all_left, taken}
use Rattle.keyed_views.proofs.Whole.{is_mapped_is, is_of, no_kept}
use Rattle.keyed_views.proofs.mappings.Mappings.take_out.Goals as goal

pub at-at-requires : goal.at-at-requires
at-at-requires c = sym (is_mapped_is c.args.self.now c.deref.result.now c.args.view.now (c.deref.ensures.value ∙ c.self.view_is)) ∙ c.requires

pub returns-clause-rest : goal.returns-clause-rest
returns-clause-rest c =
    let all = c.args.self.now in
    let view = c.args.view.now in
    ap mapped (c.remove.ensures.items ∙ ap (λ ks. remove ks c.at-at.result) c.self.view_is)
    ∙ sym (taken all view c.at-at.result (first_at (is_of view) all c.at-at.result no_kept (ap (position (is_of view)) (sym (c.deref.ensures.value ∙ c.self.view_is)) ∙ c.at-at.ensures)))

pub returns-clause-kept : goal.returns-clause-kept
returns-clause-kept c = λ views h.
    let all = c.args.self.now in
    let view = c.args.view.now in
    let first = first_at (is_of view) all c.at-at.result no_kept (ap (position (is_of view)) (sym (c.deref.ensures.value ∙ c.self.view_is)) ∙ c.at-at.ensures) in
    subst (AreKept views) (sym (c.remove.ensures.items ∙ ap (λ ks. remove ks c.at-at.result) c.self.view_is)) (all_left (IsKept views) all c.at-at.result first.within h)
