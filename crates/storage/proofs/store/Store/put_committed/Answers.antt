use Rattle.std.proofs.Common.{◌∙◌, Some, ap, arith}
use Rattle.commit_marks.specs.declared.mark.Mark.{Mark}
use Rattle.view_store.specs.Rests.{homed_views}
use Rattle.storage.proofs.Resting.{rest_same}
use Rattle.storage.proofs.store.Store.put_committed.Goals as goal

pub invariant_of-self : goal.invariant_of-self
invariant_of-self c = record {
  kept = c.requires;
  views_are = c.requires.views;
  shaped = c.requires.shaped;
  rests = rest_same (homed_views c.args.next.views);
  low = omega arith;
  beside = λ number is. ap (λ (m : Mark). Some m.number) c.mark_of.ensures ∙ is;
  capped = c.self.invariant.capped;
}
