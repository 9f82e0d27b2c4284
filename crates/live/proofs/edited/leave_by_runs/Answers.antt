use Rattle.std.proofs.Common.{◌-◌, length, Some, arith, ap, sym, ◌∙◌}
use Rattle.std.proofs.lemmas.List.{get_or_default}
use Rattle.relations.proofs.Ascending.{place_of}
use Rattle.live.specs.Leaving.{goes_at}
use Rattle.row_edits.specs.Runs.{kept_outside}
use Rattle.live.specs.States.{WatchState}
use Rattle.live.proofs.Leaving.{kept_none, kept_run}
use Rattle.live.proofs.Rising.{taken_none_then, taken_same}
use Rattle.live.proofs.edited.leave_by_runs.Goals as goal

pub loop-end-init : goal.loop-end-init
loop-end-init c =
    let d = c.index-below-over.result in
    record {
      within = λ e. let a = ap (λ (w : WatchState). length w.kept) (c.index-below-over.is ∙ get_or_default c.args.below.now c.args.over d e c.requires.there) in let b = c.len-end.ensures in omega arith;
      kept = sym (kept_none (goes_at c.args.at c.args.count c.args.below.now (Some c.args.over)) c.len-end.result c.args.watch.now.kept (λ k h.
          let r = place_of c.args.watch.now.kept k h in
          let a = c.requires.within d r.0 0 r.1 in
          let b = ap (λ (w : WatchState). length w.kept) c.index-below-over.is in
          let e = c.len-end.ensures in
          let f = r.2 0 in
          omega arith));
      taken = taken_same c.args.watch.now;
    }

pub loop-end-preserved-then-first-end : goal.loop-end-preserved-then-first-end
loop-end-preserved-then-first-end c =
    let i = c.loop-end.invariant in
    let f = c.first_of_run-first.ensures in
    record {
      within = λ d. let a = i.within d in omega (arith, f.within);
      kept =
          c.leave.ensures.kept ∙ ap (kept_outside c.first_of_run-first.result (c.loop-end.end - c.first_of_run-first.result)) i.kept
          ∙ kept_run (goes_at c.args.at c.args.count c.args.below.now (Some c.args.over)) c.first_of_run-first.result c.loop-end.end f.within f.go c.args.watch.now.kept;
      taken = taken_none_then c.args.watch.now c.loop-end.watch c.leave.new.self i.taken c.leave.ensures.taken;
    }

pub leave-requires : goal.leave-requires
leave-requires c =
    let d = c.index-below-over.result in
    let a = c.requires.few c.args.over d c.requires.there in
    let b = c.loop-end.invariant.within d in
    let e = c.first_of_run-first.ensures.within in
    omega arith
