use Rattle.std.proofs.Common.{◌≡◌, ℕ, List, [], length, get_or, map, refl, arith, ap, sym, ◌∙◌}
use Rattle.std.proofs.lemmas.List.{length-map}
use Rattle.relations.specs.Rows.{rows_at}
use Rattle.row_edits.specs.Runs.{moved_up, spread}
use Rattle.live.specs.Watching.{positions}
use Rattle.live.proofs.Spreading.{long, within_new, with_run_rows}
use Rattle.live.proofs.keeper.Keeper.spread.Goals as goal

pub open_run-requires-clause-within : goal.open_run-requires-clause-within
open_run-requires-clause-within g c =
    let due = c.requires.due in
    within_new (g.P.Probe.schema c.args.rows.now) c.args.self.now.op (g.P.Probe.rows c.args.rows.now) due.before due.row c.args.at c.args.count (due.made.within c.args.at refl) due.made.made c.requires.some c.size-size.ensures.few
    c.args.self.now.kept.list due.now c.size-size.result c.size-size.ensures.value

pub open_run-requires-clause-there : goal.open_run-requires-clause-there
open_run-requires-clause-there g c =
    let due = c.requires.due in
    let within = due.made.within c.args.at refl in
    let size = c.size-size.ensures.value in
    let l = long (g.P.Probe.schema c.args.rows.now) c.args.self.now.op (g.P.Probe.rows c.args.rows.now) due.before due.row c.args.at c.args.count within due.made.made c.requires.some c.size-size.ensures.few in
    omega arith

pub returns-clause-spread : goal.returns-clause-spread
returns-clause-spread g c row before now made =
    let old : List ℕ = c.args.self.now.kept.list in
    let up : List ℕ = c.open_run.new.kept.list in
    let others : up ≡ map (moved_up c.args.at c.args.count) (positions (g.P.Probe.schema c.args.rows.now) c.args.self.now.op before) = c.open_run.ensures.list ∙ ap (map (moved_up c.args.at c.args.count)) now in
    let same = ap length c.open_run.ensures.list ∙ length-map old (moved_up c.args.at c.args.count) in
    let rows_long = length-map old (λ i. get_or before i []) in
    record {
      within = λ p e. let a = c.put_run.ensures.there p e in omega arith;
      made =
          ap (rows_at (g.P.Probe.rows c.args.rows.now)) c.put_run.ensures.put
          ∙ with_run_rows (g.P.Probe.schema c.args.rows.now) c.args.self.now.op (g.P.Probe.rows c.args.rows.now) before row c.args.at c.args.count (made.within c.args.at refl) made.made c.requires.some c.size-size.ensures.few up others c.put_run.result
          ∙ ap (λ ks. spread c.put_run.result c.args.count row (rows_at before ks)) (sym now);
    }
