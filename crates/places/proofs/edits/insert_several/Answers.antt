use Rattle.std.proofs.Common.{length, ap, arith}
use Rattle.std.specs.List.{concat}
use Rattle.places.proofs.Turns.{run_long}
use Rattle.places.proofs.edits.insert_several.Goals as goal

pub returns-then-len-count-le2048-clause-held : goal.returns-then-len-count-le2048-clause-held
returns-then-len-count-le2048-clause-held c =
    let h = c.requires.held in
    let e = c.insert_within.ensures in
    let l = ap length e.list in
    let n = run_long (concat c.args.chunks.now.items) c.args.at c.args.first c.args.count c.requires.there in
    let few = c.requires.few in
    let m = e.len in
    let a = h.fits in
    let b = h.ends_fit in
    let x = e.capacity.0 in
    let y = e.capacity.1 in
    record {
      placed = e.ends;
      few = omega arith;
      empty = h.empty;
      fits = omega arith;
      ends_fit = omega arith;
    }
