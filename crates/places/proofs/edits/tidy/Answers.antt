use Rattle.std.proofs.Common.{length, ap, ◌∙◌, arith}
use Rattle.std.specs.List.{concat}
use Rattle.places.specs.Chunks.{ends_of}
use Rattle.places.proofs.edits.tidy.Goals as goal

pub write_ends-requires-clause-few : goal.write_ends-requires-clause-few
write_ends-requires-clause-few c =
    let e = ap length (ap concat c.deref.ensures.value ∙ c.join_all.ensures.list ∙ c.sweep.ensures.list) in
    let few = c.requires.few in
    omega arith

pub returns-clause-held : goal.returns-clause-held
returns-clause-held c =
    let few = c.requires.few in
    let e = ap length (c.join_all.ensures.list ∙ c.sweep.ensures.list) in
    let f = c.sweep.ensures.fits in
    let j = c.join_all.ensures.fits in
    let a = c.requires.fits in
    let b = c.requires.ends_fit in
    let x = c.sweep.ensures.capacity in
    let y = c.join_all.ensures.capacity in
    let z = c.write_ends.ensures.capacity in
    record {
      placed = c.write_ends.ensures.ends ∙ ap (ends_of 0) c.deref.ensures.value;
      few = omega arith;
      empty = c.join_all.ensures.empty;
      fits = omega arith;
      ends_fit = omega arith;
    }
