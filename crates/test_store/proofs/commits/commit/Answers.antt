use Rattle.std.proofs.Common.{refl, [], ◌∷◌, length, arith}
use Rattle.std.proofs.lemmas.List.Elements.{All-cons, All-nil}
use Rattle.std.proofs.lemmas.List.Kept.{AllPairs-cons}
use Rattle.free_space.specs.Extents.{Meets}
use Rattle.free_space.proofs.ExtentLemmas.{extent_len-lt}
use Rattle.commit_writes.specs.Blocks.{Block, IsWritable}
use Rattle.test_store.proofs.commits.commit.Goals as goal

pub carry-requires-clause-writable : goal.carry-requires-clause-writable
carry-requires-clause-writable c =
    let one : Block = record { span = record { place = 192; len = length c.args.column.now }; bytes = c.args.column.now } in
    let two : Block = record { span = record { place = 352; len = length c.args.directory.now }; bytes = c.args.directory.now } in
    let short = c.requires.column in
    let long = c.requires.directory in
    record {
      each = All-cons IsWritable one (two ∷ [])
          (record { behind = omega arith; len = refl; end_fits = omega (arith, extent_len-lt (length c.args.column.now), short) })
          (All-cons IsWritable two [] (record { behind = omega arith; len = refl; end_fits = omega (arith, extent_len-lt (length c.args.directory.now), long) }) (All-nil IsWritable));
      apart = AllPairs-cons (λ one other. ¬ Meets one other) one.span (two.span ∷ [])
          (All-cons (λ other. ¬ Meets one.span other) two.span []
          (λ meets. let a = meets.1.1 in let b = meets.2.0 in omega (arith, a, b, extent_len-lt (length c.args.column.now), short))
          (All-nil (λ other. ¬ Meets one.span other)))
          (λ i j d below within. absurd (omega (arith, below, within)));
    }
