use Rattle.std.proofs.Common.{get_or, arith}
use Rattle.free_space.proofs.ExtentLemmas.{extent_len-lt}
use Rattle.test_store.proofs.space.placed.Goals as goal

pub take-requires-clause-block : goal.take-requires-clause-block
take-requires-clause-block g c =
    let len = get_or c.args.lens.now c.loop-len.len-index 0 in
    record {
      aligned = c.place-place.ensures.least.stands.aligned;
      not_empty = omega arith;
      end_fits = omega (arith, extent_len-lt len);
    }

pub take-requires-clause-free : goal.take-requires-clause-free
take-requires-clause-free g c = rw c.in_ok-reserve.ensures.used c.place-place.ensures.least.stands.free
