use Rattle.std.proofs.Common.{refl}
use Rattle.stream_codec.proofs.Loads.{at_start}
use Rattle.stream_codec.proofs.loading.Loader.new.Goals as goal

pub invariant_of-result : goal.invariant_of-result
invariant_of-result c = at_start c.new.result c.new-2.result.bytes _ c.new.ensures c.new-2.ensures refl refl refl
