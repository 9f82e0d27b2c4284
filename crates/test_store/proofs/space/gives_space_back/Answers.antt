use Rattle.std.proofs.Common.{refl, arith}
use Rattle.std.proofs.lemmas.List.Sorted.{Contains-permutation}
use Rattle.test_store.proofs.space.gives_space_back.Goals as goal

pub give-requires : goal.give-requires
give-requires g c = Contains-permutation _ _ _ c.in_ok-map.ensures.used.permutation (0, omega arith, refl)
