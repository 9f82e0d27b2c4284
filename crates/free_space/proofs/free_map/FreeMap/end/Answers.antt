use Rattle.std.proofs.Common.{◌≡◌, ◌-◌, ◌<◌, Some, slice_get, length, sym, arith}
use Rattle.std.proofs.lemmas.Option.{get_or_from_slice_get, slice_get_within}
use Rattle.free_space.proofs.EndLemmas.{end_of-last}
use Rattle.free_space.proofs.free_map.FreeMap.end.Goals as goal

pub returns-in-Some : goal.returns-in-Some
returns-in-Some c =
    let used = c.self.inside.used.items in
    let last = c.in-Some.last.now in
    let found : slice_get used (length used - 1) ≡ Some last = sym (rw c.deref.ensures.value at c.in-Some.ensures.value) in
    let within : length used - 1 < length used = slice_get_within used (length used - 1) last found in
    let is = end_of-last c.self.inside.floor used last c.self.invariant.1 (omega arith) (sym (get_or_from_slice_get used (length used - 1) last last found)) in
    rw (← c.self.view_is) (cc (is, c.max.ensures, c.extent_end.ensures))
