use Rattle.std.proofs.Common.{◌≡◌, ◌≤◌, ◌+◌, ◌-◌, List, ℕ, ◌++◌, length, take, drop, arith, sym, ap, ◌∙◌, length-drop}
use Rattle.std.proofs.lemmas.List.{drop-drop}
use Rattle.host_io.specs.Memory.{HostState}
use Rattle.host_io.proofs.Takes.{bounded-le, front_comes}
use Rattle.host_io.proofs.memory_host.MemHost.give.Goals as goal

pub returns-clause-came : goal.returns-clause-came
returns-clause-came c =
    let host = c.self.inside in
    let n = c.bound-count.result in
    let left = drop host.taken host.input.items in
    let piece = c.copy_from_slice.new.self ++ drop n c.args.into.now in
    let behind : length left ≡ length host.input.items - host.taken = length-drop host.taken host.input.items in
    let within : n ≤ length left = omega (arith, c.bound-count.ensures, bounded-le c.args.self.now.most c.min.result) in
    let count : host.taken + n - host.taken ≡ n = omega arith in
    let is : piece ≡ take n left ++ drop n c.args.into.now =
    ap (λ (l : List ℕ). l ++ drop n c.args.into.now)
    (c.copy_from_slice.ensures.after ∙ ap (λ (k : ℕ). take k (drop host.taken c.deref.result.now)) count ∙ ap (λ (l : List ℕ). take n (drop host.taken l)) c.deref.ensures.value) in
    sym (ap (λ (h : HostState). h.input) c.self.view_is)
    ∙ front_comes left c.args.into.now piece n within is
    ∙ ap (λ (l : List ℕ). take n piece ++ l) (drop-drop n host.taken host.input.items)
