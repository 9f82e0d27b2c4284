use Rattle.std.proofs.Common.{◌≤◌, ℕ, List, length, ap, sym, subst, ◌∙◌, arith}
use Rattle.std.specs.List.{concat}
use Rattle.places.specs.Chunks.{ends_of}
use Rattle.places.proofs.Stops.{length-ends}
use Rattle.places.proofs.edits.reserve.Goals as goal

pub returns-clause-held : goal.returns-clause-held
returns-clause-held c =
    let h = c.requires.held in
    let r = c.in-Some.ensures in
    let one = c.in_ok-reserve.ensures.ok in
    let two = c.in_ok-reserve-2.ensures.ok in
    let n = c.reserve.ensures.len in
    let m = c.reserve-2.ensures.len in
    let i = ap length c.reserve.ensures.items in
    let few = h.few in
    let e = ap length h.placed in
    let f = length-ends 0 c.args.chunks.now.items in
    let most = c.lay_aside.ensures.most in
    let l = c.len.ensures in
    let fits = h.fits in
    let ends_fit = h.ends_fit in
    record {
      placed = c.reserve-2.ensures.items ∙ h.placed ∙ ap (ends_of 0) (sym c.reserve.ensures.items);
      few = subst (λ (cs : List (List ℕ)). length (concat cs) ≤ 16777216) (sym c.reserve.ensures.items) few;
      empty = c.lay_aside.ensures.empty;
      fits = omega arith;
      ends_fit = omega arith;
    }
