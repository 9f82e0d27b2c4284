use Rattle.std.proofs.Common.{◌≢◌, ◌-◌, ℕ, List, length, get_or, ap, sym, subst, ◌∙◌, arith}
use Rattle.places.proofs.Stops.{len_none, len_last}
use Rattle.places.proofs.edits.len.Goals as goal

pub returns-then-count-eq0 : goal.returns-then-count-eq0
returns-then-count-eq0 c = len_none c.args.chunks.now (sym (ap length c.requires) ∙ (let e = c.if-count-eq0.true in omega arith))

pub returns : goal.returns
returns c =
    let some = c.if-count-eq0.false in
    ap (λ (es : List ℕ). get_or es (length es - 1) 0) c.requires ∙ len_last c.args.chunks.now (subst (λ (es : List ℕ). length es ≢ 0) c.requires (λ q. some q))
