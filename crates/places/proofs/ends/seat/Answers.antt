use Rattle.std.proofs.Common.{ℕ, List, ◌-◌, ◌<◌, ◌≤◌, length, get_or, subst, sym, ap, ◌∙◌}
use Rattle.places.proofs.Stops.{ends_some, ends_reach, ends_ascend, seated}
use Rattle.places.proofs.ends.seat.Goals as goal
use Rattle.places.proofs.ends.seat.Goals.{then-chunk-eq0, else-chunk-eq0}

pub first_end_above-chunk-requires-clause-some : goal.first_end_above-chunk-requires-clause-some
first_end_above-chunk-requires-clause-some c = subst (λ (es : List ℕ). 0 < length es) (sym c.requires.ends) (ends_some c.args.chunks.now c.args.at c.requires.there)

pub first_end_above-chunk-requires-clause-reached : goal.first_end_above-chunk-requires-clause-reached
first_end_above-chunk-requires-clause-reached c = subst (λ (es : List ℕ). c.args.at < get_or es (length es - 1) 0) (sym c.requires.ends) (ends_reach c.args.chunks.now c.args.at c.requires.there)

pub first_end_above-chunk-requires-clause-ascending : goal.first_end_above-chunk-requires-clause-ascending
first_end_above-chunk-requires-clause-ascending c =
    subst (λ (es : List ℕ). (j k : ℕ) → j ≤ k → k < length es → get_or es j 0 ≤ get_or es k 0) (sym c.requires.ends) (ends_ascend c.args.chunks.now)

pub returns-clause-seat : goal.returns-clause-seat
returns-clause-seat c =
    let e = c.first_end_above-chunk.ensures in
    let cs : List (List ℕ) = c.args.chunks.now in
    let r : ℕ = c.first_end_above-chunk.result in
    let is = c.requires.ends in
    (seated cs r c.args.at c.if-chunk-eq0.start (subst (λ (es : List ℕ). r < length es) is e.in_range) (subst (λ (es : List ℕ). c.args.at < get_or es r 0) is e.above)
    (subst (λ (es : List ℕ). (k : ℕ) → k < r → get_or es k 0 ≤ c.args.at) is e.first)
    (λ q. elim c.if-chunk-eq0.branch [ then-chunk-eq0 w ↦ w.start-is | else-chunk-eq0 w ↦ absurd (w.if-chunk-eq0.false q) ])
    (λ q. elim c.if-chunk-eq0.branch [ then-chunk-eq0 w ↦ absurd (q w.if-chunk-eq0.true) | else-chunk-eq0 w ↦ w.start-is ∙ ap (λ (es : List ℕ). get_or es (r - 1) 0) is ])).0

pub returns-clause-within : goal.returns-clause-within
returns-clause-within c =
    let e = c.first_end_above-chunk.ensures in
    let cs : List (List ℕ) = c.args.chunks.now in
    let r : ℕ = c.first_end_above-chunk.result in
    let is = c.requires.ends in
    (seated cs r c.args.at c.if-chunk-eq0.start (subst (λ (es : List ℕ). r < length es) is e.in_range) (subst (λ (es : List ℕ). c.args.at < get_or es r 0) is e.above)
    (subst (λ (es : List ℕ). (k : ℕ) → k < r → get_or es k 0 ≤ c.args.at) is e.first)
    (λ q. elim c.if-chunk-eq0.branch [ then-chunk-eq0 w ↦ w.start-is | else-chunk-eq0 w ↦ absurd (w.if-chunk-eq0.false q) ])
    (λ q. elim c.if-chunk-eq0.branch [ then-chunk-eq0 w ↦ absurd (q w.if-chunk-eq0.true) | else-chunk-eq0 w ↦ w.start-is ∙ ap (λ (es : List ℕ). get_or es (r - 1) 0) is ])).1
