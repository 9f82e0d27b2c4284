use Rattle.std.proofs.Common.{◌<◌, ℕ, Bool, List, false, not, length, get_or, map, All, ap, subst, sym, ◌∙◌}
use Rattle.std.specs.List.{filter}
use Rattle.std.proofs.lemmas.List.{length-map}
use Rattle.relations.specs.Equality.{is_row_among}
use Rattle.grouping.specs.Index.{first_positions}
use Rattle.grouping.proofs.Positions.{firsts_in}
use Rattle.joins.proofs.Members.{unmarked_firsts}
use Rattle.joins.proofs.sets.united_parts.Goals as goal

pub unmarked-requires : goal.unmarked-requires
unmarked-requires g c =
    let ones = c.args.a.now.rows in
    let twos = c.args.b.now.rows in
    let marks = c.deref.ensures.value ∙ c.in_ok-shared.ensures ∙ (λ i. map (is_row_among (c.in_ok-ones.ensures i)) (c.in_ok-twos.ensures i)) in
    let firsts = c.in_ok-firsts.ensures ∙ ap first_positions c.in_ok-twos.ensures in
    subst (λ n. All (λ i. i < n) c.in_ok-firsts.firsts) (sym (ap (λ (ms : List Bool). length ms) marks ∙ length-map twos (is_row_among ones)))
    (subst (All (λ i. i < length twos)) (sym firsts) (firsts_in twos))

pub returns-clause-first : goal.returns-clause-first
returns-clause-first g c = c.in_ok-first.ensures ∙ ap first_positions c.in_ok-ones.ensures

pub returns-clause-second : goal.returns-clause-second
returns-clause-second g c =
    let ones = c.args.a.now.rows in
    let twos = c.args.b.now.rows in
    let marks = c.deref.ensures.value ∙ c.in_ok-shared.ensures ∙ (λ i. map (is_row_among (c.in_ok-ones.ensures i)) (c.in_ok-twos.ensures i)) in
    let firsts = c.in_ok-firsts.ensures ∙ ap first_positions c.in_ok-twos.ensures in
    c.in_ok-second.ensures ∙ ap (λ (ms : List Bool). filter (λ i. not (get_or ms i false)) c.in_ok-firsts.firsts) marks
    ∙ ap (λ (ps : List ℕ). filter (λ i. not (get_or (map (is_row_among ones) twos) i false)) ps) firsts ∙ unmarked_firsts ones twos
