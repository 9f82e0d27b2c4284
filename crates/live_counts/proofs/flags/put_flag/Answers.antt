use Rattle.std.proofs.Common.{◌≡◌, ◌<◌, ℕ, List, length, get_or, map, ap, sym, subst, ◌∙◌}
use Rattle.std.specs.List.{insert}
use Rattle.std.proofs.lemmas.List.{length-map}
use Rattle.live.specs.Placing.{opened}
use Rattle.live.proofs.Turning.{written}
use Rattle.live_counts.proofs.Numbering.{opened_order, put_lowered, put_raised}
use Rattle.live_counts.proofs.flags.put_flag.Goals as goal

pub returns-then-not-begins-clause-flags : goal.returns-then-not-begins-clause-flags
returns-then-not-begins-clause-flags c =
    let starts = c.args.starts.now in
    let long = starts.ok.0 in
    let size = ap length c.open.ensures ∙ length-map c.deref_mut.result.now (opened c.args.flag) ∙ ap length c.deref_mut.ensures.value ∙ sym long in
    λ fs is le.
    written starts.len c.open.new.kept starts.items (sym long) size ∙ c.open.ensures ∙ ap (map (opened c.args.flag)) (c.deref_mut.ensures.value ∙ is) ∙ put_lowered fs c.args.flag c.args.begins le c.if-not-begins.true

pub first_from-at-requires : goal.first_from-at-requires
first_from-at-requires c =
    let starts = c.args.starts.now in
    let long = starts.ok.0 in
    let size = ap length c.open.ensures ∙ length-map c.deref_mut.result.now (opened c.args.flag) ∙ ap length c.deref_mut.ensures.value ∙ sym long in
    let is : c.deref.result.now ≡ map (opened c.args.flag) starts.items =
    c.deref.ensures.value ∙ written starts.len c.open.new.kept starts.items (sym long) size ∙ c.open.ensures ∙ ap (map (opened c.args.flag)) c.deref_mut.ensures.value in
    record {
      order = subst (λ (ks : List ℕ). (i j d : ℕ) → i < j → j < length ks → get_or ks i d < get_or ks j d) (sym is) (opened_order c.args.flag starts.items c.requires.order);
    }

pub returns-clause-flags : goal.returns-clause-flags
returns-clause-flags c =
    let starts = c.args.starts.now in
    let long = starts.ok.0 in
    let size = ap length c.open.ensures ∙ length-map c.deref_mut.result.now (opened c.args.flag) ∙ ap length c.deref_mut.ensures.value ∙ sym long in
    let ks : List ℕ = c.deref.result.now in
    let is : ks ≡ map (opened c.args.flag) starts.items =
    c.deref.ensures.value ∙ written starts.len c.open.new.kept starts.items (sym long) size ∙ c.open.ensures ∙ ap (map (opened c.args.flag)) c.deref_mut.ensures.value in
    let e = c.first_from-at.ensures in
    let items : c.insert.new.self.items ≡ insert ks c.first_from-at.result c.args.flag =
    rw c.if-is_err.ensures.negation at c.insert.ensures.items ∙ ap (λ (xs : List ℕ). insert xs c.first_from-at.result c.args.flag) (sym c.deref.ensures.value) in
    λ fs raised_is le.
    items ∙ put_raised fs c.args.flag c.args.begins le c.if-not-begins.false ks (is ∙ ap (map (opened c.args.flag)) raised_is) c.first_from-at.result e.within e.below e.above
