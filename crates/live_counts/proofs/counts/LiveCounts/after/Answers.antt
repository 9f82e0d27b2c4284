use Rattle.std.proofs.Common.{◌≡◌, ◌-◌, ◌<◌, ℕ, Bool, List, None, All, length, get_or, ap, arith, sym, subst, ◌∙◌}
use Rattle.std.specs.Option.{ForSome}
use Rattle.live.specs.Placing.{without}
use Rattle.live.specs.Watching.{IsAsked, comes_to, goes_from, is_sorting, placed, positions, root_turn, stays}
use Rattle.live.proofs.Chaining.{placed_in}
use Rattle.live.proofs.Digits.{digits_bound}
use Rattle.live.proofs.Ops.{positions_few}
use Rattle.live_counts.specs.Runs.{flags, raised, starts, ties}
use Rattle.live_counts.specs.States.{CountsState}
use Rattle.live_counts.proofs.Flagging.{length-flags}
use Rattle.live_counts.proofs.Following.{flags_left, told_comes, turn_flags}
use Rattle.live_counts.proofs.Numbering.{raised_in, raised_order}
use Rattle.live_counts.proofs.counts.LiveCounts.after.Goals as goal

pub gain-requires-clause-others : goal.gain-requires-clause-others
gain-requires-clause-others g c =
    let schema = g.P.Probe.schema c.args.rows.now in
    let rows = g.P.Probe.rows c.args.rows.now in
    let event = c.args.event.now in
    let due = c.requires.due in
    let old = due.before in
    let now = due.now in
    let inside = c.self.inside in
    let op = inside.keeper.op in
    let view = c.self.view_is in
    let op_is : op ≡ c.args.self.now.op = ap (λ (s : CountsState). s.op) view in
    let kept_is : inside.keeper.kept.list ≡ c.args.self.now.kept = ap (λ (s : CountsState). s.kept) view in
    let kept : inside.keeper.kept.list ≡ positions schema op old = kept_is ∙ now.kept ∙ ap (λ o. positions schema o old) (sym op_is) in
    let turn = root_turn event in
    let before : List ℕ = positions schema op old in
    let after : List ℕ = positions schema op rows in
    let fs : List Bool = flags (ties schema op old) before in
    let starts_are : inside.starts.items ≡ raised fs =
    ap (λ (s : CountsState). s.starts) view ∙ now.starts_are ∙ ap (λ o. starts (ties schema o old) c.args.self.now.kept) (sym op_is)
    ∙ ap (starts (ties schema op old)) (sym kept_is ∙ kept) in
    let size : c.len.result ≡ length fs = c.len.ensures.len ∙ ap length kept ∙ sym (length-flags (ties schema op old) None before) in
    let noted = ap (λ (s : CountsState). s.noted) view ∙ c.requires.noted in
    let going : inside.keeper.going ≡ placed before (goes_from turn) = (c.self.invariant.ready event noted).0 ∙ ap (λ (ks : List ℕ). placed ks (goes_from turn)) kept in
    let there : ForSome inside.keeper.going (λ o. o < length before) = subst (λ o. ForSome o (λ i. i < length before)) (sym going) (placed_in before (goes_from turn)) in
    let told = c.after-told.ensures in
    let comes : c.comes_to.result ≡ placed after (comes_to turn) =
    c.comes_to.ensures ∙ ap comes_to told.told
    ∙ told_comes (stays op c.of_root.result) (placed inside.keeper.kept.list (goes_from c.of_root.result)) (placed c.after-told.new.self.kept.list (comes_to c.of_root.result))
    ∙ ap (λ (ks : List ℕ). placed ks (comes_to c.of_root.result)) told.now ∙ ap (λ t. placed after (comes_to t)) c.of_root.ensures in
    c.lose.ensures.flags fs starts_are size
    ∙ ap raised (flags_left schema op old inside.keeper.going there ∙ ap (λ o. flags (ties schema op old) (without o before)) going ∙ sym (turn_flags schema op old rows turn due.made))
    ∙ ap (λ o. raised (flags (ties schema op rows) (without o after))) (sym comes)
    ∙ ap (λ (ks : List ℕ). raised (flags (ties schema op rows) (without c.comes_to.result ks))) (sym told.now)
    ∙ ap (λ o. raised (flags (ties schema o rows) (without c.comes_to.result c.after-told.new.self.kept.list))) (sym told.op)

pub invariant_of-self : goal.invariant_of-self
invariant_of-self g c =
    let schema = g.P.Probe.schema c.args.rows.now in
    let rows = g.P.Probe.rows c.args.rows.now in
    let op = c.self.inside.keeper.op in
    let told = c.after-told.ensures in
    let same = ties schema c.after-told.new.self.op rows in
    let fs : List Bool = flags same c.after-told.new.self.kept.list in
    let long = length-flags same None c.after-told.new.self.kept.list in
    let few = positions_few schema op rows in
    let kept = ap length told.now in
    let most = c.size-size.ensures.few in
    record {
      sorting = ap is_sorting told.op ∙ c.self.invariant.sorting;
      in_range = subst (λ (ks : List ℕ). All (λ s. s < length c.after-told.new.self.kept.list) ks) (sym c.gain.ensures.starts) (λ k d p. let q = raised_in fs k d p in omega arith);
      in_order = subst (λ (ks : List ℕ). (a b d : ℕ) → a < b → b < length ks → get_or ks a d < get_or ks b d) (sym c.gain.ensures.starts) (raised_order fs);
      small = omega arith;
      ready = λ e is. cc;
    }

pub returns-clause-now : goal.returns-clause-now
returns-clause-now g c =
    let schema = g.P.Probe.schema c.args.rows.now in
    let rows = g.P.Probe.rows c.args.rows.now in
    let event = c.args.event.now in
    let due = c.requires.due in
    let old = due.before in
    let now = due.now in
    let inside = c.self.inside in
    let op = inside.keeper.op in
    let view = c.self.view_is in
    let op_is : op ≡ c.args.self.now.op = ap (λ (s : CountsState). s.op) view in
    let kept_is : inside.keeper.kept.list ≡ c.args.self.now.kept = ap (λ (s : CountsState). s.kept) view in
    let kept : inside.keeper.kept.list ≡ positions schema op old = kept_is ∙ now.kept ∙ ap (λ o. positions schema o old) (sym op_is) in
    let told = c.after-told.ensures in
    record {
      small = c.size-size.ensures.few;
      asked = subst (IsAsked schema) (sym (told.op ∙ op_is)) now.asked;
      kept = told.now ∙ ap (λ o. positions schema o rows) (sym told.op);
      starts_are = c.gain.ensures.starts;
    }

pub returns-clause-cost : goal.returns-clause-cost
returns-clause-cost g c =
    let told = c.after-told.ensures in
    let few = digits_bound (c.after-told.new.steps - c.args.steps.now) (length (g.P.Probe.rows c.args.rows.now)) (told.cost c.self.invariant.sorting) in
    let least = told.least in
    let two = c.gain.ensures.two in
    omega arith
