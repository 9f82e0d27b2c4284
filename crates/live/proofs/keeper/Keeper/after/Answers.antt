use Rattle.std.proofs.Common.{◌≡◌, ◌==◌, ap, sym, ◌∙◌}
use Rattle.std.specs.List.{position}
use Rattle.live.specs.declared.keeper.Keeper.{Keeper}
use Rattle.live.proofs.keeper.Keeper.after.Goals as goal
use Rattle.live.specs.Watching.{goes_from, comes_to, placed, told, stays}
use Rattle.live.proofs.Turning.{due_apart, due_came, due_within, due_went, due_still, due_some}
use Rattle.live.proofs.keeper.Keeper.after.Given.{Over}
use Rattle.live.proofs.keeper.Keeper.after.Goals.{in-None, in-Some}

pub move_numbers-requires-clause-went : goal.move_numbers-requires-clause-went
move_numbers-requires-clause-went g c =
    due_went (g.P.Probe.schema c.args.rows.now) c.args.self.now.op c.args.self.now.kept.list c.args.turn (g.P.Probe.rows c.args.rows.now) c.args.self.now.going c.size-size.ensures.few c.requires.due c.requires.noted

pub move_numbers-requires-clause-came : goal.move_numbers-requires-clause-came
move_numbers-requires-clause-came g c =
    due_came (g.P.Probe.schema c.args.rows.now) c.args.self.now.op c.args.self.now.kept.list c.args.turn (g.P.Probe.rows c.args.rows.now) c.args.self.now.going c.size-size.ensures.few c.requires.due c.requires.noted
    c.size-size.result c.size-size.ensures.value

pub move_numbers-requires-clause-apart : goal.move_numbers-requires-clause-apart
move_numbers-requires-clause-apart g c =
    due_apart (g.P.Probe.schema c.args.rows.now) c.args.self.now.op c.args.self.now.kept.list c.args.turn (g.P.Probe.rows c.args.rows.now) c.args.self.now.going c.size-size.ensures.few c.requires.due c.requires.noted
    c.take_out.new.kept.list c.take_out.ensures.list

pub move_numbers-requires-clause-within : goal.move_numbers-requires-clause-within
move_numbers-requires-clause-within g c =
    due_within (g.P.Probe.schema c.args.rows.now) c.args.self.now.op c.args.self.now.kept.list c.args.turn (g.P.Probe.rows c.args.rows.now) c.args.self.now.going c.size-size.ensures.few c.requires.due c.requires.noted
    c.take_out.new.kept.list c.take_out.ensures.list c.size-size.result c.size-size.ensures.value

pub enter-to-requires-clause-others : goal.enter-to-requires-clause-others
enter-to-requires-clause-others g c =
    c.move_numbers.ensures.list
    ∙ due_some (g.P.Probe.schema c.args.rows.now) c.args.self.now.op c.args.self.now.kept.list c.args.turn (g.P.Probe.rows c.args.rows.now) c.args.self.now.going c.size-size.ensures.few c.requires.due c.requires.noted
    c.take_out.new.kept.list c.take_out.ensures.list c.in-Some.row (sym c.comes_to.ensures ∙ c.in-Some.is)

pub returns-clause-now : goal.returns-clause-now
returns-clause-now g c = elim c.match-comes_to.branch [
  | in-None w ↦
      ap (λ (s : Keeper). s.kept.list) w.self-is
      ∙ c.move_numbers.ensures.list
      ∙ due_still (g.P.Probe.schema c.args.rows.now) c.args.self.now.op c.args.self.now.kept.list c.args.turn (g.P.Probe.rows c.args.rows.now) c.args.self.now.going c.size-size.ensures.few c.requires.due c.requires.noted
      c.take_out.new.kept.list c.take_out.ensures.list (sym c.comes_to.ensures ∙ w.in-None.is)
  | in-Some w ↦ ap (λ (s : Keeper). s.kept.list) w.self-is ∙ w.enter-to.ensures.now
]

placed_to : (g : Over) (c : goal.After-told g) → c.match-comes_to.to ≡ placed c.match-comes_to.self.kept.list (comes_to c.args.turn)
placed_to g c = elim c.match-comes_to.branch [
  | in-None w ↦ w.to-is ∙ ap (placed c.match-comes_to.self.kept.list) (sym (sym c.comes_to.ensures ∙ w.in-None.is))
  | in-Some w ↦
      w.to-is ∙ w.enter-to.ensures.value ∙ ap (position (λ k. k == w.in-Some.row)) (sym (ap (λ (s : Keeper). s.kept.list) w.self-is))
      ∙ ap (placed c.match-comes_to.self.kept.list) (sym (sym c.comes_to.ensures ∙ w.in-Some.is))
]

op_same : (g : Over) (c : goal.After-told g) → c.match-comes_to.self.op ≡ c.args.self.now.op
op_same g c = elim c.match-comes_to.branch [ in-None w ↦ ap (λ (s : Keeper). s.op) w.self-is | in-Some w ↦ ap (λ (s : Keeper). s.op) w.self-is ]

going_same : (g : Over) (c : goal.After-told g) → c.match-comes_to.self.going ≡ c.args.self.now.going
going_same g c = elim c.match-comes_to.branch [ in-None w ↦ ap (λ (s : Keeper). s.going) w.self-is | in-Some w ↦ ap (λ (s : Keeper). s.going) w.self-is ]

pub returns-clause-told : goal.returns-clause-told
returns-clause-told g c =
    let old = c.args.self.now.kept.list in
    c.told.ensures
    ∙ ap (λ b. told b c.match-comes_to.self.going c.match-comes_to.to) (c.stays.ensures ∙ ap (λ o. stays o c.args.turn) (op_same g c))
    ∙ ap (λ o. told (stays c.args.self.now.op c.args.turn) o c.match-comes_to.to) (going_same g c ∙ c.requires.noted)
    ∙ ap (told (stays c.args.self.now.op c.args.turn) (placed old (goes_from c.args.turn))) (placed_to g c)
