use Rattle.std.proofs.Common.{◌≡◌, ◌+◌, ◌-◌, [], get_or, ap, refl, ◌∙◌, arith}
use Rattle.std.specs.Ordering.{is_ne}
use Rattle.grouping.proofs.Indexes.{start_found}
use Rattle.grouping.proofs.groups.is_start_at.Goals as goal

pub cmp-requires : goal.cmp-requires
cmp-requires g c =
    let whole = c.requires.order in
    record {
      first_in = whole.in_range (c.args.place - 1) 0 (omega arith);
      second_in = whole.in_range c.args.place 0 c.requires.place_in;
    }

pub returns : goal.returns
returns g c =
    let keys = g.K.Keys.keys c.args.keys.now in
    let order = c.args.order.now in
    let next : c.args.place ≡ c.args.place - 1 + 1 = omega arith in
    c.is_ne.ensures ∙ ap is_ne c.cmp.ensures
    ∙ start_found keys order c.args.place (c.args.place - 1) (get_or keys (get_or order (c.args.place - 1) 0) []) (get_or keys (get_or order c.args.place 0) []) next refl refl
