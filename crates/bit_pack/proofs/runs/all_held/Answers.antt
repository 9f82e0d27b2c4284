use Rattle.std.proofs.Common.{◌<◌, below_more, pos, subst, sym, arith, rules}
use Rattle.std.proofs.lemmas.Int.{ints}
use Rattle.bit_pack.specs.Width.{Holds}
use Rattle.bit_pack.proofs.Changes.{length-values_from, get_or-values_from}
use Rattle.bit_pack.proofs.runs.all_held.Goals as goal
use Rattle.bit_pack.proofs.runs.all_held.Goals.{then-value-low-via-then-value-low, then-value-low-via-else-value-low+then-high-value}

pub returns-then-value-low : goal.returns-then-value-low
returns-then-value-low g c = (
  λ e. search rules,
  λ all.
      let w = g.L.Lane.width in
      let bytes = c.args.bytes.now in
      let is = get_or-values_from w bytes 0 c.args.count c.loop-at.at c.loop-at.at (pos 0) (omega arith) (omega arith) in
      let here = all.each c.loop-at.at (pos 0) (omega (arith, length-values_from w bytes 0 c.args.count)) in
      elim c.then-value-low.branch [
        | then-value-low-via-then-value-low v ↦ absurd (omega (arith, ints, is, here.low, c.read-value.ensures, c.lowest-low.ensures))
        | then-value-low-via-else-value-low+then-high-value v ↦ absurd (omega (arith, ints, is, here.high, c.read-value.ensures, c.highest-high.ensures))
      ],
)

pub loop-at-preserved : goal.loop-at-preserved
loop-at-preserved g c =
    below_more _ _ c.loop-at.invariant (record {
      low = omega (arith, ints, c.read-value.ensures, c.lowest-low.ensures);
      high = omega (arith, ints, c.read-value.ensures, c.highest-high.ensures);
    })

pub returns : goal.returns
returns g c = (
  λ _. record {
    each = λ k d within.
        let w = g.L.Lane.width in
        let bytes = c.args.bytes.now in
        let inside : k < c.args.count = omega (arith, within, length-values_from w bytes 0 c.args.count) in
        let is = get_or-values_from w bytes 0 c.args.count k k d inside (omega arith) in
        subst (Holds c.args.width) (sym is) (c.loop-at.invariant k (omega arith));
  },
  λ _. search rules,
)
