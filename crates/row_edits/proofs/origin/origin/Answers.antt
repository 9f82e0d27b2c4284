use Rattle.std.proofs.Common.{sym, ◌∙◌, arith}
use Rattle.row_edits.proofs.Editing.{walk_came, walk_range, walk_same, walk_stands}
use Rattle.row_edits.proofs.origin.origin.Goals as goal

pub origin_in-requires : goal.origin_in-requires
origin_in-requires c =
    let h = c.requires in
    let inv = c.loop-left.invariant in
    (_, walk_range c.args.edits.now c.loop-left.left _ c.loop-left-test.true inv.within c.loop-left.at c.args.row h.0 h.1 (inv.stands h.0 h.1))

pub loop-left-preserved : goal.loop-left-preserved
loop-left-preserved c =
    let inv = c.loop-left.invariant in
    let is = sym c.origin_in.ensures ∙ c.in-Some.is in
    record {
      within = (let w = inv.within in omega arith);
      stands = λ size h. walk_stands c.args.edits.now c.loop-left.left _ c.loop-left-test.true inv.within c.loop-left.at c.in-Some.before c.args.row size h (inv.stands size h) is;
      same = λ came rows h.
          walk_same c.args.edits.now c.loop-left.left _ c.loop-left-test.true inv.within came rows c.loop-left.at c.args.row h (inv.stands _ h) c.in-Some.before is ∙ inv.same came rows h;
    }

pub returns-in-None : goal.returns-in-None
returns-in-None c = λ came rows h.
    let inv = c.loop-left.invariant in
    let r = walk_came c.args.edits.now c.loop-left.left _ c.loop-left-test.true inv.within came rows c.loop-left.at c.args.row h (inv.stands _ h) (sym c.origin_in.ensures ∙ c.in-None.is) in
    (r.0, sym (inv.same came rows h) ∙ r.1)
