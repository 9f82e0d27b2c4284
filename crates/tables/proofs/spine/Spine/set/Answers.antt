use Rattle.std.proofs.lemmas.Result.{on_ok_weaker}
use Rattle.tables.proofs.Chunks.{IsSpine-set, offset_within, set_joined}
use Rattle.tables.proofs.spine.Spine.set.Goals as goal

pub set-requires-clause-at : goal.set-requires-clause-at
set-requires-clause-at c =
    offset_within c.self.inside.chunks c.args.at c.find-place.result (rw (← c.self.view_is) at c.find-place.ensures.place) (rw (← c.self.view_is) at c.find-place.ensures.in_range)

pub invariant_of-self : goal.invariant_of-self
invariant_of-self c =
    IsSpine-set c.set.result c.self.inside.chunks c.set.new.self c.self.inside.ends c.find-place.result.segment c.find-place.result.offset c.args.table
    (rw (← c.self.view_is) at c.find-place.ensures.in_range) c.self.invariant c.set.ensures.ok c.set.ensures.err

pub returns-clause-ok : goal.returns-clause-ok
returns-clause-ok c =
    rw (← c.self.view_is)
    (on_ok_weaker c.set.result
    (set_joined c.self.inside.chunks c.args.at c.find-place.result
    (rw (← c.self.view_is) at c.find-place.ensures.place) (rw (← c.self.view_is) at c.find-place.ensures.in_range) c.set.new.self c.args.table)
    c.set.ensures.ok)
