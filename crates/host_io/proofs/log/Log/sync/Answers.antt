use Rattle.std.proofs.Common.{◌∙◌, ◌<◌, sym, ap, subst}
use Rattle.host_io.specs.Disk.{settled}
use Rattle.host_io.specs.Memory.{History, recorded}
use Rattle.host_io.proofs.Replays.{Grows-sync, history-grown, IsLog-grown}
use Rattle.host_io.proofs.log.Log.sync.Goals as goal

pub invariant_of-self : goal.invariant_of-self
invariant_of-self c =
    let left = subst (λ (h : History). 0 < h.moments_left) (sym c.self.view_is) c.requires in
    IsLog-grown (Grows-sync c.self.invariant c.push_reserved.ensures.items left c.push_reserved.ensures.capacity)

pub returns : goal.returns
returns c =
    let left = subst (λ (h : History). 0 < h.moments_left) (sym c.self.view_is) c.requires in
    history-grown (Grows-sync {entries' = c.push_reserved.new.self} c.self.invariant c.push_reserved.ensures.items left c.push_reserved.ensures.capacity)
    ∙ ap (λ (h : History). recorded c.args.calls (record { disk = settled h.trail.latest.moment.disk.seen; said = h.trail.latest.moment.said }) 0 h) c.self.view_is
