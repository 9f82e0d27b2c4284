use Rattle.std.proofs.Common.{◌∙◌, ◌<◌, ◌≤◌, ◌++◌, sym, ap, subst, length}
use Rattle.host_io.specs.Memory.{History, recorded}
use Rattle.host_io.proofs.Replays.{Grows-say, history-grown, IsLog-grown}
use Rattle.host_io.proofs.log.Log.say.Goals as goal

pub invariant_of-self : goal.invariant_of-self
invariant_of-self c =
    let left = subst (λ (h : History). 0 < h.moments_left) (sym c.self.view_is) c.requires.moments in
    let bytes = subst (λ (h : History). length c.args.piece.now ≤ h.bytes_left) (sym c.self.view_is) c.requires.bytes in
    IsLog-grown (Grows-say c.args.piece.now _ c.len.ensures c.self.invariant c.append.ensures.items c.push_reserved.ensures.items left bytes c.push_reserved.ensures.capacity c.append.ensures.capacity)

pub returns : goal.returns
returns c =
    let left = subst (λ (h : History). 0 < h.moments_left) (sym c.self.view_is) c.requires.moments in
    let bytes = subst (λ (h : History). length c.args.piece.now ≤ h.bytes_left) (sym c.self.view_is) c.requires.bytes in
    history-grown (Grows-say {said' = c.append.new.bytes} {entries' = c.push_reserved.new.self} c.args.piece.now _ c.len.ensures c.self.invariant c.append.ensures.items c.push_reserved.ensures.items left bytes c.push_reserved.ensures.capacity c.append.ensures.capacity)
    ∙ ap (λ (h : History). recorded c.args.calls (record { disk = h.trail.latest.moment.disk; said = h.trail.latest.moment.said ++ c.args.piece.now }) (length c.args.piece.now) h) c.self.view_is
