use Rattle.std.proofs.Common.{◌≡◌, ◌∙◌, ◌<◌, ◌≤◌, sym, ap, subst, length, arith}
use Rattle.host_io.specs.Memory.{History, left_by, written, recorded}
use Rattle.host_io.proofs.Replays.{Grows-write, history-grown, IsLog-grown}
use Rattle.host_io.proofs.log.Log.write.Goals as goal

pub invariant_of-self : goal.invariant_of-self
invariant_of-self c =
    let left = subst (λ (h : History). 0 < h.moments_left) (sym c.self.view_is) c.requires.moments in
    let bytes = subst (λ (h : History). length c.args.bytes.now ≤ h.bytes_left) (sym c.self.view_is) c.requires.bytes in
    let inside = subst (λ (h : History). c.args.at ≤ length h.trail.latest.moment.disk.seen) (sym c.self.view_is) c.requires.within in
    let within : c.args.at ≤ length c.self.inside.seen.items = omega (arith, inside, ap length c.self.invariant.is_seen) in
    let seen : c.leave.new.file.items ≡ left_by c.args.left c.args.at c.args.bytes.now c.self.inside.seen.items = rw c.unwrap.ensures at c.leave.ensures.ok in
    IsLog-grown (Grows-write c.args.at _ c.args.bytes.now c.args.left c.len.ensures c.self.invariant c.append.ensures.items c.push_reserved.ensures.items seen within left bytes c.push_reserved.ensures.capacity c.append.ensures.capacity c.leave.ensures.capacity)

pub returns : goal.returns
returns c =
    let left = subst (λ (h : History). 0 < h.moments_left) (sym c.self.view_is) c.requires.moments in
    let bytes = subst (λ (h : History). length c.args.bytes.now ≤ h.bytes_left) (sym c.self.view_is) c.requires.bytes in
    let inside = subst (λ (h : History). c.args.at ≤ length h.trail.latest.moment.disk.seen) (sym c.self.view_is) c.requires.within in
    let within : c.args.at ≤ length c.self.inside.seen.items = omega (arith, inside, ap length c.self.invariant.is_seen) in
    let seen : c.leave.new.file.items ≡ left_by c.args.left c.args.at c.args.bytes.now c.self.inside.seen.items = rw c.unwrap.ensures at c.leave.ensures.ok in
    history-grown (Grows-write {seen' = c.leave.new.file} {all' = c.append.new.bytes} {entries' = c.push_reserved.new.self} c.args.at _ c.args.bytes.now c.args.left c.len.ensures c.self.invariant c.append.ensures.items c.push_reserved.ensures.items seen within left bytes c.push_reserved.ensures.capacity c.append.ensures.capacity c.leave.ensures.capacity)
    ∙ ap (λ (h : History). recorded c.args.calls (record { disk = written c.args.left c.args.at c.args.bytes.now h.trail.latest.moment.disk; said = h.trail.latest.moment.said }) (length c.args.bytes.now) h) c.self.view_is
