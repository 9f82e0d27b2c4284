use Rattle.std.proofs.lemmas.Result.{on_ok_weaker}
use Rattle.std.proofs.Common.{◌≡◌, min, max, ◌+◌, length, arith, ℕ, take, drop, ap, ◌∙◌, ◌-◌}
use Rattle.aside_disk.proofs.Layers.{covers_read}
use Rattle.aside_disk.proofs.reading.overlay.Goals as goal

pub returns-clause-covers : goal.returns-clause-covers
returns-clause-covers g c = λ tells file entry found within covers.
    let image = (g.D.Disk.outside c.args.disk.now).now.disk.seen in
    let place = found.place in
    let len = found.len in
    let bounded = c.requires.bounded.file in
    let a = c.max-start.ensures in
    let b = c.saturating_add.ensures in
    let e = c.min-stop.ensures in
    let w = c.requires.within tells in
    let start_is : c.max-start.result ≡ max entry.place c.args.at = omega (arith, place, a) in
    let stop_is : c.min-stop.result ≡ min (entry.place + length entry.bytes) (c.args.at + length c.args.into.now) = omega (arith, place, len, bounded, b, e) in
    on_ok_weaker c.read_at.result (λ is. covers_read image file entry.bytes c.args.into.now c.read_at.new.into entry.place c.args.found.now.from c.args.at c.max-start.result c.min-stop.result within found.bytes
    (omega (arith, w, len)) start_is stop_is c.if-stop-start.false
    (is ∙ ap (λ (p : ℕ). take (length (take (c.min-stop.result - c.args.at - (c.max-start.result - c.args.at)) (drop (c.max-start.result - c.args.at) c.args.into.now))) (drop (c.args.found.now.from + (c.max-start.result - p)) image)) place)
    covers) (c.read_at.ensures.bytes tells)
