use Rattle.std.proofs.Common.{[], ◌≡◌, ◌+◌, ◌*◌, ◌-◌, ◌/◌, ◌%◌, get_or, arith}
use Rattle.std.proofs.lemmas.Result.{on_ok_weaker}
use Rattle.bytes_col.proofs.PartLaws.{copies_all}
use Rattle.bytes_col.proofs.parts.Parts.add_copies.Goals as goal

pub returns : goal.returns
returns c =
    let room = 512 - c.len-room.result in
    let over = c.args.count - room in
    let sum : room + over / 512 * 512 + over % 512 ≡ c.args.count = omega arith in
    on_ok_weaker c.add_copies-3.result
    (λ rest. copies_all c.args.self.now.done c.add_whole.new.self.done c.args.self.now.last c.add_copies-2.new.self _ c.add_whole.new.self.last c.add_copies-3.new.self room (over / 512 * 512) (over % 512) c.args.count (get_or c.args.one.now 0 [])
    c.in_ok-add_copies.ensures c.in_ok-close.ensures.values c.in_ok-add_whole.ensures.values rest sum)
    c.add_copies-3.ensures
