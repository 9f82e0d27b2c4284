use Rattle.aside_disk.proofs.Heads.{head_stands}
use Rattle.aside_disk.proofs.walking.head_at.Goals as goal

pub returns-clause-head : goal.returns-clause-head
returns-clause-head g c = λ tells.
    let h = c.in_ok-reach_head.ensures in
    let r = c.read_head.ensures in
    head_stands _ c.reach_head.new.piece _ _ (h.bytes tells) h.behind h.reaches r.place_fits r.len_fits r.bytes
