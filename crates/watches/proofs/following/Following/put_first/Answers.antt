use Rattle.std.proofs.Common.{◌++◌, ◌∷◌, [], length, ap, subst, sym, ◌∙◌}
use Rattle.watches.specs.Groups.{AreWhole}
use Rattle.watches.specs.Keeping.{followed}
use Rattle.watches.specs.Watches.{is_watched}
use Rattle.watches.proofs.Whole.{not_full, whole_push}
use Rattle.watches.proofs.following.Following.put_first.Goals as goal

pub invariant_of-self-2 : goal.invariant_of-self-2
invariant_of-self-2 c =
    let all = c.args.self.now in
    let k = c.in_ok-watches.watches in
    let put = c.in_ok-watches.ensures.put in
    let view = c.in_ok-watches.ensures.view in
    let whole : AreWhole all = subst AreWhole c.self.view_is c.self.invariant in
    let free = not_full c.args.rows.now.schema c.args.op 0 c.args.is_full _ c.in_ok-watches.ensures.due in
    let none = ap (is_watched (followed all)) view ∙ c.requires.first in
    subst AreWhole (sym (c.in_ok-push.ensures.ok ∙ ap (λ ks. ks ++ k ∷ []) c.self.view_is))
    (whole_push all k 0 whole none (c.requires.few free) (ap length put.watches))
