use Rattle.std.proofs.Common.{◌<◌, length}
use Rattle.std.proofs.lemmas.List.Elements.{All-push}
use Rattle.bytes_col.proofs.chunks.Chunks.push.Goals as goal

pub invariant_of-self-2 : goal.invariant_of-self-2
invariant_of-self-2 c =
    rw c.in_ok-push.ensures.items (All-push (λ x. 0 < length x) c.self.inside.items.items c.args.chunk c.self.invariant c.requires)
