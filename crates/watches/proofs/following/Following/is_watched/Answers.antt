use Rattle.std.proofs.Common.{ap, sym, ◌∙◌}
use Rattle.std.specs.List.{list_any}
use Rattle.mk_value.specs.Names.{same_bytes}
use Rattle.watches.specs.Keeping.{Kept, followed_of}
use Rattle.watches.specs.Watches.{Followed}
use Rattle.watches.proofs.Finding.{any_map}
use Rattle.watches.proofs.following.Following.is_watched.Goals as goal

pub returns : goal.returns
returns c =
    let view = c.args.view.now in
    c.is_watched.ensures ∙ ap (list_any (λ (k : Kept). same_bytes k.view view)) (c.deref.ensures.value ∙ c.self.view_is)
    ∙ sym (any_map (λ (f : Followed). same_bytes f.view view) followed_of c.args.self.now)
