use Rattle.std.proofs.Common.{ap, sym, ◌∙◌}
use Rattle.std.specs.List.{list_any}
use Rattle.watches.specs.Keeping.{Kept, followed_of}
use Rattle.watches.specs.Watches.{Followed, Shown, stands_over}
use Rattle.watches.proofs.Finding.{any_map}
use Rattle.watches.proofs.following.Following.has_over.Goals as goal

pub returns : goal.returns
returns c =
    let name = c.args.name.now in
    c.has_over.ensures ∙ ap (list_any (λ (k : Kept). list_any (λ (s : Shown). stands_over (followed_of k).watches name s.source) (followed_of k).watches)) (c.deref.ensures.value ∙ c.self.view_is)
    ∙ sym (any_map (λ (f : Followed). list_any (λ (s : Shown). stands_over f.watches name s.source) f.watches) followed_of c.args.self.now)
