use Rattle.std.proofs.Common.{◌≡◌, ◌++◌, ◌∷◌, [], refl, ap, ◌∙◌, rules}
use Rattle.std.proofs.lemmas.Slice.{pushed}
use Rattle.tables.proofs.Adding.{adds_kept}
use Rattle.tables.proofs.chunk.push_kept.Goals as goal

pub returns : goal.returns
returns c =
    let chunk = c.in_ok-clone.field-0 in
    let same : chunk ≡ c.args.chunk.now = search rules in
    adds_kept c.args.chunks.now.items c.push.new.self.items c.args.chunk.now
    (pushed (chunk ∷ []) refl c.in_ok-push.was c.push.ensures.items ∙ ap (λ x. c.args.chunks.now.items ++ x ∷ []) same) c.requires.some c.requires.few
