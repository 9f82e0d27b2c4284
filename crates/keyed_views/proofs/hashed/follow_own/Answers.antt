use Rattle.std.proofs.Common.{[], set, ap, sym, ◌∙◌}
use Rattle.std.proofs.lemmas.List.{set-get_or}
use Rattle.keyed_views.proofs.Hashing.{alone, found_key}
use Rattle.keyed_views.proofs.hashed.follow_own.Goals as goal

pub returns-then-has_at : goal.returns-then-has_at
returns-then-has_at c =
    let keys = c.args.index.now.keys in
    let found = found_key c.args.key keys c.args.at (c.has_at.ensures c.if-has_at.true) in
    record { keys = sym (ap (set keys c.args.at) (sym found.1) ∙ set-get_or keys c.args.at []) }

pub follow-requires-clause-whole : goal.follow-requires-clause-whole
follow-requires-clause-whole c = alone c.args.index.now.keys c.args.key c.args.at c.len-size.ensures.whole c.requires.hashed.0 c.requires.hashed.1
