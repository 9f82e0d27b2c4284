use Rattle.std.proofs.Common.{◌≡◌, ◌+◌, ◌++◌, List, ap, set, suc, sym, subst, take, drop, ◌∙◌, arith}
use Rattle.std.specs.List.{remove}
use Rattle.mk_value.specs.Data.{Datum}
use Rattle.mapped.specs.Index.{AreKeys}
use Rattle.keyed_views.proofs.Hashing.{changed_is, changed_keys, fewer_keys}
use Rattle.keyed_views.proofs.hashed.follow_both.Goals as goal

pub follow-requires-clause-whole : goal.follow-requires-clause-whole
follow-requires-clause-whole c = fewer_keys c.args.index.now.keys c.args.key c.args.at c.len-size.ensures.whole c.requires.hashed.0 c.args.other c.requires.hashed.1

pub follow-requires-2-clause-whole : goal.follow-requires-2-clause-whole
follow-requires-2-clause-whole c =
    subst (λ (ks : List (List Datum)). AreKeys (set ks c.without.result c.args.key)) (sym c.follow.ensures.keys)
    (subst (λ at. AreKeys (set (remove c.args.index.now.keys c.args.other) at c.args.key)) (sym c.without.ensures) (changed_keys c.args.index.now.keys c.args.key c.args.at c.len-size.ensures.whole c.requires.hashed.0 c.args.other c.requires.hashed.1))

pub returns : goal.returns
returns c =
    let keys : List (List Datum) = c.args.index.now.keys in
    record {
      keys =
          c.follow-2.ensures.keys ∙ ap (λ (ks : List (List Datum)). set ks c.without.result c.args.key) c.follow.ensures.keys ∙ ap (λ at. set (remove keys c.args.other) at c.args.key) c.without.ensures
          ∙ changed_is keys c.args.key c.args.at c.len-size.ensures.whole c.requires.hashed.0 c.args.other c.requires.hashed.1
          ∙ ap (λ n. take c.args.other (set keys c.args.at c.args.key) ++ drop n (set keys c.args.at c.args.key)) (let e : suc c.args.other ≡ c.args.other + 1 = omega arith in e);
    }
