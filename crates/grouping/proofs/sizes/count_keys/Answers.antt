use Rattle.std.proofs.Common.{List, length, map, ap, ◌∙◌, arith}
use Rattle.mk_value.specs.Data.{Datum}
use Rattle.mk_value.specs.Tables.{Table}
use Rattle.relations.specs.Refusals.{a_view, absent}
use Rattle.relations.specs.Rows.{once, values_of}
use Rattle.grouping.specs.Index.{keys_of}
use Rattle.grouping.proofs.Covers.{kept_few, kept_in, kept_keys}
use Rattle.grouping.proofs.sizes.count_keys.Goals as goal

pub gather-requires : goal.gather-requires
gather-requires g c =
    let f = values_of c.args.base.schema (once c.args.keys.now) in
    let kept = kept_few f c.args.base.rows c.in_ok-firsts.firsts c.in_ok-firsts.ensures in
    let few = c.size-size.ensures.whole.few in
    record { few = omega arith; in_range = kept_in f c.args.base.rows c.in_ok-firsts.firsts c.in_ok-firsts.ensures }

pub key_index-requires : goal.key_index-requires
key_index-requires g c =
    let schema = ap (λ (t : Table). t.schema) c.in_ok-few.ensures in
    record { named = ap (λ s. absent s c.args.keys.now) schema ∙ c.requires.named; plain = ap (λ s. a_view s c.args.keys.now) schema ∙ c.requires.plain }

pub returns : goal.returns
returns g c =
    let names = once c.args.keys.now in
    c.groups.ensures
    ∙ ap (λ (keys : List (List Datum)). length (keys_of keys)) (c.in_ok-index.ensures ∙ ap (λ (t : Table). map (values_of t.schema names) t.rows) c.in_ok-few.ensures)
    ∙ ap (λ (keys : List (List Datum)). length keys) (kept_keys (values_of c.args.base.schema names) c.args.base.rows c.in_ok-firsts.firsts c.in_ok-firsts.ensures)
