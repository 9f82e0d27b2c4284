use Rattle.std.proofs.Common.{◌≡◌, ◌<◌, true, length, map, Some, ap, sym, subst, ◌∙◌, arith}
use Rattle.mk_value.specs.Kinds.{domain_of as the_domain}
use Rattle.mk_value.proofs.Walks.{drop_map_read, drop_read}
use Rattle.relations.specs.Rows.{has}
use Rattle.relations.specs.declared.error.DerivedError.TheVariants.{WrongKind}
use Rattle.relations.proofs.Names.{all_present}
use Rattle.viewed.proofs.Dues.{kind_passes, kind_stops}
use Rattle.viewed.proofs.checks.check_kinds.Goals as goal

pub is_of_kind-requires : goal.is_of_kind-requires
is_of_kind-requires c =
    subst (λ name. has c.args.schema.now name ≡ true) (sym c.index-args-at.is)
    (all_present c.args.schema.now c.args.args.now c.requires.named c.loop-at.at c.index-args-at.result c.loop-at-test.true)

pub returns-then-not-is_of_kind : goal.returns-then-not-is_of_kind
returns-then-not-is_of_kind c =
    let within : c.loop-at.at < length c.args.takes.now = (let t = c.loop-at-test.true in let n = c.requires.as_many in omega arith) in
    ap (λ n. Some (WrongKind n)) c.in_ok-copy.ensures
    ∙ sym (kind_stops (map the_domain c.args.takes.now) c.args.schema.now c.args.args.now c.loop-at.at (the_domain c.index-takes-at.result) c.index-args-at.result
    (drop_map_read the_domain c.args.takes.now c.loop-at.at c.index-takes-at.result within c.index-takes-at.is)
    (drop_read c.args.args.now c.loop-at.at c.index-args-at.result c.loop-at-test.true c.index-args-at.is) (sym c.is_of_kind.ensures ∙ c.if-not-is_of_kind.true))
    ∙ c.loop-at.invariant

pub loop-at-preserved : goal.loop-at-preserved
loop-at-preserved c =
    let within : c.loop-at.at < length c.args.takes.now = (let t = c.loop-at-test.true in let n = c.requires.as_many in omega arith) in
    sym (kind_passes (map the_domain c.args.takes.now) c.args.schema.now c.args.args.now c.loop-at.at (the_domain c.index-takes-at.result) c.index-args-at.result
    (drop_map_read the_domain c.args.takes.now c.loop-at.at c.index-takes-at.result within c.index-takes-at.is)
    (drop_read c.args.args.now c.loop-at.at c.index-args-at.result c.loop-at-test.true c.index-args-at.is) (sym c.is_of_kind.ensures ∙ c.if-not-is_of_kind.false))
    ∙ c.loop-at.invariant
