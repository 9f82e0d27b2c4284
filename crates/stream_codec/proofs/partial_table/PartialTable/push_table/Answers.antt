use Rattle.std.proofs.Common.{◌∙◌}
use Rattle.mk_value.specs.Data.{relation, relation_of}
use Rattle.stream_codec.proofs.Inners.{no_rows_inside, partial_table, partial_value, seen_domain, seen_more, seen_table}
use Rattle.stream_codec.proofs.partial_table.PartialTable.push_table.Goals as goal

pub invariant_of-self-in_err-push-2 : goal.invariant_of-self-in_err-push-2
invariant_of-self-in_err-push-2 c =
    let i = c.self.inside in
    let domain = seen_domain i.table i.row i.inners.items i.left c.args.self.now c.self.view_is in
    rw c.in_err-push-2.ensures.items
    (partial_value i.table i.row _ i.inners.items i.left (relation (relation_of c.new.result)) c.self.invariant c.in_ok-push.ensures.ok
    (seen_more i.table i.row i.inners.items i.left c.args.self.now c.self.view_is c.requires.within)
    (no_rows_inside _ _ c.new.result (domain ∙ c.requires.view) c.new.ensures))

pub invariant_of-self-2 : goal.invariant_of-self-2
invariant_of-self-2 c =
    let i = c.self.inside in
    let domain = seen_domain i.table i.row i.inners.items i.left c.args.self.now c.self.view_is in
    partial_table i.table i.row _ i.inners.items _ (record { col = c.len-col.result; table = c.args.table }) i.left (relation (relation_of c.new.result)) c.self.invariant c.in_ok-push.ensures.ok c.in_ok-push-2.ensures.items
    (seen_more i.table i.row i.inners.items i.left c.args.self.now c.self.view_is c.requires.within)
    (no_rows_inside _ _ c.new.result (domain ∙ c.requires.view) c.new.ensures) c.len-col.ensures (domain ∙ c.requires.view) c.requires.homeless

pub returns : goal.returns
returns c =
    let i = c.self.inside in
    seen_table i.table i.row i.inners.items i.left c.args.self.now c.self.view_is _ _ (record { col = c.len-col.result; table = c.args.table }) (relation (relation_of c.new.result)) c.self.invariant c.in_ok-push.ensures.ok c.in_ok-push-2.ensures.items c.len-col.ensures
