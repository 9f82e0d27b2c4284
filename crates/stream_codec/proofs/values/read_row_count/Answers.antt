use Rattle.std.proofs.Common.{arith}
use Rattle.std.proofs.lemmas.Result.{err_from_is_err_and}
use Rattle.mk_value.specs.Kinds.{domain_of}
use Rattle.stream_codec.proofs.ReadFields.{awaits_rows, no_rows_fit, no_rows_lead, no_rows_spelled, rows_lead, rows_wrong}
use Rattle.stream_codec.proofs.values.read_row_count.Goals as goal

pub returns-in_err-count : goal.returns-in_err-count
returns-in_err-count c =
    let p = err_from_is_err_and c.from_residual.result c.from_residual.ensures.1 in
    rw (p.1, p.2) (rows_wrong (domain_of c.args.kind.now) c.args.field.now c.args.place _ c.requires.view c.requires.long c.in_err-count.ensures)

pub returns-then-count-eq0 : goal.returns-then-count-eq0
returns-then-count-eq0 c = (
  no_rows_fit (domain_of c.args.kind.now) c.new.result c.new.ensures c.requires.view,
  no_rows_spelled c.args.field.now c.new.result c.in_ok-count.count c.in_ok-count.ensures c.if-count-eq0.true c.new.ensures,
  no_rows_lead (domain_of c.args.kind.now) c.args.field.now c.in_ok-count.count c.requires.view c.requires.long c.in_ok-count.ensures c.if-count-eq0.true,
)

pub returns-else-count-eq0 : goal.returns-else-count-eq0
returns-else-count-eq0 c = (
  awaits_rows (domain_of c.args.kind.now) c.in_ok-count.count c.requires.view (omega arith) c.in_ok-count.ensures.2,
  c.in_ok-count.ensures.1,
  rows_lead (domain_of c.args.kind.now) c.args.field.now c.in_ok-count.count c.requires.view c.requires.long c.in_ok-count.ensures,
)
