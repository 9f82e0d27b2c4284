use Rattle.std.proofs.Common.{arith}
use Rattle.std.proofs.lemmas.Result.{err_from_is_err_and}
use Rattle.mk_value.specs.Heading.{Domain}
use Rattle.stream_codec.proofs.ReadFields.{length_leads, length_wrong, no_bytes_leads, nothing_leads, nothing_spelled, nothing_fits}
use Rattle.stream_codec.proofs.values.read_bytes_length.Goals as goal

pub returns-in_err-len : goal.returns-in_err-len
returns-in_err-len c =
    let p = err_from_is_err_and c.from_residual.result c.from_residual.ensures.1 in
    rw (p.1, p.2) (length_wrong Domain.bytes c.args.field.now c.args.place _ c.requires c.in_err-len.ensures)

pub returns-then-len-eq0 : goal.returns-then-len-eq0
returns-then-len-eq0 c = (
  nothing_fits c.new.result.bytes c.new.ensures,
  nothing_spelled c.args.field.now c.new.result.bytes c.in_ok-len.len c.in_ok-len.ensures c.if-len-eq0.true c.new.ensures,
  nothing_leads Domain.bytes c.args.field.now c.in_ok-len.len c.requires c.in_ok-len.ensures c.if-len-eq0.true no_bytes_leads,
)

pub returns-else-len-eq0 : goal.returns-else-len-eq0
returns-else-len-eq0 c =
    ((omega arith, c.in_ok-len.ensures.2), c.in_ok-len.ensures.1, length_leads Domain.bytes c.args.field.now c.in_ok-len.len c.requires c.in_ok-len.ensures)
