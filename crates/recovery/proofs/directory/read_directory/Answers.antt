use Rattle.std.proofs.Common.{ℕ, List, ◌+◌, ◌^◌, ◌<◌, ◌≤◌, length, ◌∙◌, ap, sym, subst}
use Rattle.mk_value.specs.declared.span.Span.{Span}
use Rattle.host_io.specs.Ranges.{bytes_in}
use Rattle.commit_writes.specs.Blocks.{span_range}
use Rattle.dir_codec.specs.Values.{dir_of}
use Rattle.recovery.specs.Flaws.{NamesFlaw}
use Rattle.recovery.proofs.Flawed.{by_cause, ends_below, ends_within, first_flaw, has_dir, not_read}
use Rattle.recovery.proofs.directory.read_directory.Goals as goal

pub read_block-requires-clause-ends : goal.read_block-requires-clause-ends
read_block-requires-clause-ends g c = subst (λ (s : Span). s.place + s.len < 2 ^ 64) (sym c.dir.ensures) (ends_below c.args.mark.now c.requires.good c.requires.site)

pub read_block-requires-clause-within : goal.read_block-requires-clause-within
read_block-requires-clause-within g c = λ tells.
    let image = (g.D.Disk.outside c.args.disk.now).now.disk.seen in
    subst (λ (s : Span). s.place + s.len ≤ length image) (sym c.dir.ensures) (ends_within image c.args.mark.now (c.requires.fits tells))

pub returns-in_err-bytes-clause-flawed : goal.returns-in_err-bytes-clause-flawed
returns-in_err-bytes-clause-flawed g c = λ tells.
    let image = (g.D.Disk.outside c.args.disk.now).now.disk.seen in
    by_cause (NamesFlaw image c.args.mark.now) c.from_residual.result _ c.from_residual.ensures.1 (not_read image c.args.mark.now c.in_err-bytes.field-0.0)

pub returns-in_err-dir-clause-flawed : goal.returns-in_err-dir-clause-flawed
returns-in_err-dir-clause-flawed g c = λ tells.
    let image = (g.D.Disk.outside c.args.disk.now).now.disk.seen in
    by_cause (NamesFlaw image c.args.mark.now) c.from_residual-in_err-dir.result _ c.from_residual-in_err-dir.ensures.1
    (first_flaw image c.as_slice.result.now c.args.mark.now c.in_err-dir.field-0.0 (c.requires.fits tells)
    (c.as_slice.ensures ∙ c.in_ok-bytes.ensures.bytes tells ∙ ap (λ (s : Span). bytes_in image (span_range s)) c.dir.ensures) c.in_err-dir.ensures.refused)

pub returns-clause-found : goal.returns-clause-found
returns-clause-found g c = λ tells.
    let image = (g.D.Disk.outside c.args.disk.now).now.disk.seen in
    has_dir image c.as_slice.result.now c.args.mark.now (dir_of c.in_ok-dir.dir) (c.requires.fits tells)
    (c.as_slice.ensures ∙ c.in_ok-bytes.ensures.bytes tells ∙ ap (λ (s : Span). bytes_in image (span_range s)) c.dir.ensures) c.in_ok-dir.ensures.found

pub returns-clause-small : goal.returns-clause-small
returns-clause-small g c = subst (λ (bs : List ℕ). length bs < 2 ^ 64) c.in_ok-dir.ensures.found.1 c.as_slice.type_inv.0
