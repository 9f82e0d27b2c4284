use Rattle.std.proofs.Common.{◌≡◌, ◌+◌, refl, sym, ap, ◌∙◌, inl, inr, ⊎_elim}
use Rattle.std.proofs.lemmas.Result.{err_from_is_err_and}
use Rattle.bit_pack.specs.Packed.{packed_len}
use Rattle.mk_value.specs.declared.span.Span.{Span}
use Rattle.dir_codec.specs.declared.error.DirError.TheVariants.{At}
use Rattle.dir_codec.proofs.TextColumns.{sizes_block_flaw, sizes_lead, sizes_width_flaw}
use Rattle.dir_codec.proofs.columns.read_sizes.Goals as goal

pub returns-in_err-width : goal.returns-in_err-width
returns-in_err-width c = λ number.
    let p = err_from_is_err_and c.from_residual.result c.from_residual.ensures.1 in
    rw (p.1, p.2) (sizes_width_flaw number c.args.end c.args.rows c.args.bytes.now c.args.at _ c.requires.within c.in_err-width.ensures)

pub returns-in_err-sizes : goal.returns-in_err-sizes
returns-in_err-sizes c = λ number.
    let p = err_from_is_err_and c.from_residual-in_err-sizes.result c.from_residual-in_err-sizes.ensures.1 in
    rw (p.1, p.2) (sizes_block_flaw number c.args.end c.args.rows c.args.bytes.now c.args.at c.in_ok-width.width _ c.in_ok-width.ensures
    (c.in_err-sizes.ensures.0, ⊎_elim (λ short. inl short) (λ no. inr (λ is len. no is)) c.in_err-sizes.ensures.1))

pub returns-then-sizes-packed_len : goal.returns-then-sizes-packed_len
returns-then-sizes-packed_len c = λ number.
    let span = c.in_ok-sizes.sizes in
    let len : span.len ≡ packed_len c.in_ok-width.width c.args.rows = c.if-sizes-packed_len.true ∙ c.packed_len.ensures in (
      record { narrow = c.in_ok-width.ensures.1.1; span = c.in_ok-sizes.ensures.1.2; len = len },
      sizes_lead number c.args.end c.args.rows c.args.bytes.now c.args.at c.in_ok-width.width span c.in_ok-width.ensures c.in_ok-sizes.ensures len,
    )

pub returns-else-sizes-packed_len : goal.returns-else-sizes-packed_len
returns-else-sizes-packed_len c = λ number.
    sizes_block_flaw number c.args.end c.args.rows c.args.bytes.now c.args.at c.in_ok-width.width (At (c.args.at + 1)) c.in_ok-width.ensures
    (refl, inr (λ is len. c.if-sizes-packed_len.false (ap (λ (t : Span). t.len) c.in_ok-sizes.ensures.1.0 ∙ len ∙ sym c.packed_len.ensures)))
