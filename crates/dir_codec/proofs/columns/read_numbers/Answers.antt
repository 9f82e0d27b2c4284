use Rattle.std.proofs.Common.{◌≡◌, ◌+◌, ℕ, refl, sym, ap, subst, ◌∙◌, inl, inr, ⊎_elim, arith}
use Rattle.std.proofs.lemmas.Result.{err_from_is_err_and}
use Rattle.bit_pack.specs.Packed.{packed_len}
use Rattle.mk_value.specs.declared.span.Span.{Span}
use Rattle.dir_codec.specs.declared.error.DirError.TheVariants.{At}
use Rattle.dir_codec.specs.Parts.{numbers_due, spelled_numbers}
use Rattle.dir_codec.specs.Reads.{Reads}
use Rattle.dir_codec.proofs.ColumnParts.{block_flaw, numbers_read, width_flaw}
use Rattle.dir_codec.proofs.columns.read_numbers.Goals as goal

pub returns-in_err-width : goal.returns-in_err-width
returns-in_err-width c = λ number.
    let p = err_from_is_err_and c.from_residual.result c.from_residual.ensures.1 in
    rw (p.1, p.2) (width_flaw number c.args.end c.args.rows c.args.most c.args.bytes.now c.args.at _ c.requires.within c.in_err-width.ensures)

pub returns-in_err-span : goal.returns-in_err-span
returns-in_err-span c = λ number.
    let p = err_from_is_err_and c.from_residual-in_err-span.result c.from_residual-in_err-span.ensures.1 in
    rw (p.1, p.2) (block_flaw number c.args.end c.args.rows c.args.most c.args.bytes.now c.args.at c.in_ok-width.width _ c.in_ok-width.ensures
    (c.in_err-span.ensures.0, ⊎_elim (λ short. inl short) (λ no. inr (λ is len. no is)) c.in_err-span.ensures.1))

pub returns-then-span-packed_len : goal.returns-then-span-packed_len
returns-then-span-packed_len c = λ number.
    block_flaw number c.args.end c.args.rows c.args.most c.args.bytes.now c.args.at c.in_ok-width.width (At (c.args.at + 1)) c.in_ok-width.ensures
    (refl, inr (λ is len. c.if-span-packed_len.true (ap (λ (t : Span). t.len) c.in_ok-span.ensures.1.0 ∙ len ∙ sym c.packed_len.ensures)))

pub returns : goal.returns
returns c = λ number.
    let span = c.in_ok-span.span in
    let len : span.len ≡ packed_len c.in_ok-width.width c.args.rows = c.if-span-packed_len.false ∙ c.packed_len.ensures in
    let to : c.args.at + 1 + 16 ≡ c.args.at + 17 = omega arith in (
      record { narrow = c.in_ok-width.ensures.1.1; span = c.in_ok-span.ensures.1.2; len = len },
      subst (λ (n : ℕ). Reads number c.args.end (numbers_due c.args.rows c.args.most) c.args.bytes.now c.args.at n (spelled_numbers (c.in_ok-width.width, span))) to
          (numbers_read number c.args.end c.args.rows c.args.most c.args.bytes.now c.args.at c.in_ok-width.width span c.in_ok-width.ensures c.in_ok-span.ensures len),
    )
