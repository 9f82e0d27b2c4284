use Rattle.std.proofs.Common.{◌+◌, sym, ◌∙◌, Contains}
use Rattle.std.proofs.lemmas.Result.{err_from_is_err_and}
use Rattle.dir_codec.specs.Parts.{names_before}
use Rattle.dir_codec.proofs.ViewLists.{any-Contains, Contains-any}
use Rattle.dir_codec.proofs.ViewParts.{length_flaw, name_flaw, new_structure, structure_leads, text_flaw}
use Rattle.dir_codec.proofs.views.read_structure.Goals as goal

pub returns-in_err-len : goal.returns-in_err-len
returns-in_err-len c = λ number end more.
    let p = err_from_is_err_and c.from_residual.result c.from_residual.ensures.1 in
    rw (p.1, p.2) (length_flaw number end more (names_before c.args.views.now) c.args.bytes.now c.args.at _ c.requires c.in_err-len.ensures)

pub returns-in_err-name : goal.returns-in_err-name
returns-in_err-name c = λ number end more.
    let p = err_from_is_err_and c.from_residual-in_err-name.result c.from_residual-in_err-name.ensures.1 in
    rw (p.1, p.2) (text_flaw number end more (names_before c.args.views.now) c.args.bytes.now c.args.at c.in_ok-len.field-0 _ c.in_ok-len.ensures c.in_err-name.ensures)

pub returns-then-has_name : goal.returns-then-has_name
returns-then-has_name c = λ number end more.
    name_flaw number end more (names_before c.args.views.now) c.args.bytes.now c.args.at c.in_ok-len.field-0 c.in_ok-name.name c.in_ok-name.schema c.in_ok-len.ensures c.in_ok-name.ensures.1 (Contains-any c.args.views.now c.in_ok-name.name (sym c.has_name.ensures ∙ c.if-has_name.true))

pub returns : goal.returns
returns c = λ number end more.
    let names = names_before c.args.views.now in
    let name = c.in_ok-name.name in
    let schema = c.in_ok-name.schema in
    let len = c.in_ok-len.field-0 in
    let text = c.in_ok-name.ensures in
    let new : Contains names name → ⊥ = λ before. let yes = any-Contains c.args.views.now name before in let is = c.has_name.ensures in let no = c.if-has_name.false in cc in (
      new_structure c.args.views.now c.args.bytes.now (c.args.at + 4) len name schema text.0 c.in_ok-len.ensures.1.3 text.1 new,
      structure_leads number end more names c.args.bytes.now c.args.at len name schema c.in_ok-len.ensures text.0 text.1 new,
    )
