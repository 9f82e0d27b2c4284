-- Each exit is the walk's end, or a flaw of it.
use Rattle.std.proofs.Common.{ℕ, List, [], sym, subst, ◌∙◌, inr}
use Rattle.std.proofs.lemmas.Bool.{true≢false}
use Rattle.std.proofs.lemmas.Result.{err_from_is_err_and}
use Rattle.struct_text.specs.Reading.{IsNameAt}
use Rattle.struct_text.specs.Spelling.{Spells}
use Rattle.struct_text.proofs.Whole.{root_refused, no_brackets, inside_refused, goes_past, is_clean, is_spelled}
use Rattle.struct_text.proofs.reading.read_text.Goals as goal

pub returns-in_err-name-clause-refused : goal.returns-in_err-name-clause-refused
returns-in_err-name-clause-refused c =
    let p = err_from_is_err_and c.from_residual.result c.from_residual.ensures.1 in
    rw (p.1, p.2) (inr (root_refused c.args.bytes.now c.in_err-name.field-0.0 c.in_err-name.ensures.refused))

pub returns-then-not-has_byte-clause-refused : goal.returns-then-not-has_byte-clause-refused
returns-then-not-has_byte-clause-refused c =
    let lent = c.as_bytes-name_end.result.now in
    let named = subst (IsNameAt c.args.bytes.now 0 []) (sym c.as_bytes-name_end.ensures.value) c.in_ok-name.ensures.found in
    inr (no_brackets c.args.bytes.now lent named (λ h. true≢false (sym (c.has_byte.ensures.other h) ∙ c.if-not-has_byte.true)))

pub returns-in_err-schema-clause-refused : goal.returns-in_err-schema-clause-refused
returns-in_err-schema-clause-refused c =
    let p = err_from_is_err_and c.from_residual-in_err-schema.result c.from_residual-in_err-schema.ensures.1 in
    let lent = c.as_bytes-name_end.result.now in
    let named = subst (IsNameAt c.args.bytes.now 0 []) (sym c.as_bytes-name_end.ensures.value) c.in_ok-name.ensures.found in
    rw (p.1, p.2) (inside_refused c.args.bytes.now lent named c.in_err-schema.field-0.0 (c.has_byte.ensures.found c.if-not-has_byte.false).1 c.in_err-schema.ensures.refused)

pub returns-then-end-bytes-clause-refused : goal.returns-then-end-bytes-clause-refused
returns-then-end-bytes-clause-refused c =
    let lent = c.as_bytes-name_end.result.now in
    let named = subst (IsNameAt c.args.bytes.now 0 []) (sym c.as_bytes-name_end.ensures.value) c.in_ok-name.ensures.found in
    inr (goes_past c.args.bytes.now lent named c.in_ok-schema.schema c.in_ok-schema.end (c.has_byte.ensures.found c.if-not-has_byte.false).1 c.in_ok-schema.ensures.found c.if-end-bytes.true)

pub returns-clause-clean : goal.returns-clause-clean
returns-clause-clean c =
    let lent = c.as_bytes-name_end.result.now in
    let named = subst (IsNameAt c.args.bytes.now 0 []) (sym c.as_bytes-name_end.ensures.value) c.in_ok-name.ensures.found in
    is_clean c.args.bytes.now lent named c.in_ok-schema.schema c.in_ok-schema.end (c.has_byte.ensures.found c.if-not-has_byte.false).1 c.in_ok-schema.ensures.found c.if-end-bytes.false

pub returns-clause-found : goal.returns-clause-found
returns-clause-found c =
    let lent = c.as_bytes-name_end.result.now in
    let named = subst (IsNameAt c.args.bytes.now 0 []) (sym c.as_bytes-name_end.ensures.value) c.in_ok-name.ensures.found in
    let P : List ℕ → Type 0 = λ name. Spells c.args.bytes.now name c.in_ok-schema.schema in
    subst P c.as_bytes-name_end.ensures.value
    (is_spelled c.args.bytes.now lent named c.in_ok-schema.schema c.in_ok-schema.end (c.has_byte.ensures.found c.if-not-has_byte.false).1 c.in_ok-schema.ensures.found c.if-end-bytes.false)
