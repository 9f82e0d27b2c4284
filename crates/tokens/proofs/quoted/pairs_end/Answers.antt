-- What was spelled so far stands at the front, and behind it stands a quote or nothing that goes on.
use Rattle.std.proofs.Common.{length, sym, ap, subst, ◌∙◌, arith, Some}
use Rattle.std.proofs.lemmas.List.{take_rest, length-drop}
use Rattle.mk_value.specs.Tokens.{hex_pair}
use Rattle.tokens.specs.Cutting.{begins_with}
use Rattle.tokens.specs.Finding.{FindsByte, IsByte, is_quote}
use Rattle.tokens.proofs.Quotes.{same_paired, pair_opens, spelled_none, spelled_more, quoted_found, quoted_nothing}
use Rattle.tokens.proofs.quoted.pairs_end.Goals as goal

pub loop-len-init : goal.loop-len-init
loop-len-init c = spelled_none hex_pair IsByte c.args.bytes.now

pub loop-len-smaller : goal.loop-len-smaller
loop-len-smaller c =
    let found = c.in-Some.ensures in
    omega (arith, found.0, found.1, c.loop-len.invariant.within, ap length (take_rest c.args.bytes.now c.loop-len.at), length-drop c.loop-len.at c.args.bytes.now)

pub loop-len-preserved : goal.loop-len-preserved
loop-len-preserved c =
    spelled_more hex_pair IsByte c.args.bytes.now c.loop-len.at c.loop-len.invariant c.in-Some.field-0-0 c.in-Some.len
    (subst (λ x. FindsByte hex_pair IsByte x (Some (c.in-Some.field-0-0, c.in-Some.len))) (take_rest c.args.bytes.now c.loop-len.at) c.in-Some.ensures)

pub returns-then-begins_with_quote : goal.returns-then-begins_with_quote
returns-then-begins_with_quote c =
    let whole = take_rest c.args.bytes.now c.loop-len.at in
    quoted_found hex_pair IsByte c.args.bytes.now c.loop-len.at c.loop-len.invariant
    (ap (begins_with is_quote) (sym whole) ∙ sym c.begins_with_quote.ensures ∙ c.if-begins_with_quote.true)

pub returns-else-begins_with_quote : goal.returns-else-begins_with_quote
returns-else-begins_with_quote c =
    let whole = take_rest c.args.bytes.now c.loop-len.at in
    quoted_nothing hex_pair IsByte same_paired pair_opens c.args.bytes.now c.loop-len.at c.loop-len.invariant
    (λ b rest may e. c.in_default.ensures b rest may (whole ∙ e))
    (ap (begins_with is_quote) (sym whole) ∙ sym c.begins_with_quote.ensures ∙ c.if-begins_with_quote.false)
