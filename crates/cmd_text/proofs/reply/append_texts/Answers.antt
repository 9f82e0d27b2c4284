use Rattle.std.proofs.Common.{ap, arith, subst, length, ◌≤◌, ◌∙◌}
use Rattle.std.proofs.lemmas.List.{take_all}
use Rattle.std.specs.List.{flat_map}
use Rattle.mk_value.specs.Appending.{Appends, FellShort}
use Rattle.mk_value.proofs.Appending.{appends_next, short_next, fell_short}
use Rattle.cmd_text.specs.Replies.{reply_line}
use Rattle.cmd_text.proofs.Texts.{line_of, flat_map-contents}
use Rattle.cmd_text.proofs.reply.append_texts.Goals as goal

pub returns-in_err-append_line : goal.returns-in_err-append_line
returns-in_err-append_line c =
    fell_short _ _ _ _ c.from_residual.ensures.0
    (subst (λ p. FellShort c.args.out.now p c.append_line.new.out) (flat_map-contents c.args.texts.now)
    (short_next line_of c.args.texts.now c.loop-text.text-index c.text-item.result _ _ _ c.loop-text-test.true c.text-item.is c.loop-text.invariant
    (subst (λ t. FellShort c.loop-text.out (reply_line t) c.append_line.new.out) c.as_str.ensures.value c.in_err-append_line.ensures)))

pub loop-text-preserved : goal.loop-text-preserved
loop-text-preserved c =
    appends_next line_of c.args.texts.now c.loop-text.text-index c.text-item.result _ _ _ c.loop-text-test.true c.text-item.is c.loop-text.invariant
    (subst (λ t. Appends c.loop-text.out (reply_line t) c.append_line.new.out) c.as_str.ensures.value c.in_ok-append_line.ensures)

pub returns : goal.returns
returns c =
    let all : length c.args.texts.now ≤ c.loop-text.text-index = omega arith in
    subst (λ p. Appends c.args.out.now p c.loop-text.out)
    (ap (flat_map line_of) (take_all c.loop-text.text-index c.args.texts.now all) ∙ flat_map-contents c.args.texts.now)
    c.loop-text.invariant
