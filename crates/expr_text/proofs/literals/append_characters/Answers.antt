use Rattle.std.proofs.Common.{◌++◌, sym, ap, ◌∙◌, append_assoc, subst}
use Rattle.std.specs.List.{flat_map}
use Rattle.std.specs.Char.{encode_utf8}
use Rattle.mk_value.specs.Appending.{Appends, FellShort}
use Rattle.mk_value.specs.Tokens.{escaped}
use Rattle.mk_value.proofs.Appending.{appends_then, short_then, short_front, fell_short}
use Rattle.mk_value.proofs.Escapes.{escaped-append, escaped_parts}
use Rattle.expr_text.proofs.literals.append_characters.Goals as goal

pub loop-character-preserved : goal.loop-character-preserved
loop-character-preserved c =
    let step = c.in-Some.ensures.steps.0 in
    let done = c.loop-character.invariant in
    let front = done.0 in
    let character = encode_utf8 c.in-Some.character in (
      front ++ character,
      done.1 ∙ ap (λ xs. front ++ xs) step ∙ sym (append_assoc front character c.next.new.self.rest.now),
      subst (λ p. Appends c.args.out.now p c.append_character.new.out) (sym (escaped-append front character))
          (appends_then _ _ _ _ _ done.2 c.in_ok-append_character.ensures),
    )

pub returns-in_err-append_character : goal.returns-in_err-append_character
returns-in_err-append_character c =
    let step = c.in-Some.ensures.steps.0 in
    let done = c.loop-character.invariant in
    let front = done.0 in
    let character = encode_utf8 c.in-Some.character in
    let rest = c.next.new.self.rest.now in
    fell_short _ _ _ _ c.from_residual.ensures.0
    (subst (λ p. FellShort c.args.out.now p c.append_character.new.out) (escaped_parts c.args.text.now front character rest (done.1 ∙ ap (λ xs. front ++ xs) step))
    (short_then _ _ _ _ _ done.2 (short_front _ _ _ (flat_map escaped rest) c.in_err-append_character.ensures)))
