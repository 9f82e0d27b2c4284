use Rattle.std.proofs.Common.{◌≡◌, true, false, ◌&&◌, refl, ap, sym, ◌∙◌}
use Rattle.std.specs.Prelude.{codes}
use Rattle.std.specs.Str.{is_utf8, bytes_eq}
use Rattle.std.proofs.lemmas.Str.{is_utf8-from_IsUtf8, IsUtf8-from_is_utf8}
use Rattle.cmd_text.specs.Lines.{without_leading, without_trailing}
use Rattle.session.proofs.words.is_quit.Goals as goal

pub returns-in-Ok : goal.returns-in-Ok
returns-in-Ok c =
    let line = c.args.line.now in
    let utf8 = is_utf8-from_IsUtf8 line c.in-Ok.ensures.cases.1 in
    c.eq.ensures
    ∙ ap (λ t. bytes_eq t (codes "quit")) (c.without_spaces.ensures ∙ ap (λ t. without_trailing (without_leading t)) c.in-Ok.ensures.cases.0)
    ∙ sym (ap (λ b. b && bytes_eq (without_trailing (without_leading line)) (codes "quit")) utf8)

pub returns-in-Err : goal.returns-in-Err
returns-in-Err c =
    let line = c.args.line.now in
    elim (is_utf8 line) as (λ b. is_utf8 line ≡ b → false ≡ (b && bytes_eq (without_trailing (without_leading line)) (codes "quit")))
    [ true ↦ λ e. absurd (c.in-Err.ensures.cases.0 (IsUtf8-from_is_utf8 line e)) | false ↦ λ e. refl ] refl
