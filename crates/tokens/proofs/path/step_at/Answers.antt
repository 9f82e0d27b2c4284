-- Each place at which a step may stop.
use Rattle.std.proofs.Common.{inr, refl, sym, ◌∙◌}
use Rattle.std.proofs.lemmas.Bool.{true≢false}
use Rattle.tokens.specs.Meanings.{tokens_of_pieces}
use Rattle.tokens.proofs.Routes.{stuck_row, stuck_slash, stuck_prop}
use Rattle.tokens.proofs.path.step_at.Goals as goal

pub returns-in_default-clause-stuck : goal.returns-in_default-clause-stuck
returns-in_default-clause-stuck c = inr (1, refl, stuck_row (tokens_of_pieces c.args.pieces.now) c.args.at c.requires.opens c.in_default.ensures.none)

pub returns-then-not-is_sign_at-clause-stuck : goal.returns-then-not-is_sign_at-clause-stuck
returns-then-not-is_sign_at-clause-stuck c =
    inr (
      2,
      refl,
      stuck_slash (tokens_of_pieces c.args.pieces.now) c.args.at c.requires.opens c.in-Some.row c.in-Some.ensures.small c.in-Some.ensures.some
          (λ h. true≢false (sym (c.is_sign_at.ensures.stands.1 h) ∙ c.if-not-is_sign_at.true)),
    )

pub returns-in_default-word_at-clause-stuck : goal.returns-in_default-word_at-clause-stuck
returns-in_default-word_at-clause-stuck c =
    inr (
      3,
      refl,
      stuck_prop (tokens_of_pieces c.args.pieces.now) c.args.at c.requires.opens c.in-Some.row c.in-Some.ensures.small c.in-Some.ensures.some
          (c.is_sign_at.ensures.stands.0 c.if-not-is_sign_at.false) c.in_default-word_at.ensures.none,
    )
