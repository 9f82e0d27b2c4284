-- What was read so far is a path, and reading stops where its next step does.
use Rattle.std.proofs.Common.{◌≤◌, ◌+◌, length, inl, inr, refl, sym, ◌∙◌, arith, ⊎_elim}
use Rattle.std.proofs.lemmas.Bool.{true≢false}
use Rattle.std.proofs.lemmas.List.{length-map}
use Rattle.std.proofs.lemmas.Result.{err_from_is_err_and}
use Rattle.mk_value.specs.Tokens.{sign}
use Rattle.tokens.specs.Meanings.{token_of, tokens_of_pieces}
use Rattle.tokens.specs.Paths.{slash}
use Rattle.tokens.proofs.Routes.{no_path, path_stuck, path_more, path_whole, stands_next}
use Rattle.tokens.proofs.path.path_at.Goals as goal

pub returns-in_default-clause-stuck : goal.returns-in_default-clause-stuck
returns-in_default-clause-stuck c = inr (0, refl, no_path (tokens_of_pieces c.args.pieces.now) c.in_default.ensures.none)

pub returns-in_err-step-clause-stuck : goal.returns-in_err-step-clause-stuck
returns-in_err-step-clause-stuck c =
    let p = err_from_is_err_and c.from_residual.result c.from_residual.ensures.1 in
    let long = length-map c.args.pieces.now (λ p. token_of p.token) in
    let within : c.loop-path.at ≤ length (tokens_of_pieces c.args.pieces.now) = omega (arith, long, c.loop-path.invariant.within) in
    rw (p.1, p.2) (⊎_elim (λ m. inl m)
    (λ s. inr (c.loop-path.at + s.0, s.1, path_stuck (tokens_of_pieces c.args.pieces.now) c.loop-path.at s.0 c.loop-path.path c.loop-path.invariant.whole within c.loop-path.invariant.read s.2))
    c.in_err-step.ensures.stuck)

pub loop-path-preserved : goal.loop-path-preserved
loop-path-preserved c =
    let long = length-map c.args.pieces.now (λ p. token_of p.token) in
    let within : c.loop-path.at ≤ length (tokens_of_pieces c.args.pieces.now) = omega (arith, long, c.loop-path.invariant.within) in
    let step = c.in_ok-step.ensures.step in
    record {
      within = omega (arith, long, step.within);
      whole = path_whole c.loop-path.path c.push.new.self c.in_ok-step.step c.loop-path.invariant.whole step.whole c.push.ensures.name c.in_ok-push.ensures.ok;
      read = path_more (tokens_of_pieces c.args.pieces.now) c.loop-path.at c.loop-path.path c.push.new.self c.in_ok-step.step within c.loop-path.invariant.read step c.push.ensures.name c.in_ok-push.ensures.ok;
    }

pub returns-clause-ends : goal.returns-clause-ends
returns-clause-ends c = λ goes.
    let stands = stands_next (tokens_of_pieces c.args.pieces.now) c.loop-path.at (sign slash) goes.0 goes.1 in
    true≢false (sym (c.is_sign_at.ensures.stands.1 stands) ∙ c.loop-path-test.false)
