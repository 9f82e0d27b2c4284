use Rattle.std.proofs.Common.{◌∷◌, [], ◌++◌, pos, ap, sym, refl}
use Rattle.std.specs.Fmt.{signed_decimal}
use Rattle.std.specs.Int.{w64}
use Rattle.std.proofs.lemmas.Int.{to_z-of_z}
use Rattle.mk_value.proofs.Appending.{fell_short, short_second, writes_along, writes_third}
use Rattle.mk_value.specs.Literals.{spelled}
use Rattle.mk_value.specs.Tokens.{number}
use Rattle.expr_text.specs.Spelling.{closing, comma, count}
use Rattle.expr_text.proofs.tails.end_rows.Goals as goal

pub returns-in_err-append_count : goal.returns-in_err-append_count
returns-in_err-append_count c =
    fell_short _ _ _ _ c.from_residual-in_err-append_count.ensures.0
    (short_second _ _ _ (44 ∷ []) (signed_decimal (pos c.args.first)) (spelled (comma ∷ count c.args.limit ∷ comma ∷ number c.args.step ∷ closing ∷ [])) _ refl c.in_ok-append_str.ensures c.in_err-append_count.ensures)

pub returns : goal.returns
returns c =
    writes_third _ _ _ _ _ _ _ _ _
    (ap (λ z. 44 ∷ (signed_decimal (pos c.args.first) ++ (44 ∷ (signed_decimal (pos c.args.limit) ++ (44 ∷ (signed_decimal z ++ (41 ∷ []))))))) (to_z-of_z w64 c.args.step c.ranges.step))
    c.in_ok-append_str.ensures c.in_ok-append_count.ensures c.end_limit.ensures
