use Rattle.std.proofs.Common.{◌∷◌, [], pos, ap, sym, refl}
use Rattle.mk_value.proofs.Appending.{fell_short, short_second, writes_along, writes_third}
use Rattle.mk_value.specs.Literals.{value_text}
use Rattle.mk_value.specs.LiteralValues.{literal_of}
use Rattle.expr_text.proofs.Printed.{range_pieces}
use Rattle.expr_text.proofs.tails.append_between.Goals as goal

pub returns : goal.returns
returns c =
    writes_third _ _ _ _ _ _ _ _ _ (range_pieces (record { prop = c.args.prop.now; low = literal_of c.args.low.now; high = literal_of c.args.high.now }))
    c.in_ok-append_equal.ensures c.in_ok-append_str.ensures c.append_literal.ensures

pub returns-in_err-append_str : goal.returns-in_err-append_str
returns-in_err-append_str c =
    fell_short _ _ _ _ c.from_residual-in_err-append_str.ensures.0
    (short_second _ _ _ _ _ (value_text (literal_of c.args.high.now)) _ (range_pieces (record { prop = c.args.prop.now; low = literal_of c.args.low.now; high = literal_of c.args.high.now }))
    c.in_ok-append_equal.ensures c.in_err-append_str.ensures)
