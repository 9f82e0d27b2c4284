use Rattle.std.proofs.Common.{Err, ap, inl}
use Rattle.cmd_text.specs.declared.refusal.Refusal.TheVariants.{Limit}
use Rattle.mk_value.specs.Kinds.{domain_of}
use Rattle.mk_value.specs.LiteralValues.{literal_of}
use Rattle.session.specs.Refusals.{unless}
use Rattle.session.proofs.Fitted.{fits_tells, not_short, short_unless}
use Rattle.session.proofs.values.make_value.Goals as goal

pub unreachable-requires : goal.unreachable-requires
unreachable-requires c =
    let fit = (fits_tells (literal_of c.args.literal.now) (domain_of c.args.kind.now)).0 c.requires.fit in
    c.in-Err-WrongKind.ensures.wrong_kind.0 (ap Err c.in-Err-WrongKind.field-0-is) fit

pub returns-in-Ok-clause-due : goal.returns-in-Ok-clause-due
returns-in-Ok-clause-due c =
    let fit = (fits_tells (literal_of c.args.literal.now) (domain_of c.args.kind.now)).0 c.requires.fit in
    ap (λ b. unless b Limit) (short_unless (literal_of c.args.literal.now) (domain_of c.args.kind.now) fit (λ long. absurd (let e = c.in-Ok.ensures.too_long.1 long in cc)))

pub returns-in-Err-TooLong-clause-due : goal.returns-in-Err-TooLong-clause-due
returns-in-Err-TooLong-clause-due c =
    inl (ap (λ b. unless b Limit) (not_short (literal_of c.args.literal.now) (c.in-Err-TooLong.ensures.too_long.0 (ap Err c.in-Err-TooLong.field-0-is)).1))
