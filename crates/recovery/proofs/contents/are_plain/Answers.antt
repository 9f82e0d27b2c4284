use Rattle.std.proofs.Common.{◌≡◌, get_or, below_more, Bool, true, false, ◌&&◌, All, refl, subst, arith}
use Rattle.std.proofs.lemmas.Bool.{ltb-true, false≢true, OnTrue_from}
use Rattle.std.proofs.lemmas.List.{get_or_default}
use Rattle.std.specs.Prelude.{nat_lt}
use Rattle.recovery.specs.Contents.{IsPlainByte}
use Rattle.recovery.proofs.contents.are_plain.Goals as goal

both : (a b : Bool) → (a && b) ≡ true → (a ≡ true) × (b ≡ true)
both true b h = (refl, h)
both false b h = absurd (false≢true h)

pub loop-byte-preserved : goal.loop-byte-preserved
loop-byte-preserved c = λ plain.
    let before = both c.loop-byte.plain _ plain in
    let here = both (nat_lt 0 (get_or c.args.bytes.now c.loop-byte.byte-index 0)) (nat_lt (get_or c.args.bytes.now c.loop-byte.byte-index 0) 128) before.1 in
    below_more _ _ (c.loop-byte.invariant before.0) (ltb-true 0 _ here.0, ltb-true _ 128 here.1)

pub returns : goal.returns
returns c = OnTrue_from c.loop-byte.plain (All IsPlainByte c.args.bytes.now) (λ plain k d within.
    subst IsPlainByte (get_or_default c.args.bytes.now k 0 d within) (c.loop-byte.invariant plain k (let e = c.loop-byte-test.false in omega (arith, within, e))))
