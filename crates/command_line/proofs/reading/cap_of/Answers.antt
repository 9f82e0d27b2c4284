use Rattle.std.proofs.Common.{◌≡◌, ◌∙◌, ◌<◌, ◌^◌, codes, refl, sym, arith, decimal, lit≤}
use Rattle.std.proofs.lemmas.Fmt.{decimal_injective}
use Rattle.clap.specs.Matches.{found_of}
use Rattle.command_line.proofs.Found.{none_found, text_found}
use Rattle.command_line.proofs.reading.cap_of.Goals as goal

pub returns-in_default-clause-some : goal.returns-in_default-clause-some
returns-in_default-clause-some c = record {
  means = rw (none_found (found_of c.args.matches.now) (codes "cap") c.get_str.result c.get_str.ensures c.in_default.is) refl;
  least = lit≤ tt;
  most = lit≤ tt;
}

pub returns-in_err-cap-clause-none : goal.returns-in_err-cap-clause-none
returns-in_err-cap-clause-none c = rw c.from_residual.ensures (λ cap is.
    let found = text_found (found_of c.args.matches.now) (codes "cap") c.get_str.result c.get_str.ensures c.in-Some.text c.in-Some.is in
    let small : cap < 2 ^ 64 = omega (arith, is.most) in
    c.in_err-cap.ensures.none cap small (rw found at is.means))

pub returns-then-cap-lt-LEAST_CAP-clause-none : goal.returns-then-cap-lt-LEAST_CAP-clause-none
returns-then-cap-lt-LEAST_CAP-clause-none c = λ cap is.
    let found = text_found (found_of c.args.matches.now) (codes "cap") c.get_str.result c.get_str.ensures c.in-Some.text c.in-Some.is in
    let spelled : c.in-Some.text.now ≡ decimal cap = rw found at is.means in
    let same : cap ≡ c.in_ok-cap.cap = decimal_injective cap c.in_ok-cap.cap (omega (arith, is.most)) (omega arith) (sym spelled ∙ c.in_ok-cap.ensures.some) in
    omega (arith, is.least, is.most)

pub returns-clause-some : goal.returns-clause-some
returns-clause-some c = record {
  means = rw (text_found (found_of c.args.matches.now) (codes "cap") c.get_str.result c.get_str.ensures c.in-Some.text c.in-Some.is) c.in_ok-cap.ensures.some;
  least = omega arith;
  most = omega arith;
}
