-- An outside that goes on, over several calls.
use Rattle.std.proofs.Common.{◌≡◌, ◌≤◌, List, [], ◌∷◌, ◌++◌, length, sym, subst, arith, Result}
use Rattle.host_io.specs.Outside.{Moment, Outside, moments, Each, Goes}
use Rattle.host_io.specs.Calls.{CountsTake, StandsStill}
use Rattle.host_io.proofs.Moments.{begins, begins_still, joins, weaker}
use Rattle.lines.specs.Later.{Advances}

heads : (xs ys : List Moment) (x y : Moment) → x ∷ xs ≡ y ∷ ys → x ≡ y
heads xs ys x y is = cc

by_added : (P : Moment → Type 0) (added : List Moment) (old new : Outside) → moments new ≡ added ++ moments old → Each P added → P old.now → P new.now
by_added P [] old new follows each before = subst P (sym (heads new.past old.past new.now old.now follows)) before
by_added P (at ∷ added) old new follows each before = subst P (sym (heads new.past (added ++ moments old) new.now at follows)) each.0

-- what holds at the first moment and at each that came holds now
pub Goes-now : (P : Moment → Type 0) (old new : Outside) → Goes P old new → P old.now → P new.now
Goes-now P old new goes before = by_added P goes.added old new goes.follows goes.each before

-- nothing happened yet
pub Advances-none : (outside : Outside) → Advances outside outside
Advances-none outside = record { moments = begins outside; disk_faults = omega arith; take_faults = omega arith; say_faults = omega arith }

-- one after the other
pub Advances-joins : (old mid new : Outside) → Advances old mid → Advances mid new → Advances old new
Advances-joins old mid new first then =
    let n = length old.now.said in
    let reached : n ≤ length mid.now.said = Goes-now (λ at. n ≤ length at.said) old mid first.moments (omega arith) in
    let a = first.disk_faults in let b = then.disk_faults in
    let c = first.take_faults in let d = then.take_faults in
    let e = first.say_faults in let f = then.say_faults in
    record {
      moments = joins first.moments (weaker (λ at more. omega (arith, more, reached)) then.moments);
      disk_faults = omega arith;
      take_faults = omega arith;
      say_faults = omega arith;
    }

-- a call that takes bytes
pub Advances-take : {T E : Type 0} {result : Result T E} (old new : Outside) → StandsStill old new → CountsTake old new result → Advances old new
Advances-take old new still counts =
    let disk = counts.disk in let says = counts.says in let takes = counts.takes.later in
    record { moments = begins_still still; disk_faults = omega arith; take_faults = omega arith; say_faults = omega arith }
