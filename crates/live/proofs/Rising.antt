-- Watches that followed some events, and then some more.
use Rattle.std.proofs.Common.{◌≡◌, ℕ, zero, suc, ◌+◌, ◌-◌, ◌^◌, ◌<◌, List, get_or, min, refl, ap, ◌∙◌, arith}
use Rattle.live.specs.Chains.{AreSame, AreTold, raised}
use Rattle.live.specs.States.{WatchState}
use Rattle.live.specs.declared.turn.Turn.{Turn}
use Rattle.live.specs.Edits.{HaveFollowed, HasTaken, HaveTaken, raised_by}

pub raised_more : (n m f : ℕ) → raised_by m (raised_by n f) ≡ raised_by (n + m) f
raised_more n zero f = ap (λ k. raised_by k f) (let e : n ≡ n + 0 = omega arith in e)
raised_more n (suc m) f = ap raised (raised_more n m f) ∙ ap (λ k. raised_by k f) (let e : suc (n + m) ≡ n + suc m = omega arith in e)

pub raised_is : (n f : ℕ) → f < 2 ^ 64 → raised_by n f ≡ min (f + n) (2 ^ 64 - 1)
raised_is zero f small = omega arith
raised_is (suc n) f small = let h = raised_is n f small in ap raised h ∙ (let e : min (min (f + n) (2 ^ 64 - 1) + 1) (2 ^ 64 - 1) ≡ min (f + suc n) (2 ^ 64 - 1) = omega arith in e)

pub followed_none : (watches : List WatchState) → HaveFollowed 0 watches watches
followed_none watches = record {
  long = refl;
  each = λ k d p. record { number = refl; source = refl; op = refl; followed = refl };
}

pub followed_then : (n m : ℕ) (a b c : List WatchState) → HaveFollowed n a b → HaveFollowed m b c → HaveFollowed (n + m) a c
followed_then n m a b c h g = record {
  long = g.long ∙ h.long;
  each = λ k d p.
      let one = h.each k d p in
      let two = g.each k d (let l = h.long in omega arith) in
      record {
        number = two.number ∙ one.number;
        source = two.source ∙ one.source;
        op = two.op ∙ one.op;
        followed = two.followed ∙ ap (raised_by m) one.followed ∙ raised_more n m (get_or a k d).followed;
      };
}

-- one event, noted and then followed
pub followed_one : (turn : Turn) (old noted new : List WatchState) → AreSame old noted → AreTold turn noted new → HaveFollowed 1 old new
followed_one turn old noted new same told = record {
  long = told.long ∙ same.long;
  each = λ k d p.
      let one = same.each k d p in
      let two = told.each k d (let l = same.long in omega arith) in
      record {
        number = two.number ∙ one.number;
        source = two.source ∙ one.source;
        op = two.op ∙ one.op;
        followed = two.followed ∙ ap raised one.followed;
      };
}

pub taken_none : (watches : List WatchState) → HaveTaken 0 0 watches watches
taken_none watches = record {
  long = refl;
  each = λ k d p. record { followed = record { number = refl; source = refl; op = refl; followed = refl }; room = omega arith };
}

pub taken_followed : (n more : ℕ) (old new : List WatchState) → HaveTaken n more old new → HaveFollowed n old new
taken_followed n more old new h = record { long = h.long; each = λ k d p. (h.each k d p).followed }

pub taken_then : (n m r s : ℕ) (a b c : WatchState) → HasTaken n r a b → HasTaken m s b c → HasTaken (n + m) (r + s) a c
taken_then n m r s a b c h g = record {
  followed = record {
    number = g.followed.number ∙ h.followed.number;
    source = g.followed.source ∙ h.followed.source;
    op = g.followed.op ∙ h.followed.op;
    followed = g.followed.followed ∙ ap (raised_by m) h.followed.followed ∙ raised_more n m a.followed;
  };
  room = let x = h.room in let y = g.room in omega arith;
}

-- a count that is raised by some at once
pub raised_on : (n f r : ℕ) → 0 < n → r ≡ min (f + n) (2 ^ 64 - 1) → r ≡ raised_by n f
raised_on zero f r some is = absurd (omega arith)
raised_on (suc zero) f r some is = is ∙ (let e : min (f + suc zero) (2 ^ 64 - 1) ≡ min (f + 1) (2 ^ 64 - 1) = omega arith in e)
raised_on (suc (suc n)) f r some is =
    let h = raised_on (suc n) f (min (f + suc n) (2 ^ 64 - 1)) (omega arith) refl in
    is ∙ (let e : min (f + suc (suc n)) (2 ^ 64 - 1) ≡ min (min (f + suc n) (2 ^ 64 - 1) + 1) (2 ^ 64 - 1) = omega arith in e) ∙ ap raised h

pub taken_none_then : (a b c : WatchState) → HasTaken 0 0 a b → HasTaken 0 0 b c → HasTaken 0 0 a c
taken_none_then a b c h g = taken_then 0 0 0 0 a b c h g

pub taken_same : (w : WatchState) → HasTaken 0 0 w w
taken_same w = record { followed = record { number = refl; source = refl; op = refl; followed = refl }; room = omega arith }
