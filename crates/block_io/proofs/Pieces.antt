-- What a loop over the pieces of a block has done.
use Rattle.std.proofs.Common.{◌≡◌, refl, sym, ◌∙◌, ap, subst, ℕ, ◌+◌, ◌≤◌, ◌⊎◌, inl, inr, ⊎_elim, List, [], ◌++◌, length, take, arith, Ok, Err, IsErr, length-append}
use Rattle.std.proofs.lemmas.List.{append_assoc, append-nil, length-take-le}
use Rattle.host_io.specs.Outside.{Outside}
use Rattle.host_io.specs.Ranges.{Puts}
use Rattle.block_io.specs.Parts.{rounded}
use Rattle.block_io.specs.Pieces.{IsPiece, PutsNext}
use Rattle.block_io.proofs.Putting.{long_after, puts_failed, puts_joins, puts_none}
use Rattle.block_io.proofs.Rounding.{rounded-nil}

pub not_err : (T E : Type 0) (x : T) → IsErr {T = T} {E = E} (Ok x) → ⊥
not_err T E x err = cc

-- of all bytes the first were put, up to this place, and the rest is to come
pub record HasPut (at place : ℕ) (all rest : List ℕ) (old new : Outside) : Type 0 where
  pub front : List ℕ
  pub cut : rounded all ≡ front ++ rounded rest
  pub place_is : place ≡ at + length front
  pub puts : Puts {T = Unit {0}} {E = Unit {0}} at front old new (Ok tt)

pub has_put_none : (at : ℕ) (all : List ℕ) (outside : Outside) → HasPut at at all all outside outside
has_put_none at all outside = record { front = []; cut = refl; place_is = omega arith; puts = puts_none at outside }

pub place_within : {at place : ℕ} {all rest : List ℕ} {old new : Outside} → at ≤ length old.now.disk.seen → HasPut at place all rest old new → place ≤ length new.now.disk.seen
place_within {place = place} {new = new} within put = subst (λ (p : ℕ). p ≤ length new.now.disk.seen) (sym put.place_is) (long_after put.front within put.puts)

any_ok : {T U E F : Type 0} {x : T} {y : U} {at : ℕ} {bytes : List ℕ} {old new : Outside} → Puts {E = E} at bytes old new (Ok x) → Puts {E = F} at bytes old new (Ok y)
any_ok puts = record { ok = puts.ok; within = puts.within; moments = puts.moments; said = puts.said; input = puts.input }

any_err : {T U E F : Type 0} {e : E} {f : F} {at : ℕ} {bytes : List ℕ} {old new : Outside} → Puts {T = T} at bytes old new (Err e) → Puts {T = U} at bytes old new (Err f)
any_err puts = record { ok = puts.ok; within = puts.within; moments = puts.moments; said = puts.said; input = puts.input }

-- one piece more
pub has_put_more : {E : Type 0} {n at place : ℕ} {all rest left : List ℕ} {old mid new : Outside} → at ≤ length old.now.disk.seen → n + length (rounded left) ≡ length (rounded rest)
    → HasPut at place all rest old mid → PutsNext {E = E} place rest left mid new (Ok n) → HasPut at (place + n) all left old new
has_put_more {E} {n = n} {at} {place} {all} {rest} {left} {old} {mid} {new} within counted put next = record {
  front = put.front ++ next.piece;
  cut = put.cut ∙ ap (λ (l : List ℕ). put.front ++ l) next.cut ∙ sym (append_assoc put.front next.piece (rounded left));
  place_is =
      let long = ap length next.cut in
      let place_is = put.place_is in
      omega (arith, length-append put.front next.piece, long, length-append next.piece (rounded left), counted, place_is);
  puts = puts_joins put.front next.piece within put.puts (any_ok {U = Unit {0}} {F = Unit {0}} {y = tt} (subst (λ (p : ℕ). Puts {E = E} p next.piece mid new (Ok n)) put.place_is next.puts));
}

-- all was put
pub has_put_all : {T E : Type 0} {x : T} {at place : ℕ} {all rest : List ℕ} {old new : Outside} → length rest ≡ 0 → HasPut at place all rest old new → Puts {E = E} at (rounded all) old new (Ok x)
has_put_all {at = at} {all = all} {rest} {old} {new} none put =
    let whole : rounded all ≡ put.front = put.cut ∙ ap (λ (l : List ℕ). put.front ++ l) (rounded-nil rest none) ∙ append-nil put.front in
    any_ok (subst (λ (l : List ℕ). Puts at l old new (Ok tt)) (sym whole) put.puts)

-- a piece failed
pub has_put_failed : {T U E F : Type 0} {e : E} {f : F} {at place : ℕ} {all rest left : List ℕ} {old mid new : Outside} → at ≤ length old.now.disk.seen
    → HasPut at place all rest old mid → PutsNext {T = T} place rest left mid new (Err e) → Puts {T = U} at (rounded all) old new (Err f)
has_put_failed {T} {U} {E} {F} {e} {f} {at = at} {all = all} {left = left} {old} {mid} {new} within put next =
    let whole : rounded all ≡ (put.front ++ next.piece) ++ rounded left = put.cut ∙ ap (λ (l : List ℕ). put.front ++ l) next.cut ∙ sym (append_assoc put.front next.piece (rounded left)) in
    subst (λ (l : List ℕ). Puts {T = U} at l old new (Err f)) (sym whole)
    (puts_failed (put.front ++ next.piece) (rounded left)
    (puts_joins put.front next.piece within put.puts (any_err {U = Unit {0}} {F = Unit {0}} {f = tt} (subst (λ (p : ℕ). Puts {T = T} p next.piece mid new (Err e)) put.place_is next.puts))))

whole_piece : {len : ℕ} {slice from to : List ℕ} → IsPiece slice len from to → (length (take len slice) ≡ 4096) ⊎ (to ≡ [])
whole_piece {len} {slice} is = ⊎_elim (λ full. inl (length-take-le len slice is.within ∙ full)) (λ last. inr last) is.whole

-- one write puts the next piece
pub next_written : {T U E F : Type 0} {x : T} {y : U} {place len : ℕ} {slice from to : List ℕ} {old new : Outside} → IsPiece slice len from to → Puts {E = E} place (take len slice) old new (Ok x) → PutsNext {E = F} place from to old new (Ok y)
next_written {len = len} {slice} is puts = record { piece = take len slice; cut = is.cut; whole = whole_piece is; puts = any_ok puts }

pub next_failed : {T U E F : Type 0} {e : E} {f : F} {place len : ℕ} {slice from to : List ℕ} {old new : Outside} → IsPiece slice len from to → Puts {T = T} place (take len slice) old new (Err e) → PutsNext {T = U} place from to old new (Err f)
next_failed {len = len} {slice} is puts = record { piece = take len slice; cut = is.cut; whole = whole_piece is; puts = any_err puts }
