-- The flags of a sorting before and after an event.
use Rattle.std.proofs.Common.{◌≡◌, ◌≢◌, ◌==◌, ℕ, suc, ◌+◌, ◌-◌, ◌<◌, Bool, true, false, not, ◌||◌, ◌&&◌, if◌then◌else◌, List, [], ◌∷◌, ◌++◌, length, get_or, map, take, drop, Option, Some, None, refl, ap, sym, subst, ◌∙◌, arith, inl, inr}
use Rattle.std.specs.List.{insert, remove}
use Rattle.std.specs.Option.{ForSome, option_map}
use Rattle.std.specs.declared.cmp.Ordering.{Ordering}
use Rattle.std.specs.declared.cmp.Ordering.TheVariants.{Less, Equal, Greater}
use Rattle.std.specs.Ordering.{is_eq, nat_cmp, ordering_then}
use Rattle.std.specs.Cmp.{on_total}
use Rattle.std.proofs.lemmas.Bool.{eq-eqb, ne_eqb, cases_eq}
use Rattle.std.proofs.lemmas.List.{drop_more, length-take-le, take-append-drop}
use Rattle.mk_value.specs.Data.{Datum}
use Rattle.mk_value.specs.Heading.{Attribute}
use Rattle.relations.proofs.Ascending.{Ascends, IsIn}
use Rattle.live.specs.Placing.{closed, without}
use Rattle.live.specs.Watching.{IsTurn, comes_to, goes_from, order, placed, position_cmp, positions, passes, told}
use Rattle.live.specs.declared.op.WatchOp.{WatchOp}
use Rattle.live.specs.declared.turn.Turn.{Turn}
use Rattle.live.proofs.Ops.{op_total}
use Rattle.live.proofs.Picks.{picked_same, row_closed}
use Rattle.live.proofs.Placing.{others_placed, picked_positions}
use Rattle.live.proofs.Turning.{gone_picked}
use Rattle.live_counts.specs.Runs.{begins, flags, flags_from, going_flag, ties, without_flag}
use Rattle.live_counts.proofs.Flagging.{IsUpTo, flag_behind, flag_out, insert_removed, length-flags}

-- what is told comes where the row that comes stands
pub told_comes : (b : Bool) (from to : Option ℕ) → comes_to (told b from to) ≡ to
told_comes b None None = refl
told_comes b None (Some q) = refl
told_comes b (Some p) None = refl
told_comes true (Some p) (Some q) = refl
told_comes false (Some p) (Some q) = refl

-- flags rest on what ties alone
flags_mapped : (same same2 : ℕ → ℕ → Bool) (f : ℕ → ℕ) (ok : ℕ → Type 0) → ((a b : ℕ) → ok a → ok b → same2 (f a) (f b) ≡ same a b) → (before : Option ℕ) → ForSome before ok → (ks : List ℕ) → ((k : ℕ) → IsIn k ks → ok k)
    → flags_from same2 (option_map f before) (map f ks) ≡ flags_from same before ks
flags_mapped same same2 f ok alike before first [] all = refl
flags_mapped same same2 f ok alike before first (k ∷ ks) all =
    let here = all k (inl refl) in
    ap (λ b. b ∷ flags_from same2 (Some (f k)) (map f ks)) (at before first)
    ∙ ap (λ fs. begins same before k ∷ fs) (flags_mapped same same2 f ok alike (Some k) (λ j e. let same : k ≡ j = cc in subst ok same here) ks (λ j h. all j (inr h)))
  where
    at : (o : Option ℕ) → ForSome o ok → begins same2 (option_map f o) (f k) ≡ begins same o k
    at None g = refl
    at (Some b) g = ap not (alike b k (g b refl) (all k (inl refl)))

module _ (schema : List Attribute) (op : WatchOp) where
  -- the flags of what is left of a sorting are those of the sorting of what is left
  left_flags : (rows : List (List Datum)) (from : Option ℕ) → ForSome from (λ p. p < length rows)
      → flags (ties schema op rows) (without (placed (positions schema op rows) from) (positions schema op rows)) ≡ flags (ties schema op (without from rows)) (positions schema op (without from rows))
  left_flags rows None there = refl
  left_flags rows (Some p) there =
      let kept = positions schema op rows in
      let left = without (placed kept (Some p)) kept in
      let others = others_placed schema op rows kept p (picked_positions schema op rows) in
      sym (ap (flags (ties schema op (remove rows p)))
      (picked_same (passes schema op) (order schema op) (op_total schema op) [] (remove rows p) (positions schema op (remove rows p)) (map (closed p) left) (picked_positions schema op (remove rows p)) (gone_picked schema op rows (Some p) there))
      ∙ flags_mapped (ties schema op rows) (ties schema op (remove rows p)) (closed p) (λ k. (k < length rows) × (k ≢ p))
      (λ a b x y.
      ap (λ r. is_eq (order schema op r (get_or (remove rows p) (closed p b) []))) (row_closed [] rows p (there p refl) a x.1 x.0)
      ∙ ap (λ r. is_eq (order schema op (get_or rows a []) r)) (row_closed [] rows p (there p refl) b y.1 y.0))
      None (λ k e. cc) left (λ k h. let r = others.inside k h in (r.0, r.2)))

  -- an event leaves the flags of the other rows
  pub turn_flags : (old new : List (List Datum)) (turn : Turn) → IsTurn turn old new
      → flags (ties schema op new) (without (placed (positions schema op new) (comes_to turn)) (positions schema op new)) ≡ flags (ties schema op old) (without (placed (positions schema op old) (goes_from turn)) (positions schema op old))
  turn_flags old new turn h =
      left_flags new (comes_to turn) h.came ∙ ap (λ rows. flags (ties schema op rows) (positions schema op rows)) (sym h.rest) ∙ sym (left_flags old (goes_from turn) h.went)

  module _ (rows : List (List Datum)) where
    abbrev cmp : ℕ → ℕ → Ordering
    cmp i j = order schema op (get_or rows i []) (get_or rows j [])

    up_to : (o p : Ordering) → ordering_then o p ≡ Less → IsUpTo o
    up_to Less p e = tt
    up_to Equal p e = tt
    up_to Greater p e = cc

    -- one row taken out of a sorting takes out one flag
    pub flag_removed : (o : ℕ) → o < length (positions schema op rows)
        → remove (flags (ties schema op rows) (positions schema op rows)) (going_flag (flags (ties schema op rows) (positions schema op rows)) o) ≡ flags (ties schema op rows) (remove (positions schema op rows) o)
    flag_removed o p =
        let kept = positions schema op rows in
        let front : List ℕ = take o kept in
        let x : ℕ = get_or kept o 0 in
        let back : List ℕ = drop (o + 1) kept in
        let long = length-take-le o kept (omega arith) in
        let split : kept ≡ front ++ x ∷ back = sym (take-append-drop o kept) ∙ ap (λ ys. front ++ ys) (drop_more kept o 0 p) in
        let asc : Ascends (position_cmp schema op rows) (front ++ x ∷ back) = subst (Ascends (position_cmp schema op rows)) split (picked_positions schema op rows).ascends in
        let out = flag_out cmp (on_total (λ i. get_or rows i []) (op_total schema op)) (position_cmp schema op rows) (λ i j e. up_to (cmp i j) (nat_cmp i j) e) front x back asc in
        ap (λ ks. remove (flags (ties schema op rows) ks) (going_flag (flags (ties schema op rows) ks) o)) split
        ∙ ap (λ n. remove (flags (ties schema op rows) (front ++ x ∷ back)) (going_flag (flags (ties schema op rows) (front ++ x ∷ back)) n)) (sym long)
        ∙ out ∙ ap (λ n. flags (ties schema op rows) (front ++ drop n kept)) (let e : o + 1 ≡ suc o = omega arith in e)

    pub flags_left : (from : Option ℕ) → ForSome from (λ o. o < length (positions schema op rows))
        → without_flag (flags (ties schema op rows) (positions schema op rows)) from ≡ flags (ties schema op rows) (without from (positions schema op rows))
    flags_left None there = refl
    flags_left (Some o) there = flag_removed o (there o refl)

abbrev pick : ℕ → Bool → Bool → Bool → ℕ
pick o a e b = if a && not (e || b) then suc o else o

pick_end : (o : ℕ) (a b : Bool) → pick o a true b ≡ o
pick_end o true b = refl
pick_end o false b = refl

pick_tied : (o : ℕ) (a e : Bool) → pick o a e true ≡ o
pick_tied o true true = refl
pick_tied o true false = refl
pick_tied o false e = refl

-- which flag is gone: the next where its run goes on behind it, and else its own
pub going_next : (fs : List Bool) (o : ℕ) → get_or fs o false ≡ true → suc o ≢ length fs → get_or fs (suc o) false ≡ false → o + 1 ≡ going_flag fs o
going_next fs o a e b =
    (let f : o + 1 ≡ suc o = omega arith in f)
    ∙ sym (ap (λ x. pick o x (suc o == length fs) (get_or fs (suc o) false)) a ∙ ap (λ x. pick o true x (get_or fs (suc o) false)) (ne_eqb (suc o) (length fs) e) ∙ ap (pick o true false) b)

pub going_lowered : (fs : List Bool) (o : ℕ) → get_or fs o false ≡ false → o ≡ going_flag fs o
going_lowered fs o a = sym (ap (λ x. pick o x (suc o == length fs) (get_or fs (suc o) false)) a)

pub going_last : (fs : List Bool) (o : ℕ) → suc o ≡ length fs → o ≡ going_flag fs o
going_last fs o e =
    sym (ap (λ x. pick o (get_or fs o false) x (get_or fs (suc o) false)) (eq-eqb (suc o) (length fs) e) ∙ pick_end o (get_or fs o false) (get_or fs (suc o) false))

pub going_alone : (fs : List Bool) (o : ℕ) → get_or fs (suc o) false ≡ true → o ≡ going_flag fs o
going_alone fs o b = sym (ap (pick o (get_or fs o false) (suc o == length fs)) b ∙ pick_tied o (get_or fs o false) (suc o == length fs))

pick_within : (o n : ℕ) (a e b : Bool) → suc o < n → pick o a e b < n
pick_within o n true true true q = omega arith
pick_within o n true true false q = omega arith
pick_within o n true false true q = omega arith
pick_within o n true false false q = q
pick_within o n false e b q = omega arith

-- it is one of them
pub going_in : (fs : List Bool) (o : ℕ) → o < length fs → going_flag fs o < length fs
going_in fs o p = elim (cases_eq (suc o) (length fs)) [
  | inl e ↦ subst (λ n. n < length fs) (going_last fs o e) p
  | inr ne ↦ pick_within o (length fs) (get_or fs o false) (suc o == length fs) (get_or fs (suc o) false) (omega arith)
]

-- the flag of an element behind the first
pub flag_at : (same : ℕ → ℕ → Bool) (ks : List ℕ) (j : ℕ) → j < length ks → j ≢ 0 → not (same (get_or ks (j - 1) 0) (get_or ks j 0)) ≡ get_or (flags same ks) j false
flag_at same ks j p ne =
    let e : j ≡ suc (j - 1) = omega arith in
    sym (ap (λ n. get_or (flags same ks) n false) e ∙ flag_behind same None ks (j - 1) (omega arith) ∙ ap (λ n. not (same (get_or ks (j - 1) 0) (get_or ks n 0))) (sym e))

-- one flag put in again
pub flag_again : (schema : List Attribute) (op : WatchOp) (rows : List (List Datum)) (o f : ℕ) (v : Bool) → o < length (positions schema op rows)
    → f ≡ going_flag (flags (ties schema op rows) (positions schema op rows)) o → v ≡ get_or (flags (ties schema op rows) (positions schema op rows)) f false
    → insert (flags (ties schema op rows) (remove (positions schema op rows) o)) f v ≡ flags (ties schema op rows) (positions schema op rows)
flag_again schema op rows o f v p is flag =
    let all : List Bool = flags (ties schema op rows) (positions schema op rows) in
    let long = length-flags (ties schema op rows) None (positions schema op rows) in
    let within : f < length all = subst (λ n. n < length all) (sym is) (going_in all o (omega arith)) in
    ap (λ fs. insert fs f v) (sym (flag_removed schema op rows o p) ∙ ap (remove all) (sym is)) ∙ ap (insert (remove all f) f) flag ∙ insert_removed all f false within
