-- One piece appended after another.
use Rattle.std.proofs.Common.{◌≡◌, ℕ, ◌+◌, ◌<◌, ◌≤◌, List, [], ◌∷◌, ◌++◌, length, take, drop, get_or, zero, suc, add-one, Result, Ok, Err, OnOk, OnErr, IsOk, IsErr, is_err, true, refl, ap, sym, subst, ◌∙◌, append_assoc, arith, length-append, inl, inr}
use Rattle.std.proofs.lemmas.Bool.{cases_lt, false≢true}
use Rattle.std.proofs.lemmas.Grind.{common_steps}
use Rattle.std.specs.List.{flat_map}
use Rattle.std.specs.Str.{IsUtf8}
use Rattle.mk_value.specs.Buffer.{Buffer}
use Rattle.mk_value.specs.Appending.{Appends, FellShort, Writes}

take_front : (xs ys : List ℕ) → take (length xs) (xs ++ ys) ≡ xs
take_front [] ys = refl
take_front (x ∷ xs) ys = ap (λ zs. x ∷ zs) (take_front xs ys)

take_take : (m n : ℕ) (xs : List ℕ) → m ≤ n → take m (take n xs) ≡ take m xs
take_take m n xs h = grind (arith, common_steps)

append_nil : (xs : List ℕ) → xs ++ [] ≡ xs
append_nil [] = refl
append_nil (x ∷ xs) = ap (λ zs. x ∷ zs) (append_nil xs)

pub appends_nothing : (a : Buffer) → Appends a [] a
appends_nothing a = record { bytes = sym (append_nil a.bytes); room = omega arith }

pub appends_then : (a b c : Buffer) (p q : List ℕ) → Appends a p b → Appends b q c → Appends a (p ++ q) c
appends_then a b c p q first more = record {
  bytes = more.bytes ∙ ap (λ xs. xs ++ q) first.bytes ∙ append_assoc a.bytes p q;
  room = omega (arith, length-append p q);
}

pub short_front : (a b : Buffer) (p q : List ℕ) → FellShort a p b → FellShort a (p ++ q) b
short_front a b p q h = record {
  front = h.front;
  longer = h.longer;
  room = omega (arith, length-append p q);
  short = omega (arith, length-append p q);
}

pub short_then : (a b c : Buffer) (p q : List ℕ) → Appends a p b → FellShort b q c → FellShort a (p ++ q) c
short_then a b c p q first h =
    let long : length b.bytes ≡ length a.bytes + length p = ap length first.bytes ∙ length-append a.bytes p in
    record {
      front = sym (take_take (length a.bytes) (length b.bytes) c.bytes (omega arith)) ∙ ap (take (length a.bytes)) (h.front ∙ first.bytes) ∙ take_front a.bytes p;
      longer = omega arith;
      room = omega (arith, length-append p q);
      short = omega (arith, length-append p q);
    }

pub writes_then : {T E : Type 0} (r : Result T E) (a b c : Buffer) (p q : List ℕ) → Appends a p b → Writes r b q c → Writes r a (p ++ q) c
writes_then (Ok x) a b c p q first h = appends_then a b c p q first h
writes_then (Err e) a b c p q first h = short_then a b c p q first h

pub writes_along : {T E : Type 0} (r : Result T E) (a c : Buffer) (p q : List ℕ) → p ≡ q → Writes r a p c → Writes r a q c
writes_along r a c p q e h = subst (λ x. Writes r a x c) e h

-- what the calls of a text say of one piece
pub writes_pushed : {T E : Type 0} (r : Result T E) (a b : Buffer) (p : List ℕ) → OnOk r (b.bytes ≡ a.bytes ++ p) → OnErr r (b.bytes ≡ a.bytes) → (length p ≤ a.spare → IsOk r) → a.spare ≤ b.spare + length p → Writes r a p b
writes_pushed (Ok x) a b p ok err roomy spare = record { bytes = ok; room = spare }
writes_pushed (Err e) a b p ok err roomy spare =
    let long = ap length err in
    record {
      front = ap (take (length a.bytes)) err ∙ ap (take (length a.bytes)) (sym (append_nil a.bytes)) ∙ take_front a.bytes [];
      longer = omega arith;
      room = omega arith;
      short = elim (cases_lt a.spare (length p)) [ inl h ↦ h | inr h ↦ absurd (false≢true (roomy h)) ];
    }

-- the texts of a list's elements one after another: before an element, the element, and behind it
split_suc : {X : Type 0} (f : X → List ℕ) (xs : List X) (i : ℕ) (x : X) → i < length xs → x ≡ get_or xs i x → flat_map f (take i xs) ++ (f x ++ flat_map f (drop (suc i) xs)) ≡ flat_map f xs
split_suc f [] i x p e = absurd (omega arith)
split_suc f (y ∷ ys) zero x p e = ap (λ z. f z ++ flat_map f ys) e
split_suc f (y ∷ ys) (suc i) x p e =
    append_assoc (f y) (flat_map f (take i ys)) (f x ++ flat_map f (drop (suc i) ys))
    ∙ ap (λ zs. f y ++ zs) (split_suc f ys i x (omega arith) e)

next_suc : {X : Type 0} (f : X → List ℕ) (xs : List X) (i : ℕ) (x : X) → i < length xs → x ≡ get_or xs i x → flat_map f (take i xs) ++ f x ≡ flat_map f (take (suc i) xs)
next_suc f [] i x p e = absurd (omega arith)
next_suc f (y ∷ ys) zero x p e = ap f e ∙ sym (append_nil (f y))
next_suc f (y ∷ ys) (suc i) x p e = append_assoc (f y) (flat_map f (take i ys)) (f x) ∙ ap (λ zs. f y ++ zs) (next_suc f ys i x (omega arith) e)

pub flat_split : {X : Type 0} (f : X → List ℕ) (xs : List X) (i : ℕ) (x : X) → i < length xs → x ≡ get_or xs i x → flat_map f (take i xs) ++ (f x ++ flat_map f (drop (i + 1) xs)) ≡ flat_map f xs
flat_split f xs i x p e = rw add-one (split_suc f xs i x p e)

pub flat_next : {X : Type 0} (f : X → List ℕ) (xs : List X) (i : ℕ) (x : X) → i < length xs → x ≡ get_or xs i x → flat_map f (take i xs) ++ f x ≡ flat_map f (take (i + 1) xs)
flat_next f xs i x p e = rw add-one (next_suc f xs i x p e)

-- a step of a loop that appends the text of each element, and its end where there is no room
pub appends_next : {X : Type 0} (f : X → List ℕ) (xs : List X) (i : ℕ) (x : X) (a b c : Buffer) → i < length xs → x ≡ get_or xs i x → Appends a (flat_map f (take i xs)) b → Appends b (f x) c → Appends a (flat_map f (take (i + 1) xs)) c
appends_next f xs i x a b c p e first more = subst (λ t. Appends a t c) (flat_next f xs i x p e) (appends_then a b c (flat_map f (take i xs)) (f x) first more)

pub short_next : {X : Type 0} (f : X → List ℕ) (xs : List X) (i : ℕ) (x : X) (a b c : Buffer) → i < length xs → x ≡ get_or xs i x → Appends a (flat_map f (take i xs)) b → FellShort b (f x) c → FellShort a (flat_map f xs) c
short_next f xs i x a b c p e first h =
    subst (λ t. FellShort a t c) (flat_split f xs i x p e)
    (short_then a b c (flat_map f (take i xs)) (f x ++ flat_map f (drop (i + 1) xs)) first (short_front b c (f x) (flat_map f (drop (i + 1) xs)) h))

-- what the exit of a `?` hands on
pub fell_short : {T E : Type 0} (r : Result T E) (a b : Buffer) (p : List ℕ) → IsErr r → FellShort a p b → Writes r a p b
fell_short (Ok x) a b p is h = absurd (false≢true is)
fell_short (Err e) a b p is h = h

-- three pieces one after another: no room for the first, none for the second, and what comes of the third
pub short_first : (a b : Buffer) (p q w : List ℕ) → p ++ q ≡ w → FellShort a p b → FellShort a w b
short_first a b p q w e h = subst (λ x. FellShort a x b) e (short_front a b p q h)

pub short_second : (a b c : Buffer) (p q r w : List ℕ) → p ++ (q ++ r) ≡ w → Appends a p b → FellShort b q c → FellShort a w c
short_second a b c p q r w e first h = subst (λ x. FellShort a x c) e (short_then a b c p (q ++ r) first (short_front b c q r h))

pub writes_third : {T E : Type 0} (s : Result T E) (a b c d : Buffer) (p q r w : List ℕ) → p ++ (q ++ r) ≡ w → Appends a p b → Appends b q c → Writes s c r d → Writes s a w d
writes_third s a b c d p q r w e first second h = subst (λ x. Writes s a x d) e (writes_then s a b d p (q ++ r) first (writes_then s b c d q r second h))

-- the same in a loop that appends a mark and then a text for each element
pub short_mark : {X : Type 0} (mark : List ℕ) (f : X → List ℕ) (xs : List X) (i : ℕ) (x : X) (a b c : Buffer) → i < length xs → x ≡ get_or xs i x → Appends a (flat_map (λ y. mark ++ f y) (take i xs)) b → FellShort b mark c → FellShort a (flat_map (λ y. mark ++ f y) xs) c
short_mark mark f xs i x a b c p e first h = short_next (λ y. mark ++ f y) xs i x a b c p e first (short_front b c mark (f x) h)

pub short_marked : {X : Type 0} (mark : List ℕ) (f : X → List ℕ) (xs : List X) (i : ℕ) (x : X) (a b c d : Buffer) → i < length xs → x ≡ get_or xs i x → Appends a (flat_map (λ y. mark ++ f y) (take i xs)) b → Appends b mark c → FellShort c (f x) d → FellShort a (flat_map (λ y. mark ++ f y) xs) d
short_marked mark f xs i x a b c d p e first second h = short_next (λ y. mark ++ f y) xs i x a b d p e first (short_then b c d mark (f x) second h)

pub appends_marked : {X : Type 0} (mark : List ℕ) (f : X → List ℕ) (xs : List X) (i : ℕ) (x : X) (a b c d : Buffer) → i < length xs → x ≡ get_or xs i x → Appends a (flat_map (λ y. mark ++ f y) (take i xs)) b → Appends b mark c → Appends c (f x) d → Appends a (flat_map (λ y. mark ++ f y) (take (i + 1) xs)) d
appends_marked mark f xs i x a b c d p e first second third = appends_next (λ y. mark ++ f y) xs i x a b d p e first (appends_then b c d mark (f x) second third)

-- a text that fell short has the text that was there at its front
pub utf8_front : {T E : Type 0} (r : Result T E) (a b : Buffer) (p : List ℕ) (n : ℕ) → n ≡ length a.bytes → is_err r ≡ true → IsUtf8 a.bytes → Writes r a p b → IsUtf8 (take n b.bytes)
utf8_front (Ok x) a b p n e is u h = absurd (false≢true is)
utf8_front (Err x) a b p n e is u h = rw e (subst IsUtf8 (sym h.front) u)

-- what a piece leaves at the end of a text
pub written : {T E : Type 0} (r : Result T E) (a b : Buffer) (p whole : List ℕ) → Writes r a p b → a.bytes ++ p ≡ whole → OnOk r (b.bytes ≡ whole)
written (Ok x) a b p whole h e = h.bytes ∙ e
written (Err x) a b p whole h e = tt
