-- Lists of homed columns that are put together from parts: one rests on another where its parts rest on different parts of the other.
use Rattle.std.proofs.Common.{◌≡◌, ◌≢◌, ℕ, zero, suc, ◌<◌, ◌⊎◌, ⊎_elim, inl, inr, List, [], ◌∷◌, ◌++◌, length, get_or, All, Option, Some, None, refl, ap, sym, subst, ◌∙◌, arith}
use Rattle.std.specs.Prelude.{Contains, AllPairs}
use Rattle.std.proofs.lemmas.Grind.{flat_map-append}
use Rattle.std.proofs.lemmas.List.Elements.{All-contains, All-head, All-tail, All-append, All-weaker, All-contains_itself, Contains-append_left, Contains-append_right, Contains-append_cases}
use Rattle.std.proofs.lemmas.List.Kept.{AllPairs-cons}
use Rattle.mk_value.specs.declared.span.Span.{Span}
use Rattle.free_space.specs.Extents.{AreApart, Meets}
use Rattle.tables.specs.Homes.{PlainColumn}
use Rattle.tables.specs.Rests.{blocks_of, blocks, Rest}

pub none_in : {X : Type 0} (x : X) → Contains [] x → ⊥
none_in x h = let p = h.1 in absurd (omega arith)

first_in : {X : Type 0} (x : X) (xs : List X) (y : X) → x ≡ y → Contains (x ∷ xs) y
first_in x xs y e = (0, omega arith, e)

later_in : {X : Type 0} (x : X) (xs : List X) (y : X) → Contains xs y → Contains (x ∷ xs) y
later_in x xs y h = (suc h.0, let p = h.1 in omega arith, h.2)

-- no span of one list meets one of the other
abbrev pub Clear : List Span → List Span → Type 0
Clear xs ys = (a b : Span) → Contains xs a → Contains ys b → Meets a b → ⊥

turned : (a b : Span) → Meets a b → Meets b a
turned a b m = (m.0, m.2, m.1)

pairs_head : {X : Type 0} (R : X → X → Type 0) (x : X) (xs : List X) → AllPairs R (x ∷ xs) → All (R x) xs
pairs_head R x xs h k d p = h zero (suc k) d (omega arith) (omega arith)

pairs_tail : {X : Type 0} (R : X → X → Type 0) (x : X) (xs : List X) → AllPairs R (x ∷ xs) → AllPairs R xs
pairs_tail R x xs h i j d p q = h (suc i) (suc j) d (omega arith) (omega arith)

abbrev Misses : Span → Span → Type 0
Misses a b = Meets a b → ⊥

pub apart_right : (xs ys : List Span) → AreApart (xs ++ ys) → AreApart ys
apart_right [] ys h = h
apart_right (x ∷ xs) ys h = apart_right xs ys (pairs_tail Misses x (xs ++ ys) h)

pub apart_left : (xs ys : List Span) → AreApart (xs ++ ys) → AreApart xs
apart_left [] ys h = λ i j d p q. absurd (omega arith)
apart_left (x ∷ xs) ys h =
    AllPairs-cons Misses x xs
    (λ k d p. let held = Contains-append_left xs ys (get_or xs k d) (All-contains_itself xs k d p) in All-contains (Misses x) (xs ++ ys) (get_or xs k d) (pairs_head Misses x (xs ++ ys) h) held)
    (apart_left xs ys (pairs_tail Misses x (xs ++ ys) h))

pub in_cons : {X : Type 0} (x : X) (xs : List X) (y : X) → Contains (x ∷ xs) y → (x ≡ y) ⊎ Contains xs y
in_cons x xs y h = place h.0 h.1 h.2
  where
    place : (k : ℕ) → k < length (x ∷ xs) → get_or (x ∷ xs) k y ≡ y → (x ≡ y) ⊎ Contains xs y
    place zero p e = inl e
    place (suc k) p e = inr (k, omega arith, e)

pub apart_clear : (xs ys : List Span) → AreApart (xs ++ ys) → Clear xs ys
apart_clear [] ys h a b in_a in_b = absurd (none_in a in_a)
apart_clear (x ∷ xs) ys h a b in_a in_b =
    ⊎_elim
    (λ (e : x ≡ a). subst (λ z. Meets z b → ⊥) e (All-contains (Misses x) (xs ++ ys) b (pairs_head Misses x (xs ++ ys) h) (Contains-append_right xs ys b in_b)))
    (λ (rest : Contains xs a). apart_clear xs ys (pairs_tail Misses x (xs ++ ys) h) a b rest in_b)
    (in_cons x xs a in_a)

pub apart_join : (xs ys : List Span) → AreApart xs → AreApart ys → Clear xs ys → AreApart (xs ++ ys)
apart_join [] ys h g clear = g
apart_join (x ∷ xs) ys h g clear =
    AllPairs-cons Misses x (xs ++ ys)
    (All-append (Misses x) xs ys (pairs_head Misses x xs h) (λ k d p. clear x (get_or ys k d) (first_in x xs x refl) (All-contains_itself ys k d p)))
    (apart_join xs ys (pairs_tail Misses x xs h) g (λ a b in_a in_b. clear a b (later_in x xs a in_a) in_b))

abbrev its_blocks : PlainColumn → List Span
its_blocks c = blocks_of c.home

pub blocks-append : (xs ys : List PlainColumn) → blocks (xs ++ ys) ≡ blocks xs ++ blocks ys
blocks-append xs ys = flat_map-append its_blocks xs ys

-- the blocks of columns that stand in a list stand in the list's blocks
its_blocks_in : (cs : List PlainColumn) (c : PlainColumn) (a : Span) → Contains cs c → Contains (its_blocks c) a → Contains (blocks cs) a
its_blocks_in [] c a h g = absurd (none_in c h)
its_blocks_in (x ∷ xs) c a h g =
    ⊎_elim
    (λ (e : x ≡ c). Contains-append_left (its_blocks x) (blocks xs) a (subst (λ z. Contains (its_blocks z) a) (sym e) g))
    (λ (rest : Contains xs c). Contains-append_right (its_blocks x) (blocks xs) a (its_blocks_in xs c a rest g))
    (in_cons x xs c h)

pub blocks_within : (new old : List PlainColumn) (a : Span) → All (Contains old) new → Contains (blocks new) a → Contains (blocks old) a
blocks_within [] old a h g = absurd (none_in a g)
blocks_within (c ∷ cs) old a h g =
    ⊎_elim
    (λ (here : Contains (its_blocks c) a). its_blocks_in old c a (All-head (Contains old) c cs h) here)
    (λ (rest : Contains (blocks cs) a). blocks_within cs old a (All-tail (Contains old) c cs h) rest)
    (Contains-append_cases (its_blocks c) (blocks cs) a g)

pub Rest-self : (cs : List PlainColumn) → Rest cs cs
Rest-self cs = record { kept = All-contains_itself cs; apart = λ h. h }

-- two parts side by side, each on its own
pub Rest-append : (new more old rest : List PlainColumn) → Rest new old → Rest more rest → Rest (new ++ more) (old ++ rest)
Rest-append new more old rest one two = record {
  kept = All-append (Contains (old ++ rest)) new more
      (All-weaker (Contains old) (Contains (old ++ rest)) (λ c h. Contains-append_left old rest c h) new one.kept)
      (All-weaker (Contains rest) (Contains (old ++ rest)) (λ c h. Contains-append_right old rest c h) more two.kept);
  apart = λ h.
      let both : AreApart (blocks old ++ blocks rest) = subst AreApart (blocks-append old rest) h in
      subst AreApart (sym (blocks-append new more))
      (apart_join (blocks new) (blocks more) (one.apart (apart_left (blocks old) (blocks rest) both)) (two.apart (apart_right (blocks old) (blocks rest) both))
      (λ a b in_a in_b. apart_clear (blocks old) (blocks rest) both a b (blocks_within new old a one.kept in_a) (blocks_within more rest b two.kept in_b)));
}

abbrev pub flat : List (List PlainColumn) → List PlainColumn
flat [] = []
flat (cs ∷ rest) = cs ++ flat rest

part_in : (parts : List (List PlainColumn)) (j : ℕ) (c : PlainColumn) → Contains (get_or parts j []) c → Contains (flat parts) c
part_in [] j c h = absurd (none_in c h)
part_in (cs ∷ rest) zero c h = Contains-append_left cs (flat rest) c h
part_in (cs ∷ rest) (suc j) c h = Contains-append_right cs (flat rest) c (part_in rest j c h)

part_blocks_in : (parts : List (List PlainColumn)) (j : ℕ) (a : Span) → Contains (blocks (get_or parts j [])) a → Contains (blocks (flat parts)) a
part_blocks_in parts j a h = blocks_within (get_or parts j []) (flat parts) a (λ k d p. part_in parts j (get_or (get_or parts j []) k d) (All-contains_itself (get_or parts j []) k d p)) h

part_apart : (parts : List (List PlainColumn)) (j : ℕ) → AreApart (blocks (flat parts)) → AreApart (blocks (get_or parts j []))
part_apart [] j h = λ i k d p q. absurd (omega arith)
part_apart (cs ∷ rest) zero h = apart_left (blocks cs) (blocks (flat rest)) (subst AreApart (blocks-append cs (flat rest)) h)
part_apart (cs ∷ rest) (suc j) h = part_apart rest j (apart_right (blocks cs) (blocks (flat rest)) (subst AreApart (blocks-append cs (flat rest)) h))

-- blocks of two different parts do not meet
parts_clear : (parts : List (List PlainColumn)) (i j : ℕ) → AreApart (blocks (flat parts)) → i ≢ j → Clear (blocks (get_or parts i [])) (blocks (get_or parts j []))
parts_clear [] i j h ne a b in_a in_b = absurd (none_in a in_a)
parts_clear (cs ∷ rest) zero zero h ne a b in_a in_b = absurd (ne refl)
parts_clear (cs ∷ rest) zero (suc j) h ne a b in_a in_b =
    apart_clear (blocks cs) (blocks (flat rest)) (subst AreApart (blocks-append cs (flat rest)) h) a b in_a (part_blocks_in rest j b in_b)
parts_clear (cs ∷ rest) (suc i) zero h ne a b in_a in_b =
    λ m. apart_clear (blocks cs) (blocks (flat rest)) (subst AreApart (blocks-append cs (flat rest)) h) b a in_b (part_blocks_in rest i a in_a) (turned a b m)
parts_clear (cs ∷ rest) (suc i) (suc j) h ne a b in_a in_b =
    parts_clear rest i j (apart_right (blocks cs) (blocks (flat rest)) (subst AreApart (blocks-append cs (flat rest)) h)) (λ e. ne (ap suc e)) a b in_a in_b

-- a part that rests on the part at a place of the others, or has no columns where it has no place
abbrev pub FromPlace : List (List PlainColumn) → Option ℕ → List PlainColumn → Type 0
FromPlace olds None new = new ≡ []
FromPlace olds (Some j) new = Rest new (get_or olds j [])

abbrev pub AreFromPlaces : List (List PlainColumn) → List (Option ℕ) → List (List PlainColumn) → Type 0
AreFromPlaces olds [] [] = Unit {0}
AreFromPlaces olds (o ∷ places) (new ∷ news) = FromPlace olds o new × AreFromPlaces olds places news
AreFromPlaces olds _ _ = ⊥

-- no two have the same place
abbrev pub Differ : Option ℕ → Option ℕ → Type 0
Differ o p = (j : ℕ) → o ≡ Some j → p ≡ Some j → ⊥

kept_from : (olds : List (List PlainColumn)) (o : Option ℕ) (new : List PlainColumn) → FromPlace olds o new → All (Contains (flat olds)) new
kept_from olds None new h = subst (All (Contains (flat olds))) (sym h) (λ k d p. absurd (omega arith))
kept_from olds (Some j) new h = All-weaker (Contains (get_or olds j [])) (Contains (flat olds)) (λ c g. part_in olds j c g) new h.kept

kept_all : (olds : List (List PlainColumn)) (places : List (Option ℕ)) (news : List (List PlainColumn)) → AreFromPlaces olds places news → All (Contains (flat olds)) (flat news)
kept_all olds [] [] h = λ k d p. absurd (omega arith)
kept_all olds [] (new ∷ news) h = absurd h
kept_all olds (o ∷ places) [] h = absurd h
kept_all olds (o ∷ places) (new ∷ news) h = All-append (Contains (flat olds)) new (flat news) (kept_from olds o new h.0) (kept_all olds places news h.1)

-- a block of a part that rests on the part at a place is one of that part
placed_block : (olds : List (List PlainColumn)) (o : Option ℕ) (new : List PlainColumn) (a : Span) → FromPlace olds o new → Contains (blocks new) a → (j : ℕ) × (o ≡ Some j) × Contains (blocks (get_or olds j [])) a
placed_block olds None new a h g = absurd (none_in a (subst (λ cs. Contains (blocks cs) a) h g))
placed_block olds (Some j) new a h g = (j, refl, blocks_within new (get_or olds j []) a h.kept g)

apart_from : (olds : List (List PlainColumn)) (o : Option ℕ) (new : List PlainColumn) → FromPlace olds o new → AreApart (blocks (flat olds)) → AreApart (blocks new)
apart_from olds None new h g = subst (λ cs. AreApart (blocks cs)) (sym h) (λ i k d p q. absurd (omega arith))
apart_from olds (Some j) new h g = h.apart (part_apart olds j g)

clear_from : (olds : List (List PlainColumn)) (i : ℕ) (a : Span) (places : List (Option ℕ)) (news : List (List PlainColumn)) → AreApart (blocks (flat olds)) → AreFromPlaces olds places news → All (Differ (Some i)) places
    → Contains (blocks (get_or olds i [])) a → (b : Span) → Contains (blocks (flat news)) b → Meets a b → ⊥
clear_from olds i a [] [] apart h differ in_a b in_b = absurd (none_in b in_b)
clear_from olds i a [] (new ∷ news) apart h differ in_a b in_b = absurd h
clear_from olds i a (o ∷ places) [] apart h differ in_a b in_b = absurd h
clear_from olds i a (o ∷ places) (new ∷ news) apart h differ in_a b in_b =
    ⊎_elim
    (λ (here : Contains (blocks new) b).
    let found = placed_block olds o new b h.0 here in
    parts_clear olds i found.0 apart (λ e. All-head (Differ (Some i)) o places differ i refl (found.1 ∙ ap Some (sym e))) a b in_a found.2)
    (λ (rest : Contains (blocks (flat news)) b). clear_from olds i a places news apart h.1 (All-tail (Differ (Some i)) o places differ) in_a b rest)
    (Contains-append_cases (blocks new) (blocks (flat news)) b (subst (λ bs. Contains bs b) (blocks-append new (flat news)) in_b))

apart_all : (olds : List (List PlainColumn)) (places : List (Option ℕ)) (news : List (List PlainColumn)) → AreFromPlaces olds places news → AllPairs Differ places → AreApart (blocks (flat olds)) → AreApart (blocks (flat news))
apart_all olds [] [] h differ apart = λ i k d p q. absurd (omega arith)
apart_all olds [] (new ∷ news) h differ apart = absurd h
apart_all olds (o ∷ places) [] h differ apart = absurd h
apart_all olds (o ∷ places) (new ∷ news) h differ apart =
    subst AreApart (sym (blocks-append new (flat news)))
    (apart_join (blocks new) (blocks (flat news)) (apart_from olds o new h.0 apart) (apart_all olds places news h.1 (pairs_tail Differ o places differ) apart)
    (λ a b in_a in_b.
    let found = placed_block olds o new a h.0 in_a in
    clear_from olds found.0 a places news apart h.1 (subst (λ p. All (Differ p) places) found.1 (pairs_head Differ o places differ)) found.2 b in_b))

-- parts from different places, side by side
pub Rest-parts : (olds : List (List PlainColumn)) (places : List (Option ℕ)) (news : List (List PlainColumn)) → AreFromPlaces olds places news → AllPairs Differ places → Rest (flat news) (flat olds)
Rest-parts olds places news h differ = record { kept = kept_all olds places news h; apart = apart_all olds places news h differ }
