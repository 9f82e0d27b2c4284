-- Blocks with their rounding.
use Rattle.std.proofs.Common.{◌≡◌, refl, sym, ◌∙◌, ap, ℕ, ◌-◌, ◌%◌, ◌<◌, ◌≤◌, ◌⊎◌, inl, inr, ⊎_elim, min, List, [], ◌∷◌, ◌++◌, length, take, drop, replicate, arith, length-append, length-drop}
use Rattle.std.proofs.lemmas.Bool.{cases_lt}
use Rattle.std.proofs.lemmas.List.{append_assoc, append-nil, drop-replicate, length-replicate, length-take-le, replicate-append-replicate, take-append-drop, take_all, take_at}
use Rattle.free_space.specs.Extents.{extent_len}
use Rattle.free_space.proofs.ExtentLemmas.{le-extent_len}
use Rattle.block_io.specs.Parts.{rounded}
use Rattle.block_io.specs.Pieces.{IsPiece}

-- a block fills its extent
pub length-rounded : (bytes : List ℕ) → length (rounded bytes) ≡ extent_len (length bytes)
length-rounded bytes =
    let zeros = length-replicate {A = ℕ} (extent_len (length bytes) - length bytes) 0 in
    omega (arith, length-append bytes (replicate (extent_len (length bytes) - length bytes) 0), zeros, le-extent_len (length bytes))

-- its own bytes come first
pub take-rounded : (bytes : List ℕ) → take (length bytes) (rounded bytes) ≡ bytes
take-rounded bytes = take_at bytes (replicate (extent_len (length bytes) - length bytes) 0) (length bytes) refl

rounding_behind : (n m : ℕ) → m ≤ n → m % 16 ≡ 0 → extent_len (n - m) - (n - m) ≡ extent_len n - n
unfolding extent_len
rounding_behind n m within even = omega arith

rounding_of_even : (m : ℕ) → m % 16 ≡ 0 → extent_len m - m ≡ 0
unfolding extent_len
rounding_of_even m even = omega arith

-- nothing is left of no bytes
pub rounded-nil : (bytes : List ℕ) → length bytes ≡ 0 → rounded bytes ≡ []
rounded-nil [] none = ap (λ (n : ℕ). replicate n 0) (rounding_of_even 0 refl)
rounded-nil (b ∷ bytes) none = absurd (omega (arith, none))

-- A front of a block whose length is a multiple of 16, or all of it, is cut off with its own rounding.
pub rounded-cut : (bytes : List ℕ) (len : ℕ) → len ≤ length bytes → (len % 16 ≡ 0) ⊎ (len ≡ length bytes)
    → rounded bytes ≡ (take len bytes ++ replicate (extent_len len - len) 0) ++ rounded (drop len bytes)
rounded-cut bytes len within = ⊎_elim even all
  where
    even : len % 16 ≡ 0 → rounded bytes ≡ (take len bytes ++ replicate (extent_len len - len) 0) ++ rounded (drop len bytes)
    even is =
        let none : take len bytes ++ replicate (extent_len len - len) 0 ≡ take len bytes = ap (λ (n : ℕ). take len bytes ++ replicate n 0) (rounding_of_even len is) ∙ append-nil (take len bytes) in
        let behind : length (drop len bytes) ≡ length bytes - len = length-drop len bytes in
        let rest : extent_len (length (drop len bytes)) - length (drop len bytes) ≡ extent_len (length bytes) - length bytes =
        ap (λ (n : ℕ). extent_len n - n) behind ∙ rounding_behind (length bytes) len within is in
        ap (λ (l : List ℕ). l ++ replicate (extent_len (length bytes) - length bytes) 0) (sym (take-append-drop len bytes))
        ∙ append_assoc (take len bytes) (drop len bytes) (replicate (extent_len (length bytes) - length bytes) 0)
        ∙ ap (λ (n : ℕ). take len bytes ++ (drop len bytes ++ replicate n 0)) (sym rest)
        ∙ ap (λ (l : List ℕ). l ++ rounded (drop len bytes)) (sym none)

    all : len ≡ length bytes → rounded bytes ≡ (take len bytes ++ replicate (extent_len len - len) 0) ++ rounded (drop len bytes)
    all is =
        let behind : rounded (drop len bytes) ≡ [] = rounded-nil (drop len bytes) (omega (arith, length-drop len bytes, is)) in
        let front : take len bytes ≡ bytes = ap (λ (n : ℕ). take n bytes) is ∙ take_all (length bytes) bytes (omega arith) in
        ap (λ (n : ℕ). bytes ++ replicate (extent_len n - n) 0) (sym is)
        ∙ ap (λ (l : List ℕ). l ++ replicate (extent_len len - len) 0) (sym front)
        ∙ sym (append-nil (take len bytes ++ replicate (extent_len len - len) 0))
        ∙ ap (λ (l : List ℕ). (take len bytes ++ replicate (extent_len len - len) 0) ++ l) (sym behind)

extent_within : (n : ℕ) → n ≤ 4096 → extent_len n ≤ 4096
unfolding extent_len
extent_within n few = omega arith

extent_of_whole : extent_len 4096 ≡ 4096
unfolding extent_len
extent_of_whole = refl

zeros_behind : (n end : ℕ) → n ≤ end → end ≤ 4096 → replicate {A = ℕ} (4096 - n) 0 ≡ replicate (end - n) 0 ++ replicate (4096 - end) 0
zeros_behind n end from to = ap (λ (k : ℕ). replicate k 0) (omega (arith, from, to)) ∙ sym (replicate-append-replicate (end - n) (4096 - end) 0)

-- the next bytes of a block before zeros are a piece of it
pub piece_is : (bytes slice zeros new : List ℕ) (n : ℕ) → 0 < length bytes → n ≡ min (length bytes) 4096 → zeros ≡ replicate 4096 0 → slice ≡ take n bytes ++ drop n zeros
    → new ≡ drop n bytes → IsPiece slice (extent_len n) bytes new
piece_is bytes slice zeros new n some least none is rest = record {
  cut = rounded-cut bytes n (omega (arith, least)) even
      ∙ ap (λ (l : List ℕ). l ++ rounded (drop n bytes)) (sym front)
      ∙ ap (λ (l : List ℕ). take (extent_len n) slice ++ rounded l) (sym rest);
  within = omega (arith, long, extent_within n few);
  whole = ⊎_elim (λ less. inr (nothing (omega (arith, least, less)))) (λ more. inl (ap extent_len (let all : n ≡ 4096 = omega (arith, least, more) in all) ∙ extent_of_whole)) (cases_lt (length bytes) 4096);
  fewer = let shorter = ap length rest in omega (arith, shorter, length-drop n bytes, least, some);
} where
  few : n ≤ 4096
  few = omega (arith, least)

  there : length (take n bytes) ≡ n
  there = length-take-le n bytes (omega (arith, least))

  split : slice ≡ (take n bytes ++ replicate (extent_len n - n) 0) ++ replicate (4096 - extent_len n) 0
  split = is
      ∙ ap (λ (l : List ℕ). take n bytes ++ drop n l) none
      ∙ ap (λ (l : List ℕ). take n bytes ++ l) (drop-replicate n 4096 0 ∙ zeros_behind n (extent_len n) (le-extent_len n) (extent_within n few))
      ∙ sym (append_assoc (take n bytes) (replicate (extent_len n - n) 0) (replicate (4096 - extent_len n) 0))

  reach : length (take n bytes ++ replicate (extent_len n - n) 0) ≡ extent_len n
  reach = let z = length-replicate {A = ℕ} (extent_len n - n) 0 in omega (arith, length-append (take n bytes) (replicate (extent_len n - n) 0), z, there, le-extent_len n)

  front : take (extent_len n) slice ≡ take n bytes ++ replicate (extent_len n - n) 0
  front = ap (λ (l : List ℕ). take (extent_len n) l) split ∙ take_at (take n bytes ++ replicate (extent_len n - n) 0) (replicate (4096 - extent_len n) 0) (extent_len n) reach

  long : length slice ≡ 4096
  long = let z = length-replicate {A = ℕ} (4096 - extent_len n) 0 in
      let l = ap length split in
      omega (arith, l, length-append (take n bytes ++ replicate (extent_len n - n) 0) (replicate (4096 - extent_len n) 0), z, reach, extent_within n few)

  even : (n % 16 ≡ 0) ⊎ (n ≡ length bytes)
  even = ⊎_elim (λ less. inr (omega (arith, least, less))) (λ more. inl (let all : n ≡ 4096 = omega (arith, least, more) in ap (λ (k : ℕ). k % 16) all)) (cases_lt (length bytes) 4096)

  empty : (l : List ℕ) → length l ≡ 0 → l ≡ []
  empty [] e = refl
  empty (x ∷ xs) e = absurd (omega (arith, e))

  nothing : n ≡ length bytes → new ≡ []
  nothing all = empty new (let shorter = ap length rest in omega (arith, shorter, length-drop n bytes, all))
