-- Texts or byte strings are determined by their sizes, their short bytes and their long values.
use Rattle.std.proofs.Common.{◌≡◌, ℕ, suc, pos, Bool, true, false, cond, List, [], ◌∷◌, ◌++◌, length, take, drop, refl, sym, ap, ◌∙◌, arith}
use Rattle.std.specs.Prelude.{nat_le, not}
use Rattle.std.specs.List.{filter, concat}
use Rattle.std.proofs.lemmas.List.{append-nil, take_at, drop_at}
use Rattle.bytes_col.specs.Strings.{is_short, long_values, short_bytes, sizes_of}
use Rattle.bytes_col.proofs.Short.{short_cons}

-- the short bytes and the long values behind a first value
short_first : (v : List ℕ) (vs : List (List ℕ)) → is_short v ≡ true → short_bytes (v ∷ vs) ≡ v ++ short_bytes vs
short_first v vs s = short_cons v vs ∙ ap (λ x. x ++ short_bytes vs) (ap (λ b. concat (cond b (v ∷ []) [])) s ∙ append-nil v)

short_behind : (v : List ℕ) (vs : List (List ℕ)) → is_short v ≡ false → short_bytes (v ∷ vs) ≡ short_bytes vs
short_behind v vs s = ap (λ b. concat (cond b (v ∷ filter is_short vs) (filter is_short vs))) s

long_behind : (v : List ℕ) (vs : List (List ℕ)) → is_short v ≡ true → long_values (v ∷ vs) ≡ long_values vs
long_behind v vs s = ap (λ b. cond (not b) (v ∷ long_values vs) (long_values vs)) s

long_first : (v : List ℕ) (vs : List (List ℕ)) → is_short v ≡ false → long_values (v ∷ vs) ≡ v ∷ long_values vs
long_first v vs s = ap (λ b. cond (not b) (v ∷ long_values vs) (long_values vs)) s

pub one_list : (vs us : List (List ℕ)) → sizes_of vs ≡ sizes_of us → short_bytes vs ≡ short_bytes us → long_values vs ≡ long_values us → vs ≡ us
one_list [] [] sized brief long = refl
one_list [] (u ∷ us) sized brief long = absurd (let e : 0 ≡ suc (length (sizes_of us)) = ap length sized in omega (arith, e))
one_list (v ∷ vs) [] sized brief long = absurd (let e : suc (length (sizes_of vs)) ≡ 0 = ap length sized in omega (arith, e))
one_list (v ∷ vs) (u ∷ us) sized brief long =
    let first : pos (length v) ≡ pos (length u) = cc in
    let same : length v ≡ length u = cc in
    let others : sizes_of vs ≡ sizes_of us = cc in
    let by : (b : Bool) → is_short v ≡ b → ◌≡◌ {A = List (List ℕ)} (v ∷ vs) (u ∷ us) = λ b. elim b as (λ b. is_short v ≡ b → ◌≡◌ {A = List (List ℕ)} (v ∷ vs) (u ∷ us)) [
      | true ↦ λ (s : is_short v ≡ true).
          let t : is_short u ≡ true = ap (λ k. nat_le k 512) (sym same) ∙ s in
          let joined : v ++ short_bytes vs ≡ u ++ short_bytes us = sym (short_first v vs s) ∙ brief ∙ short_first u us t in
          let front : v ≡ u = sym (take_at v (short_bytes vs) (length u) same) ∙ ap (take (length u)) joined ∙ take_at u (short_bytes us) (length u) refl in
          let back : short_bytes vs ≡ short_bytes us = sym (drop_at v (short_bytes vs) (length u) same) ∙ ap (drop (length u)) joined ∙ drop_at u (short_bytes us) (length u) refl in
          ap (λ x. x ∷ vs) front ∙ ap (λ xs. u ∷ xs) (one_list vs us others back (sym (long_behind v vs s) ∙ long ∙ long_behind u us t))
      | false ↦ λ (s : is_short v ≡ false).
          let t : is_short u ≡ false = ap (λ k. nat_le k 512) (sym same) ∙ s in
          let joined : v ∷ long_values vs ≡ u ∷ long_values us = sym (long_first v vs s) ∙ long ∙ long_first u us t in
          let front : v ≡ u = cc in
          let back : long_values vs ≡ long_values us = cc in
          ap (λ x. x ∷ vs) front ∙ ap (λ xs. u ∷ xs) (one_list vs us others (sym (short_behind v vs s) ∙ brief ∙ short_behind u us t) back)
    ] in
    by (is_short v) refl
