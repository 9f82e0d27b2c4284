-- A list in two parts, of which the second is changed at its front.
use Rattle.std.proofs.Common.{◌≡◌, ℕ, ◌+◌, ◌-◌, List, ◌++◌, length, get_or, set, take, ap, sym, ◌∙◌, arith}
use Rattle.std.proofs.lemmas.List.{take_at, get_or-append-add, set-append_right}

pub part_below : {X : Type 0} (ls xs ys : List X) (i : ℕ) → ls ≡ xs ++ ys → length xs ≡ i → xs ≡ take i ls
part_below ls xs ys i e f = sym (take_at xs ys i f) ∙ ap (take i) (sym e)

pub part_first : {X : Type 0} (ls xs ys : List X) (i : ℕ) (d : X) → ls ≡ xs ++ ys → length xs ≡ i → get_or ys 0 d ≡ get_or ls i d
part_first ls xs ys i d e f = sym (ap (λ zs. get_or zs i d) e ∙ ap (λ k. get_or (xs ++ ys) k d) (let g : i ≡ length xs + 0 = omega arith in g) ∙ get_or-append-add xs ys 0 d)

pub part_set : {X : Type 0} (ls xs ys : List X) (i : ℕ) (x : X) → ls ≡ xs ++ ys → length xs ≡ i → xs ++ set ys 0 x ≡ set ls i x
part_set ls xs ys i x e f =
    ap (λ k. xs ++ set ys k x) (let g : 0 ≡ i - i = omega arith in g) ∙ sym (set-append_right xs ys i i x f (omega arith)) ∙ ap (λ zs. set zs i x) (sym e)
