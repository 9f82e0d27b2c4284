-- The brackets that are open, by counts of brackets and by a walk.
use Rattle.std.proofs.Common.{◌≡◌, ◌≢◌, ℕ, ◌+◌, Bool, true, false, cond, ◌==◌, List, [], ◌∷◌, length, refl, sym, ◌∙◌, ap, ⊎_elim, arith, count_by, ne_eqb}
use Rattle.std.proofs.lemmas.Bool.{true≢false}
use Rattle.std.proofs.lemmas.List.Sums.{sum_by-cons}
use Rattle.mk_value.specs.Names.{is_name_byte}
use Rattle.struct_text.specs.Bytes.{open_bracket, close_bracket, is_name_start}
use Rattle.struct_text.specs.Offences.{open_brackets}
use Rattle.struct_text.proofs.Walk.{Brackets, State, name_start, in_name, kind, after, stuck, named, is_letter, step, walk, start, walk-stuck, Steps, begins, goes_on, opens, has_kind, has_letter, next, closes, seen}

-- how many brackets are open in a state
abbrev pub depth : State → ℕ
depth (name_start brackets) = length brackets
depth (in_name name brackets) = length brackets
depth (kind brackets) = length brackets
depth (after brackets) = length brackets
depth stuck = 0

abbrev opened_by : ℕ → ℕ
opened_by b = cond (b == open_bracket) 1 0

abbrev closed_by : ℕ → ℕ
closed_by b = cond (b == close_bracket) 1 0

pub other_byte : (p : ℕ → Bool) (b c : ℕ) → p b ≡ true → p c ≡ false → (b == c) ≡ false
other_byte p b c h k = ne_eqb b c (λ e. true≢false (sym h ∙ ap p e ∙ k))

no_bracket : (b : ℕ) → (b == open_bracket) ≡ false → (b == close_bracket) ≡ false → opened_by b ≡ closed_by b
no_bracket b o c = ap (λ t. cond t 1 0) (o ∙ sym c)

length-named : (name : List ℕ) (brackets : Brackets) → length (named name brackets) ≡ length brackets
length-named name [] = refl
length-named name (names ∷ outer) = refl

depth_step : {s t : State} {b : ℕ} → Steps s b t → opened_by b + depth s ≡ closed_by b + depth t
depth_step (begins brackets b e) = ap (λ n. n + length brackets) (no_bracket b (other_byte is_name_start b open_bracket e refl) (other_byte is_name_start b close_bracket e refl))
depth_step (goes_on name brackets b e) = ap (λ n. n + length brackets) (no_bracket b (other_byte is_name_byte b open_bracket e refl) (other_byte is_name_byte b close_bracket e refl))
depth_step (opens name brackets) = omega (arith, length-named name brackets)
depth_step (has_kind name names outer) = omega arith
depth_step (has_letter brackets b e) = ap (λ n. n + length brackets) (no_bracket b (other_byte is_letter b open_bracket e refl) (other_byte is_letter b close_bracket e refl))
depth_step (next names outer) = omega arith
depth_step (closes names outer) = omega arith

abbrev opened : List ℕ → ℕ
opened u = count_by (λ b. b == open_bracket) u

abbrev closed : List ℕ → ℕ
closed u = count_by (λ b. b == close_bracket) u

depth_walk : (u : List ℕ) (s : State) → walk s u ≢ stuck → opened u + depth s ≡ closed u + depth (walk s u)
depth_walk [] s h = refl
depth_walk (b ∷ u) s h =
    let rest = depth_walk u (step s b) h in
    let o : opened (b ∷ u) ≡ opened_by b + opened u = sum_by-cons opened_by b u in
    let c : closed (b ∷ u) ≡ closed_by b + closed u = sum_by-cons closed_by b u in
    ⊎_elim (λ e. absurd (h (ap (λ t. walk t u) e ∙ walk-stuck u))) (λ steps. omega (arith, depth_step steps, rest, o, c)) (seen s b)

-- the brackets that the counts say are open are those of the walk
pub open_brackets-walk : (u : List ℕ) → walk start u ≢ stuck → open_brackets u ≡ depth (walk start u)
open_brackets-walk u h = omega (arith, depth_walk u start h)
