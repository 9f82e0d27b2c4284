-- Fields of a piece, one after another.
use Rattle.std.proofs.Common.{◌≡◌, ℕ, zero, suc, zero-add, ◌+◌, ◌≤◌, inl, List, [], ◌∷◌, ◌++◌, length, take, drop, sym, ◌∙◌, ap, subst, arith, length-append, take-append-drop}
use Rattle.std.proofs.lemmas.List.{append-nil, append_assoc, take_all}
use Rattle.stream_codec.specs.declared.error.LoadError.{LoadError}
use Rattle.stream_codec.specs.declared.error.LoadError.TheVariants.{At, Memory}
use Rattle.stream_codec.specs.declared.progress.Progress.{Progress}
use Rattle.stream_codec.specs.Loading.{came, due_after, Reaches}
use Rattle.stream_codec.specs.Progressing.{RefusesAlong}
use Rattle.stream_codec.specs.Stages.{IsLoading}
use Rattle.stream_codec.specs.Steps.{Refuses}
use Rattle.stream_codec.proofs.Steps.{leads_joins, leads_none, refuses_behind}

-- nothing taken yet
pub reaches_none : (p : Progress) → IsLoading p.root p.stage → Reaches p [] p
reaches_none p whole = record { leads = leads_none (due_after p); spells = sym (append-nil (came p)); whole = whole; place = omega arith }

pub reaches_joins : (p q r : Progress) (a b : List ℕ) → Reaches p a q → Reaches q b r → Reaches p (a ++ b) r
reaches_joins p q r a b first then =
    let long = length-append a b in
    let one = first.place in
    let two = then.place in
    record {
      leads = leads_joins (due_after p) (due_after q) (due_after r) a b first.leads then.leads;
      spells = then.spells ∙ ap (λ (l : List ℕ). l ++ b) first.spells ∙ append_assoc (came p) a b;
      whole = then.whole;
      place = omega (arith, long, one, two);
    }

-- one field more of a piece
take_part : (xs : List ℕ) (at n : ℕ) → take (at + n) xs ≡ take at xs ++ take n (drop at xs)
take_part xs zero n = ap (λ (k : ℕ). take k xs) (zero-add n)
take_part [] (suc at) n = take_all (suc at + n) [] (omega arith) ∙ sym (take_all n [] (omega arith))
take_part (x ∷ xs) (suc at) n = ap (λ (k : ℕ). take k (x ∷ xs)) (let e : suc at + n ≡ suc (at + n) = omega arith in e) ∙ ap (λ (l : List ℕ). x ∷ l) (take_part xs at n)

pub reaches_more : (p q r : Progress) (piece field : List ℕ) (at n : ℕ) → field ≡ take n (drop at piece) → Reaches p (take at piece) q → Reaches q field r → Reaches p (take (at + n) piece) r
reaches_more p q r piece field at n is first then =
    subst (λ (l : List ℕ). Reaches p l r) (ap (λ (l : List ℕ). take at piece ++ l) is ∙ sym (take_part piece at n)) (reaches_joins p q r (take at piece) field first then)

-- a field of the piece is refused
pub refused_along : (p q : Progress) (piece field : List ℕ) (at n : ℕ) (e : LoadError) → at + n ≤ length piece → field ≡ take n (drop at piece) → Reaches p (take at piece) q → Refuses (due_after q) field q.place e
    → RefusesAlong (due_after p) piece p.place e
refused_along p q piece field at n Memory within is reached refused = tt
refused_along p q piece field at n (At wrong) within is reached refused =
    let rest = drop (at + n) piece in
    let whole : (take at piece ++ field) ++ rest ≡ piece =
    ap (λ (l : List ℕ). (take at piece ++ l) ++ rest) is ∙ ap (λ (l : List ℕ). l ++ rest) (sym (take_part piece at n)) ∙ take-append-drop (at + n) piece in
    inl (subst (λ (l : List ℕ). Refuses (due_after p) l p.place (At wrong)) whole
    (refuses_behind (due_after p) (due_after q) (take at piece) field rest p.place (At wrong) reached.leads
    (subst (λ (k : ℕ). Refuses (due_after q) field k (At wrong)) reached.place refused)))
