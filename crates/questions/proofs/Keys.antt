-- Keys, each property once, as they are gathered one by one.
use Rattle.std.proofs.Common.{◌≡◌, ℕ, ◌+◌, ◌<◌, Bool, true, false, not, cond, ◌||◌, List, [], ◌∷◌, ◌++◌, length, get_or, take, refl, ap, sym, ◌∙◌}
use Rattle.std.specs.List.{filter, list_any}
use Rattle.std.specs.Cmp.Lexicographic.{same_text}
use Rattle.std.proofs.lemmas.Bool.{false≢true}
use Rattle.std.proofs.lemmas.List.{append-nil, take_more}
use Rattle.std.proofs.lemmas.List.Elements.{filter-append}
use Rattle.mk_value.specs.Names.{same_bytes}
use Rattle.relations.specs.declared.criteria.Key.{Key}
use Rattle.relations.proofs.Faults.{cases}
use Rattle.questions.specs.Places.{first_keys}

-- one of the keys has this name
abbrev pub is_among : List Key → List ℕ → Bool
is_among keys name = list_any (λ key. same_bytes key.prop name) keys

-- what is left out for the sake of one name are keys of that name alone
kept_among : (k : Key) (name : List ℕ) (keys : List Key) → same_bytes k.prop name ≡ false → is_among (filter (λ other. not (same_bytes k.prop other.prop)) keys) name ≡ is_among keys name
kept_among k name [] h = refl
kept_among k name (o ∷ keys) h = cases (same_bytes k.prop o.prop)
    (λ e. cases (same_bytes o.prop name)
    (λ f. absurd (false≢true (sym h ∙ ap (λ n. same_bytes n name) (same_text k.prop o.prop (sym e)) ∙ f)))
    (λ f. rw e (rw f (kept_among k name keys h))))
    (λ e. rw e (ap (λ b. same_bytes o.prop name || b) (kept_among k name keys h)))

-- a name is among the keys where it is among those that are left of them
among_first : (keys : List Key) (name : List ℕ) → is_among (first_keys keys) name ≡ is_among keys name
among_first [] name = refl
among_first (k ∷ keys) name = cases (same_bytes k.prop name)
    (λ e. rw e refl)
    (λ e. rw e (kept_among k name (first_keys keys) e ∙ among_first keys name))

-- one key further
first_step : (p : Key → Bool) (first k : Key) (keys : List Key) (a s : Bool) → p k ≡ not s
    → first ∷ filter p (keys ++ cond a [] (k ∷ [])) ≡ (first ∷ filter p keys) ++ cond (s || a) [] (k ∷ [])
first_step p first k keys true true h = ap (λ ks. first ∷ filter p ks) (append-nil keys) ∙ sym (append-nil (first ∷ filter p keys))
first_step p first k keys true false h = ap (λ ks. first ∷ filter p ks) (append-nil keys) ∙ sym (append-nil (first ∷ filter p keys))
first_step p first k keys false true h = ap (λ ks. first ∷ ks) (filter-append p keys (k ∷ [])) ∙ ap (λ b. first ∷ (filter p keys ++ cond b (k ∷ []) [])) h
first_step p first k keys false false h = ap (λ ks. first ∷ ks) (filter-append p keys (k ∷ [])) ∙ ap (λ b. first ∷ (filter p keys ++ cond b (k ∷ []) [])) h

first_more : (keys : List Key) (k : Key) → first_keys (keys ++ k ∷ []) ≡ first_keys keys ++ cond (is_among keys k.prop) [] (k ∷ [])
first_more [] k = refl
first_more (first ∷ keys) k =
    ap (λ ks. first ∷ filter (λ other. not (same_bytes first.prop other.prop)) ks) (first_more keys k)
    ∙ first_step (λ other. not (same_bytes first.prop other.prop)) first k (first_keys keys) (is_among keys k.prop) (same_bytes first.prop k.prop) refl

module _ (keys first : List Key) (i : ℕ) (k : Key) (p : i < length keys) (read : k ≡ get_or keys i k) (so_far : first ≡ first_keys (take i keys)) where
  taken : first_keys (take (i + 1) keys) ≡ first_keys (take i keys) ++ cond (is_among (take i keys) k.prop) [] (k ∷ [])
  taken = ap first_keys (take_more keys i k p ∙ ap (λ x. take i keys ++ x ∷ []) (sym read)) ∙ first_more (take i keys) k

  same_test : (b : Bool) → is_among first k.prop ≡ b → is_among (take i keys) k.prop ≡ b
  same_test b h = sym (among_first (take i keys) k.prop) ∙ ap (λ ks. is_among ks k.prop) (sym so_far) ∙ h

  pub key_again : is_among first k.prop ≡ true → first ≡ first_keys (take (i + 1) keys)
  key_again h = so_far ∙ sym (taken ∙ ap (λ b. first_keys (take i keys) ++ cond b [] (k ∷ [])) (same_test true h) ∙ append-nil (first_keys (take i keys)))

  pub key_more : is_among first k.prop ≡ false → first ++ k ∷ [] ≡ first_keys (take (i + 1) keys)
  key_more h = ap (λ ks. ks ++ k ∷ []) so_far ∙ sym (taken ∙ ap (λ b. first_keys (take i keys) ++ cond b [] (k ∷ [])) (same_test false h))
