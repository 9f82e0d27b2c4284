-- Names, and behind them other names: what decides.
use Rattle.std.proofs.Common.{◌≡◌, ◌⊎◌, ℕ, false, List, [], ◌++◌, Option, Some, None, Result, Ok, Err, refl, ap, ◌∙◌, inl, inr}
use Rattle.std.specs.Prelude.{find}
use Rattle.std.specs.Option.{option_or}
use Rattle.std.proofs.lemmas.List.{append_assoc}
use Rattle.mk_value.specs.declared.path.Step.{Step}
use Rattle.mk_value.specs.Tables.{Table}
use Rattle.eval.specs.Names.{Named, seen_at, table_at}
use Rattle.eval.specs.declared.error.NameError.{NameError}
use Rattle.eval.specs.declared.error.NameError.TheVariants.{Memory, NoName}
use Rattle.viewers.specs.Meanings.{Meaning}
use Rattle.computing.specs.Computed.{Computations, ComputedWatch, names_of, with_computed, with_filters}
use Rattle.questions.specs.Kept.{Names, known, sources}
use Rattle.questions.proofs.Found.{find_behind, is_this, steps_refused}

-- memory was wanting, or what is found is this refusal
abbrev pub Refused : Result Table NameError → NameError → Type 0
Refused found e = (e ≡ Memory) ⊎ (found ≡ Err e)

-- what is found first decides
table_first : (o p : Option Named) (steps : List Step) (t : Table) → seen_at o steps ≡ Ok t → seen_at (option_or o p) steps ≡ Ok t
table_first None p steps t h = absurd (let clash : ◌≡◌ {A = Result Table NameError} (Err NoName) (Ok t) = h in cc)
table_first (Some n) p steps t h = h

refusal_first : (o p : Option Named) (steps : List Step) (e : NameError) → seen_at o steps ≡ Err e → (e ≡ NoName → ⊥) → seen_at (option_or o p) steps ≡ Err e
refusal_first None p steps e h other = absurd (other (let same : ◌≡◌ {A = Result Table NameError} (Err NoName) (Err e) = h in cc))
refusal_first (Some n) p steps e h other = h

-- a name without steps that stands for nothing was not found
nothing_first : (o p : Option Named) → seen_at o [] ≡ Err NoName → seen_at (option_or o p) [] ≡ seen_at p []
nothing_first None p h = refl
nothing_first (Some n) p h = absurd (let clash : ◌≡◌ {A = Result Table NameError} (table_at [] n.table) (Err NoName) = h in cc)

-- steps are refused behind names that none may follow
stepped_first : (o p : Option Named) (steps : List Step) → (steps ≡ [] → ⊥) → ((n : Named) → p ≡ Some n → n.has_steps ≡ false) → seen_at (option_or o p) steps ≡ seen_at o steps
stepped_first None p steps some none = steps_refused p steps none some
stepped_first (Some n) p steps some none = refl

module _ (xs ys : List Named) (name : List ℕ) where
  abbrev first : Option Named
  first = find (is_this name) xs

  abbrev second : Option Named
  second = find (is_this name) ys

  decides : (steps : List Step) → seen_at (find (is_this name) (xs ++ ys)) steps ≡ seen_at (option_or first second) steps
  decides steps = ap (λ o. seen_at o steps) (find_behind (is_this name) xs ys)

  -- what the first names answer, but that nothing has the name
  pub seen_before : (steps : List Step) (t : Table) → seen_at first steps ≡ Ok t → seen_at (find (is_this name) (xs ++ ys)) steps ≡ Ok t
  seen_before steps t h = decides steps ∙ table_first first second steps t h

  pub refused_before : (steps : List Step) (e : NameError) → Refused (seen_at first steps) e → (e ≡ NoName → ⊥) → Refused (seen_at (find (is_this name) (xs ++ ys)) steps) e
  refused_before steps e h other = elim h [ inl memory ↦ inl memory | inr is ↦ inr (decides steps ∙ refusal_first first second steps e is other) ]

  -- where nothing among them has the name
  pub seen_behind : (e : NameError) → e ≡ NoName → Refused (seen_at first []) e → seen_at (find (is_this name) (xs ++ ys)) [] ≡ seen_at second []
  seen_behind e none h =
      elim h [
        | inl memory ↦ absurd (let clash : ◌≡◌ {A = NameError} NoName Memory = cc in cc)
        | inr is ↦ decides [] ∙ nothing_first first second (is ∙ ap Err none)
      ]

  -- where steps follow
  pub seen_stepped : (steps : List Step) → (steps ≡ [] → ⊥) → ((n : Named) → second ≡ Some n → n.has_steps ≡ false) → seen_at (find (is_this name) (xs ++ ys)) steps ≡ seen_at first steps
  seen_stepped steps some none = decides steps ∙ stepped_first first second steps some none

-- the names of a level, by what it is made of
pub level_is : {names names2 sources sources2 : List Named} {viewers viewers2 : List Meaning} {watches watches2 : List ComputedWatch} → names ≡ names2 → sources ≡ sources2 → viewers ≡ viewers2 → watches ≡ watches2
    → names ++ names_of sources viewers watches ≡ names2 ++ names_of sources2 viewers2 watches2
level_is a b v w = λ i. a i ++ names_of (b i) (v i) (w i)

-- two levels are the names of all computed watches
pub two_levels : (names sources : List Named) (viewers : List Meaning) (c : Computations)
    → (names ++ names_of sources viewers c.filters) ++ names_of (with_filters sources viewers c) viewers c.counts ≡ with_computed names sources viewers c
two_levels names sources viewers c = append_assoc names (names_of sources viewers c.filters) (names_of (with_filters sources viewers c) viewers c.counts)

-- over what computed watches may stand, by names without snapshots
pub sources_are : (n s : Names) → s.views ≡ n.views → s.snapshots ≡ [] → s.watches ≡ n.watches → known s.views s.snapshots s.watches ≡ sources n
sources_are n s views snapshots watches = λ i. known (views i) (snapshots i) (watches i)
