-- The walk finds no flaw in the spelling of a structure.
use Rattle.std.proofs.Common.{◌≡◌, ◌≢◌, ◌⊎◌, ℕ, suc, ◌+◌, ◌<◌, ◌≤◌, List, [], ◌∷◌, ◌++◌, length, drop, refl, sym, ◌∙◌, ap, subst, inl, inr, ⊎_elim, arith, None, get_or, Contains, AllPairs, append_assoc, le-ltb}
use Rattle.std.proofs.lemmas.Bool.{ne_eqb, false_from_ne_true}
use Rattle.std.proofs.lemmas.List.{drop_at, length_push}
use Rattle.mk_value.specs.Limits.{max_name, max_properties, max_depth}
use Rattle.mk_value.specs.Names.{IsName}
use Rattle.mk_value.specs.Heading.{Domain, integer, long, text, bytes, relation, Heading, no_attributes, attribute, Attribute, attributes_of, heading_of, domain_depth, heading_depth, IsDomain, AreAttributes, IsWithinLimits}
use Rattle.mk_value.proofs.Headings.{AreAttributes-heading_of, attributes_of-heading_of}
use Rattle.struct_text.specs.Bytes.{open_bracket, close_bracket, colon, comma}
use Rattle.struct_text.specs.Spelling.{spelled_domain, spelled_properties, Spells}
use Rattle.struct_text.specs.Walk.{Brackets, State, name_start, in_name, kind, after, start}
use Rattle.struct_text.specs.Flaws.{has_name, flaw, first_flaw}
use Rattle.struct_text.proofs.Flaws.{Contains-from, Contains-head, Contains-tail, Contains-cases}
use Rattle.struct_text.proofs.Moves.{run, run-no, root_flaw, name_flaw, over_name, over_colon, over_open, over_letter, over_comma, over_close, whole_end}
use Rattle.struct_text.proofs.NameParts.{none_of_six}
use Rattle.struct_text.proofs.Unique.{run_name, run_domain, name_begins}

-- From a state on, over these bytes, the walk comes to another state with no flaw.
abbrev Clean : State → ℕ → List ℕ → State → List ℕ → Type 0
Clean s at from t rest = (end : ℕ) × (first_flaw s at from ≡ first_flaw t end rest)

clean_name : (name rest : List ℕ) (before : List (List ℕ)) (outer : Brackets) (at : ℕ) → IsName name → run rest ≡ [] → length before < max_properties → (Contains before name → ⊥)
    → flaw (name_start (before ∷ outer)) (name ++ rest) at ≡ None
clean_name name rest before outer at h e few fresh =
    let n = name_begins name h in
    let same : run (n.0 ∷ (n.1 ++ rest)) ≡ name = ap (λ w. run (w ++ rest)) (sym n.2) ∙ run_name name rest h e in
    ap (λ w. flaw (name_start (before ∷ outer)) (w ++ rest) at) n.2
    ∙ name_flaw before outer n.0 (n.1 ++ rest) at
    ∙ none_of_six _ _ _ _ at n.3 (ne_eqb (length before) max_properties (λ q. absurd (omega (arith, q, few))))
    (le-ltb max_name (length (run (n.0 ∷ (n.1 ++ rest)))) (omega (arith, ap length same, h.short)))
    (false_from_ne_true (has_name before (run (n.0 ∷ (n.1 ++ rest)))) (λ q. fresh (Contains-from before name (ap (has_name before) (sym same) ∙ q))))

over_word : (name rest : List ℕ) (brackets : Brackets) (at : ℕ) → IsName name → run rest ≡ [] → flaw (name_start brackets) (name ++ rest) at ≡ None
    → Clean (name_start brackets) at (name ++ rest) (in_name name brackets) rest
over_word name rest brackets at h e clean =
    let same = run_name name rest h e in (
      at + length name,
      over_name (name ++ rest) brackets at clean
          ∙ ap (λ w. first_flaw (in_name w brackets) (at + length w) (drop (length w) (name ++ rest))) same
          ∙ ap (λ r. first_flaw (in_name name brackets) (at + length name) r) (drop_at name rest (length name) refl),
    )

-- The names that come are new: each is other than those before it in its brackets.
abbrev AreNew : List (List ℕ) → Heading → Type 0
AreNew before no_attributes = Unit {0}
AreNew before (attribute n d h) = (Contains before n → ⊥) × AreNew (before ++ n ∷ []) h

Contains-push : (names : List (List ℕ)) (n m : List ℕ) → Contains (names ++ n ∷ []) m → (n ≡ m) ⊎ Contains names m
Contains-push [] n m h = Contains-cases n [] m h
Contains-push (x ∷ names) n m h =
    let further = Contains-push names n m in
    ⊎_elim (λ e. inr (Contains-head x names m e)) (λ t. ⊎_elim (λ e. inl e) (λ k. inr (Contains-tail x names m k)) (further t)) (Contains-cases x (names ++ n ∷ []) m h)

-- no attribute has one of these names
abbrev Apart : List (List ℕ) → List Attribute → Type 0
Apart before properties = (k : ℕ) (d : Attribute) → k < length properties → Contains before (get_or properties k d).name → ⊥

AreNew-from : (h : Heading) (before : List (List ℕ)) → AllPairs (λ a b. a.name ≢ b.name) (attributes_of h) → Apart before (attributes_of h) → AreNew before h
AreNew-from no_attributes before distinct apart = tt
AreNew-from (attribute n d h) before distinct apart =
    let first : Attribute = record { name = n; domain = d } in (
      apart 0 first (omega arith),
      AreNew-from h (before ++ n ∷ []) (λ i j e p q. distinct (suc i) (suc j) e (omega (arith, p)) (omega (arith, q)))
          (λ k e l c. ⊎_elim (λ q. distinct 0 (suc k) e (omega arith) (omega (arith, l)) q) (λ b. apart (suc k) e (omega (arith, l)) b) (Contains-push before n (get_or (attributes_of h) k e).name c)),
    )

more_properties : (n : List ℕ) (d : Domain) (h : Heading) (before : List (List ℕ)) (outer : Brackets) (at : ℕ) (rest : List ℕ)
    → ((more : List ℕ) → Clean (name_start (before ∷ outer)) at (n ++ (spelled_domain d ++ more)) (after ((before ++ n ∷ []) ∷ outer)) more)
    → ((place : ℕ) → 0 < length (attributes_of h) → Clean (name_start ((before ++ n ∷ []) ∷ outer)) place (spelled_properties h ++ (close_bracket ∷ rest)) (after outer) rest)
    → Clean (name_start (before ∷ outer)) at (spelled_properties (attribute n d h) ++ (close_bracket ∷ rest)) (after outer) rest
more_properties n d no_attributes before outer at rest one others =
    let first = one (close_bracket ∷ rest) in
    (first.0 + 1, ap (first_flaw (name_start (before ∷ outer)) at) (append_assoc n (spelled_domain d) (close_bracket ∷ rest)) ∙ first.1 ∙ over_close (before ++ n ∷ []) outer first.0 rest)
more_properties n d (attribute m e h) before outer at rest one others =
    let first = one (comma ∷ (spelled_properties (attribute m e h) ++ (close_bracket ∷ rest))) in
    let then = others (first.0 + 1) (omega arith) in
    let regrouped : spelled_properties (attribute n d (attribute m e h)) ++ (close_bracket ∷ rest) ≡ n ++ (spelled_domain d ++ (comma ∷ (spelled_properties (attribute m e h) ++ (close_bracket ∷ rest)))) = simp append_assoc in (
      then.0,
      ap (first_flaw (name_start (before ∷ outer)) at) regrouped ∙ first.1
          ∙ over_comma (before ++ n ∷ []) outer first.0 (spelled_properties (attribute m e h) ++ (close_bracket ∷ rest)) ∙ then.1,
    )

over_plain : (letter : ℕ) (name : List ℕ) (names : List (List ℕ)) (outer : Brackets) (at : ℕ) (rest : List ℕ)
    → ((place : ℕ) → first_flaw (kind ((names ++ name ∷ []) ∷ outer)) place (letter ∷ rest) ≡ first_flaw (after ((names ++ name ∷ []) ∷ outer)) (place + 1) rest)
    → Clean (in_name name (names ∷ outer)) at (colon ∷ letter ∷ rest) (after ((names ++ name ∷ []) ∷ outer)) rest
over_plain letter name names outer at rest h = (at + 1 + 1, over_colon name names outer at (letter ∷ rest) ∙ h (at + 1))

mutual
  over_domain : (d : Domain) (name : List ℕ) (names : List (List ℕ)) (outer : Brackets) (at : ℕ) (rest : List ℕ) → IsDomain d → length outer + 1 + domain_depth d ≤ max_depth
      → Clean (in_name name (names ∷ outer)) at (spelled_domain d ++ rest) (after ((names ++ name ∷ []) ∷ outer)) rest
  over_domain integer name names outer at rest w l = over_plain 73 name names outer at rest (λ place. over_letter _ 73 rest place refl refl)
  over_domain long name names outer at rest w l = over_plain 76 name names outer at rest (λ place. over_letter _ 76 rest place refl refl)
  over_domain text name names outer at rest w l = over_plain 83 name names outer at rest (λ place. over_letter _ 83 rest place refl refl)
  over_domain bytes name names outer at rest w l = over_plain 66 name names outer at rest (λ place. over_letter _ 66 rest place refl refl)
  over_domain (relation h) name names outer at rest w l =
      let inside = over_properties h [] ((names ++ name ∷ []) ∷ outer) (at + 1) rest w.1 w.0.some (AreNew-from h [] w.0.distinct (λ k d p c. absurd (omega (arith, c.1)))) (omega (arith, w.0.few)) (omega (arith, l)) in (
        inside.0,
        ap (λ r. first_flaw (in_name name (names ∷ outer)) at (open_bracket ∷ r)) (append_assoc (spelled_properties h) (close_bracket ∷ []) rest)
            ∙ over_open name (names ∷ outer) at (spelled_properties h ++ (close_bracket ∷ rest)) (ne_eqb (length (names ∷ outer)) max_depth (λ q. absurd (omega (arith, q, l))))
            ∙ inside.1,
      )

  over_properties : (h : Heading) (before : List (List ℕ)) (outer : Brackets) (at : ℕ) (rest : List ℕ) → AreAttributes h → 0 < length (attributes_of h) → AreNew before h
      → length before + length (attributes_of h) ≤ max_properties → length outer + 1 + heading_depth h ≤ max_depth
      → Clean (name_start (before ∷ outer)) at (spelled_properties h ++ (close_bracket ∷ rest)) (after outer) rest
  over_properties no_attributes before outer at rest w some new few l = absurd (omega (arith, some))
  over_properties (attribute n d h) before outer at rest w some new few l =
      more_properties n d h before outer at rest
      (λ more.
      let word = over_word n (spelled_domain d ++ more) (before ∷ outer) at w.0 (run_domain d more) (clean_name n (spelled_domain d ++ more) before outer at w.0 (run_domain d more) (omega (arith, few)) new.0) in
      let domain = over_domain d n before outer word.0 more w.1 (omega (arith, l)) in
      (domain.0, word.1 ∙ domain.1))
      (λ place nonempty. over_properties h (before ++ n ∷ []) outer place rest w.2 nonempty new.1 (omega (arith, few, length_push before n)) (omega (arith, l)))

-- no flaw in the spelling of a structure
pub no_flaw_in_spelling : (spelled name : List ℕ) (properties : List Attribute) → Spells spelled name properties → first_flaw start 0 spelled ≡ None
no_flaw_in_spelling spelled name properties h =
    let inside : List ℕ = spelled_properties (heading_of properties) ++ close_bracket ∷ [] in
    let back = attributes_of-heading_of properties in
    let limits : IsWithinLimits (attributes_of (heading_of properties)) = subst IsWithinLimits (sym back) h.whole.limits in
    let ended : run (open_bracket ∷ inside) ≡ [] = run-no open_bracket inside refl in
    let clean : flaw (name_start []) (name ++ open_bracket ∷ inside) 0 ≡ None =
    root_flaw (name ++ open_bracket ∷ inside) 0 ∙ clean_name name (open_bracket ∷ inside) [] [] 0 h.named ended (omega arith) (λ c. absurd (omega (arith, c.1))) in
    let word = over_word name (open_bracket ∷ inside) [] 0 h.named ended clean in
    let all = over_properties (heading_of properties) [] [] (word.0 + 1) [] (AreAttributes-heading_of properties h.whole.attributes) limits.some
    (AreNew-from (heading_of properties) [] limits.distinct (λ k d p c. absurd (omega (arith, c.1)))) (omega (arith, limits.few)) (omega (arith, h.whole.limits.shallow)) in
    ap (first_flaw start 0) h.is ∙ word.1 ∙ over_open name [] word.0 inside refl ∙ all.1 ∙ whole_end all.0
