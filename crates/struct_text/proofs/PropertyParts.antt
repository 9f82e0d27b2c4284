-- One property, and a list of them: what they spell, and how the walk goes over them.
use Rattle.std.proofs.Common.{◌≡◌, ◌≢◌, ℕ, zero, suc, ◌+◌, ◌<◌, ◌≤◌, max, List, [], ◌∷◌, ◌++◌, length, drop, refl, sym, ◌∙◌, ap, subst, inl, inr, ⊎_elim, arith, get_or, Contains, AllPairs, append_assoc, eq-eqb, length-drop, drop-drop}
use Rattle.std.proofs.lemmas.Bool.{cases_Bool, ne_eqb}
use Rattle.std.proofs.lemmas.List.{map-append, length-map, flat_map_more, length_push}
use Rattle.std.proofs.lemmas.List.Quantifiers.{all_pairs_push}
use Rattle.mk_value.specs.Limits.{max_properties, max_depth}
use Rattle.mk_value.specs.Names.{is_name_byte}
use Rattle.mk_value.specs.Heading.{Domain, relation, Attribute, names_of, heading_of, domain_depth, heading_depth, IsWithinLimits, IsHeading}
use Rattle.mk_value.proofs.Headings.{view_is_domain}
use Rattle.struct_text.specs.Bytes.{open_bracket, close_bracket, colon, comma}
use Rattle.struct_text.specs.Spelling.{spelled_domain, spelled_properties}
use Rattle.struct_text.specs.declared.error.StructError.{StructError}
use Rattle.struct_text.specs.declared.error.StructError.TheVariants.{Syntax, TooDeep}
use Rattle.struct_text.specs.Offences.{name_at}
use Rattle.struct_text.specs.Walk.{Brackets, name_start, in_name, after}
use Rattle.struct_text.specs.Flaws.{first_flaw}
use Rattle.struct_text.specs.Reading.{HasByte, IsNameAt, RefusesName, IsLetterAt, RefusesLetter, IsKindAt, RefusesKind, AddsProperty, RefusesProperty, spelled_list, IsReadTo, ArePropertiesAt}
use Rattle.struct_text.proofs.Moves.{here, run, run-yes, run-no, over_name, over_colon, over_open, too_deep, no_kind, over_comma, over_close, no_more}

-- the byte at the front of what is left stands at the place
pub HasByte-from : (bytes : List ℕ) (at byte : ℕ) (more : List ℕ) → drop at bytes ≡ byte ∷ more → HasByte bytes at byte
HasByte-from bytes at byte more e = e ∙ ap (λ r. byte ∷ r) (ap (drop 1) (sym e) ∙ drop-drop 1 at bytes)

module _ (bytes : List ℕ) (at depth : ℕ) where
  pub kind_by_letter : (domain : Domain) → depth ≤ max_depth → HasByte bytes at colon → IsLetterAt bytes (at + 1) domain → IsKindAt bytes at depth domain (at + 2)
  kind_by_letter domain l e h =
      let two : at + 1 + 1 ≡ at + 2 = omega arith in
      record {
        forward = omega arith;
        within = omega (arith, h.within);
        spelled = e ∙ h.spelled ∙ ap (λ n. spelled_domain domain ++ drop n bytes) two;
        reaches = λ name names outer _. ap (first_flaw (in_name name (names ∷ outer)) at) e
            ∙ over_colon name names outer at (drop (at + 1) bytes)
            ∙ h.reaches ((names ++ name ∷ []) ∷ outer)
            ∙ ap (λ n. first_flaw (after ((names ++ name ∷ []) ∷ outer)) n (drop n bytes)) two;
        whole = h.whole;
        shallow = omega (arith, h.flat, l);
      }

  pub kind_by_brackets : (properties : List Attribute) (end : ℕ) → (depth ≡ max_depth → ⊥) → HasByte bytes at open_bracket
      → ArePropertiesAt bytes (at + 1) (depth + 1) properties end → IsKindAt bytes at depth (relation (heading_of properties)) end
  kind_by_brackets properties end l e h =
      record {
        forward = omega (arith, h.forward);
        within = h.within;
        spelled = e ∙ ap (λ r. open_bracket ∷ r) (h.spelled ∙ sym (append_assoc (spelled_properties (heading_of properties)) (close_bracket ∷ []) (drop end bytes)));
        reaches = λ name names outer d. ap (first_flaw (in_name name (names ∷ outer)) at) e
            ∙ over_open name (names ∷ outer) at (drop (at + 1) bytes) (ne_eqb (length (names ∷ outer)) max_depth (λ q. l (omega (arith, q, d))))
            ∙ h.reaches ((names ++ name ∷ []) ∷ outer) (omega (arith, d));
        whole = view_is_domain properties h.whole;
        shallow = omega (arith, h.shallow);
      }

  pub kind_refused_letter : (e : StructError) → HasByte bytes at colon → RefusesLetter bytes (at + 1) e → RefusesKind bytes at depth e
  kind_refused_letter e b h = inr (λ name names outer _. ap (first_flaw (in_name name (names ∷ outer)) at) b ∙ over_colon name names outer at (drop (at + 1) bytes) ∙ h ((names ++ name ∷ []) ∷ outer))

  pub kind_missing : name_at bytes at ≡ [] → (HasByte bytes at colon → ⊥) → (HasByte bytes at open_bracket → ⊥) → RefusesKind bytes at depth (Syntax at)
  kind_missing n c o = inr (λ name names outer _. no_kind name names outer at (drop at bytes) n (λ more e. c (HasByte-from bytes at colon more e)) (λ more e. o (HasByte-from bytes at open_bracket more e)))

  pub kind_too_deep : HasByte bytes at open_bracket → depth ≡ max_depth → RefusesKind bytes at depth (TooDeep at)
  kind_too_deep e l = inr (λ name names outer d. ap (first_flaw (in_name name (names ∷ outer)) at) e
      ∙ too_deep name (names ∷ outer) at (drop (at + 1) bytes) (eq-eqb (length (names ∷ outer)) max_depth (omega (arith, d, l))))

  pub kind_refused_inside : (e : StructError) → HasByte bytes at open_bracket → (depth ≡ max_depth → ⊥) → RefusesProperty bytes (at + 1) (depth + 1) [] e → RefusesKind bytes at depth e
  kind_refused_inside e b l (inl h) = inl h
  kind_refused_inside e b l (inr h) = inr (λ name names outer d. ap (first_flaw (in_name name (names ∷ outer)) at) b
      ∙ over_open name (names ∷ outer) at (drop (at + 1) bytes) (ne_eqb (length (names ∷ outer)) max_depth (λ q. l (omega (arith, q, d))))
      ∙ h ((names ++ name ∷ []) ∷ outer) (omega (arith, d)))

-- A run is what stands before the rest, and no other run follows.
run_and_rest : (rest : List ℕ) → run rest ++ drop (length (run rest)) rest ≡ rest
run_and_rest [] = refl
run_and_rest (b ∷ rest) =
    let further = run_and_rest rest in
    let P : List ℕ → Type 0 = λ w. w ++ drop (length w) (b ∷ rest) ≡ b ∷ rest in
    ⊎_elim (λ e. subst P (sym (run-yes b rest e)) (ap (λ r. b ∷ r) further)) (λ e. subst P (sym (run-no b rest e)) refl) (cases_Bool (is_name_byte b))

run_ended : (rest : List ℕ) → run (drop (length (run rest)) rest) ≡ []
run_ended [] = refl
run_ended (b ∷ rest) =
    let further = run_ended rest in
    let P : List ℕ → Type 0 = λ w. run (drop (length w) (b ∷ rest)) ≡ [] in
    ⊎_elim (λ e. subst P (sym (run-yes b rest e)) further) (λ e. subst P (sym (run-no b rest e)) (run-no b rest e)) (cases_Bool (is_name_byte b))

length-run : (rest : List ℕ) → length (run rest) ≤ length rest
length-run [] = omega arith
length-run (b ∷ rest) =
    let further = length-run rest in
    let P : List ℕ → Type 0 = λ w. length w ≤ length (b ∷ rest) in
    ⊎_elim (λ e. subst P (sym (run-yes b rest e)) (let q : length (b ∷ run rest) ≤ length (b ∷ rest) = omega (arith, further) in q)) (λ e. subst P (sym (run-no b rest e)) (omega arith)) (cases_Bool (is_name_byte b))

-- What stands behind a name.
module _ (bytes : List ℕ) (at : ℕ) (before : List (List ℕ)) (name : List ℕ) (h : IsNameAt bytes at before name) where
  pub behind_name : drop (length (run (drop at bytes))) (drop at bytes) ≡ drop (at + length name) bytes
  behind_name = drop-drop (length (run (drop at bytes))) at bytes ∙ ap (λ w. drop (at + length w) bytes) (sym h.is)

  pub name_ended : name_at bytes (at + length name) ≡ []
  name_ended = ap run (sym behind_name) ∙ run_ended (drop at bytes)

  pub name_within : at ≤ length bytes → at + length name ≤ length bytes
  name_within l = omega (arith, length-run (drop at bytes), length-drop at bytes, ap length h.is, l)

  pub name_spelled : drop at bytes ≡ name ++ drop (at + length name) bytes
  name_spelled = sym (run_and_rest (drop at bytes)) ∙ ap (λ w. w ++ drop (length (run (drop at bytes))) (drop at bytes)) (sym h.is) ∙ ap (λ r. name ++ r) behind_name

  pub name_reaches : (outer : Brackets) → first_flaw (name_start (before ∷ outer)) at (drop at bytes) ≡ first_flaw (in_name name (before ∷ outer)) (at + length name) (drop (at + length name) bytes)
  name_reaches outer =
      over_name (drop at bytes) (before ∷ outer) at (h.clean outer)
      ∙ ap (λ w. first_flaw (in_name w (before ∷ outer)) (at + length w) (drop (length (run (drop at bytes))) (drop at bytes))) (sym h.is)
      ∙ ap (λ r. first_flaw (in_name name (before ∷ outer)) (at + length name) r) behind_name

names_of-push : (properties : List Attribute) (a : Attribute) → names_of (properties ++ a ∷ []) ≡ names_of properties ++ a.name ∷ []
names_of-push properties a = map-append (λ (x : Attribute). x.name) properties (a ∷ [])

module _ (bytes : List ℕ) (at depth : ℕ) (old : List Attribute) where
  pub property_found : (new : List Attribute) (a : Attribute) (end : ℕ) → new ≡ old ++ a ∷ [] → IsNameAt bytes at (names_of old) a.name → IsKindAt bytes (at + length a.name) depth a.domain end
      → AddsProperty bytes at depth old new a end
  property_found new a end e h k = record {
    added = e;
    forward = omega (arith, k.forward);
    within = k.within;
    spelled = name_spelled bytes at (names_of old) a.name h ∙ ap (λ r. a.name ++ r) k.spelled;
    reaches = λ outer d. name_reaches bytes at (names_of old) a.name h outer ∙ k.reaches a.name (names_of old) outer d
        ∙ ap (λ ns. first_flaw (after (ns ∷ outer)) end (drop end bytes)) (sym (ap names_of e ∙ names_of-push old a));
    few = subst (λ (n : ℕ). n < max_properties) (length-map old (λ (x : Attribute). x.name)) h.few;
    fresh = h.fresh;
    shallow = k.shallow;
  }

  pub property_refused_name : (e : StructError) → RefusesName bytes at (names_of old) e → RefusesProperty bytes at depth old e
  property_refused_name e h = inr (λ outer d. here (name_start (names_of old ∷ outer)) (drop at bytes) at e (h outer))

  pub property_refused_kind : (name : List ℕ) (e : StructError) → IsNameAt bytes at (names_of old) name → RefusesKind bytes (at + length name) depth e → RefusesProperty bytes at depth old e
  property_refused_kind name e h (inl k) = inl k
  property_refused_kind name e h (inr k) = inr (λ outer d. name_reaches bytes at (names_of old) name h outer ∙ k name (names_of old) outer d)

-- Lists of properties.
spelled_list-push : (properties : List Attribute) (a : Attribute) → spelled_list (properties ++ a ∷ []) ≡ spelled_list properties ++ (a.name ++ (spelled_domain a.domain ++ comma ∷ []))
spelled_list-push properties a = sym (flat_map_more (λ (x : Attribute). x.name ++ (spelled_domain x.domain ++ comma ∷ [])) [] properties a)

-- all of them are the list of the first, and the last without a comma
pub spelled_properties-push : (properties : List Attribute) (a : Attribute) → spelled_properties (heading_of (properties ++ a ∷ [])) ≡ spelled_list properties ++ (a.name ++ spelled_domain a.domain)
spelled_properties-push [] a = refl
spelled_properties-push (x ∷ []) a = simp append_assoc
spelled_properties-push (x ∷ (y ∷ properties)) a =
    ap (λ r. x.name ++ (spelled_domain x.domain ++ (comma ∷ r))) (spelled_properties-push (y ∷ properties) a) ∙ simp append_assoc

heading_depth-push : (properties : List Attribute) (a : Attribute) → heading_depth (heading_of (properties ++ a ∷ [])) ≡ max (heading_depth (heading_of properties)) (domain_depth a.domain)
heading_depth-push [] a = omega arith
heading_depth-push (x ∷ properties) a = let e = heading_depth-push properties a in omega (arith, e)

-- a name that isn't among the others differs from each
other_names : (properties : List Attribute) (a : Attribute) → (Contains (names_of properties) a.name → ⊥) → (k : ℕ) (d : Attribute) → k < length properties → (get_or properties k d).name ≢ a.name
other_names properties a fresh k d l e = fresh (k, omega (arith, l, length-map properties (λ (x : Attribute). x.name)), name_at_place properties k a d l ∙ e)
  where
    name_at_place : (properties : List Attribute) (k : ℕ) (a d : Attribute) → k < length properties → get_or (names_of properties) k a.name ≡ (get_or properties k d).name
    name_at_place [] k a d l = absurd (omega arith)
    name_at_place (x ∷ properties) zero a d l = refl
    name_at_place (x ∷ properties) (suc k) a d l = name_at_place properties k a d (omega arith)

module _ (bytes : List ℕ) (start depth : ℕ) where
  module _ (old new : List Attribute) (a : Attribute) (at end : ℕ) (r : IsReadTo bytes start depth old at) (h : AddsProperty bytes at depth old new a end) where
    reaches_end : (outer : Brackets) → length outer + 1 ≡ depth → first_flaw (name_start ([] ∷ outer)) start (drop start bytes) ≡ first_flaw (after (names_of new ∷ outer)) end (drop end bytes)
    reaches_end outer d = r.reaches outer d ∙ h.reaches outer d

    few_now : length new ≤ max_properties
    few_now = omega (arith, ap length h.added, length_push old a, h.few)

    distinct_now : AllPairs (λ x y. x.name ≢ y.name) new
    distinct_now = subst (AllPairs (λ (x y : Attribute). x.name ≢ y.name)) (sym h.added) (all_pairs_push (λ (x y : Attribute). x.name ≢ y.name) old a r.distinct (other_names old a h.fresh))

    shallow_now : heading_depth (heading_of new) + depth ≤ max_depth
    shallow_now = omega (arith, ap (λ p. heading_depth (heading_of p)) h.added, heading_depth-push old a, r.shallow, h.shallow)

    pub read_more : HasByte bytes end comma → end < length bytes → IsReadTo bytes start depth new (end + 1)
    read_more e l = record {
      within = omega (arith, l);
      forward = omega (arith, r.forward, h.forward);
      spelled = r.spelled ∙ ap (λ s. spelled_list old ++ s) (h.spelled ∙ ap (λ s. a.name ++ (spelled_domain a.domain ++ s)) e)
          ∙ regroup
          ∙ ap (λ s. s ++ drop (end + 1) bytes) (sym (ap spelled_list h.added ∙ spelled_list-push old a));
      reaches = λ outer d. reaches_end outer d ∙ ap (first_flaw (after (names_of new ∷ outer)) end) e ∙ over_comma (names_of new) outer end (drop (end + 1) bytes);
      few = few_now;
      distinct = distinct_now;
      shallow = shallow_now;
    }
      where
        regroup : spelled_list old ++ (a.name ++ (spelled_domain a.domain ++ (comma ∷ drop (end + 1) bytes))) ≡ (spelled_list old ++ (a.name ++ (spelled_domain a.domain ++ comma ∷ []))) ++ drop (end + 1) bytes
        regroup = simp append_assoc

    pub limits_kept : 1 ≤ depth → IsWithinLimits new
    limits_kept l = record {
      some = omega (arith, ap length h.added, length_push old a);
      few = few_now;
      distinct = distinct_now;
      shallow = omega (arith, shallow_now, l);
    }

    pub read_all : IsHeading new → HasByte bytes end close_bracket → end < length bytes → ArePropertiesAt bytes start depth new (end + 1)
    read_all w e l = record {
      forward = omega (arith, r.forward, h.forward);
      within = omega (arith, l);
      spelled = r.spelled ∙ ap (λ s. spelled_list old ++ s) (h.spelled ∙ ap (λ s. a.name ++ (spelled_domain a.domain ++ s)) e)
          ∙ regroup
          ∙ ap (λ s. s ++ (close_bracket ∷ drop (end + 1) bytes)) (sym (ap (λ p. spelled_properties (heading_of p)) h.added ∙ spelled_properties-push old a));
      reaches = λ outer d. reaches_end outer d ∙ ap (first_flaw (after (names_of new ∷ outer)) end) e ∙ over_close (names_of new) outer end (drop (end + 1) bytes);
      whole = w;
      shallow = shallow_now;
    }
      where
        regroup : spelled_list old ++ (a.name ++ (spelled_domain a.domain ++ (close_bracket ∷ drop (end + 1) bytes))) ≡ (spelled_list old ++ (a.name ++ spelled_domain a.domain)) ++ (close_bracket ∷ drop (end + 1) bytes)
        regroup = simp append_assoc

    pub read_stops : (HasByte bytes end close_bracket → ⊥) → (HasByte bytes end comma → ⊥) → RefusesProperty bytes start depth [] (Syntax end)
    read_stops c o = inr (λ outer d. reaches_end outer d ∙ no_more (names_of new) outer end (drop end bytes) (λ more e. c (HasByte-from bytes end close_bracket more e)) (λ more e. o (HasByte-from bytes end comma more e)))
