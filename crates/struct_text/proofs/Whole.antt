-- A whole text: the view's name, its brackets, and what each result of reading says.
use Rattle.std.proofs.Common.{◌≡◌, ◌⊎◌, ℕ, zero, suc, ◌+◌, List, [], ◌∷◌, ◌++◌, length, drop, refl, sym, ◌∙◌, ap, subst, inl, inr, arith, Option, Some, None, zero-add}
use Rattle.std.specs.Prelude.{Result, Ok, Err, IfOk, IfErr}
use Rattle.std.proofs.lemmas.List.{drop_all, drop_more}
use Rattle.mk_value.specs.Heading.{Attribute, heading_of}
use Rattle.struct_text.specs.Bytes.{open_bracket, close_bracket}
use Rattle.struct_text.specs.Spelling.{spelled_properties, Spells}
use Rattle.struct_text.specs.declared.error.StructError.{StructError}
use Rattle.struct_text.specs.declared.error.StructError.TheVariants.{Syntax, Floating, Repeated, TooDeep, TooMany, TooLong, Memory}
use Rattle.struct_text.specs.Offences.{name_at, Offends, IsFirstOffence, Precedes, place_of, rank_of}
use Rattle.struct_text.specs.Walk.{name_start, in_name, after, start}
use Rattle.struct_text.specs.Flaws.{first_flaw}
use Rattle.struct_text.specs.Reading.{HasByte, IsNameAt, RefusesName, RefusesProperty, ArePropertiesAt}
use Rattle.struct_text.specs.Grammar.{IsLoose}
use Rattle.struct_text.proofs.Reach.{loose_from_walk}
use Rattle.struct_text.proofs.FirstFlaw.{Found, finds_all}
use Rattle.struct_text.proofs.Moves.{here, root_flaw, over_name, over_open, no_bracket, whole_end, past_end}
use Rattle.struct_text.proofs.PropertyParts.{HasByte-from, name_ended, name_spelled}
use Rattle.struct_text.proofs.Strict.{no_flaw_in_spelling}
use Rattle.struct_text.proofs.Unique.{one_structure}

pub root_refused : (bytes : List ℕ) (e : StructError) → RefusesName bytes 0 [] e → first_flaw start 0 bytes ≡ Some e
root_refused bytes e h = here start bytes 0 e (root_flaw bytes 0 ∙ h [])

module _ (bytes name : List ℕ) (h : IsNameAt bytes 0 [] name) where
  root_reaches : first_flaw start 0 bytes ≡ first_flaw (in_name name []) (length name) (drop (length name) bytes)
  root_reaches =
      over_name bytes [] 0 (root_flaw bytes 0 ∙ h.clean [])
      ∙ ap (λ w. first_flaw (in_name w []) (0 + length w) (drop (length w) bytes)) (sym h.is)
      ∙ ap (λ n. first_flaw (in_name name []) n (drop (length name) bytes)) (zero-add (length name))

  pub no_brackets : (HasByte bytes (length name) open_bracket → ⊥) → first_flaw start 0 bytes ≡ Some (Syntax (length name))
  no_brackets o =
      root_reaches ∙ no_bracket name (length name) (drop (length name) bytes) (ap (name_at bytes) (sym (zero-add (length name))) ∙ name_ended bytes 0 [] name h)
      (λ more e. o (HasByte-from bytes (length name) open_bracket more e))

  opened : HasByte bytes (length name) open_bracket → first_flaw start 0 bytes ≡ first_flaw (name_start ([] ∷ [])) (length name + 1) (drop (length name + 1) bytes)
  opened e = root_reaches ∙ ap (first_flaw (in_name name []) (length name)) e ∙ over_open name [] (length name) (drop (length name + 1) bytes) refl

  pub inside_refused : (e : StructError) → HasByte bytes (length name) open_bracket → RefusesProperty bytes (length name + 1) 1 [] e → (e ≡ Memory) ⊎ (first_flaw start 0 bytes ≡ Some e)
  inside_refused e b (inl m) = inl m
  inside_refused e b (inr r) = inr (opened b ∙ r [] refl)

  closed : (properties : List Attribute) (end : ℕ) → HasByte bytes (length name) open_bracket → ArePropertiesAt bytes (length name + 1) 1 properties end
      → first_flaw start 0 bytes ≡ first_flaw (after []) end (drop end bytes)
  closed properties end b r = opened b ∙ r.reaches [] refl

  pub goes_past : (properties : List Attribute) (end : ℕ) → HasByte bytes (length name) open_bracket → ArePropertiesAt bytes (length name + 1) 1 properties end
      → (end ≡ length bytes → ⊥) → first_flaw start 0 bytes ≡ Some (Syntax end)
  goes_past properties end b r n =
      closed properties end b r ∙ ap (first_flaw (after []) end) (drop_more bytes end 0 (omega (arith, r.within, n))) ∙ past_end end _ (drop (end + 1) bytes)

  pub is_clean : (properties : List Attribute) (end : ℕ) → HasByte bytes (length name) open_bracket → ArePropertiesAt bytes (length name + 1) 1 properties end
      → end ≡ length bytes → first_flaw start 0 bytes ≡ None
  is_clean properties end b r n = closed properties end b r ∙ ap (first_flaw (after []) end) (drop_all end bytes (omega (arith, n))) ∙ whole_end end

  pub is_spelled : (properties : List Attribute) (end : ℕ) → HasByte bytes (length name) open_bracket → ArePropertiesAt bytes (length name + 1) 1 properties end
      → end ≡ length bytes → Spells bytes name properties
  is_spelled properties end b r n = record {
    named = h.valid;
    whole = r.whole;
    is = name_spelled bytes 0 [] name h
        ∙ ap (λ k. name ++ drop k bytes) (zero-add (length name))
        ∙ ap (λ s. name ++ s) (b ∙ ap (λ s. open_bracket ∷ s) (r.spelled ∙ ap (λ s. spelled_properties (heading_of properties) ++ (close_bracket ∷ s)) (drop_all end bytes (omega (arith, n)))));
  }

-- A refusal by its rank and place.
of_rank : ℕ → ℕ → StructError
of_rank zero p = Syntax p
of_rank (suc zero) p = Floating p
of_rank (suc (suc zero)) p = TooDeep p
of_rank (suc (suc (suc zero))) p = TooMany p
of_rank (suc (suc (suc (suc zero)))) p = TooLong p
of_rank (suc (suc (suc (suc (suc zero))))) p = Repeated p
of_rank (suc (suc (suc (suc (suc (suc n)))))) p = Memory

of_rank-is : (e : StructError) → of_rank (rank_of e) (place_of e) ≡ e
unfolding of_rank
of_rank-is (Syntax p) = refl
of_rank-is (Floating p) = refl
of_rank-is (TooDeep p) = refl
of_rank-is (TooMany p) = refl
of_rank-is (TooLong p) = refl
of_rank-is (Repeated p) = refl
of_rank-is Memory = refl

-- no text has two first offences
pub one_first : (text : List ℕ) (e f : StructError) → IsFirstOffence text e → IsFirstOffence text f → e ≡ f
one_first text e f h k = go (h.first f k.offends) (k.first e h.offends)
  where
    go : Precedes e f → Precedes f e → e ≡ f
    go (inl p) (inl q) = absurd (omega (arith, p, q))
    go (inl p) (inr q) = absurd (omega (arith, p, q.0))
    go (inr p) (inl q) = absurd (omega (arith, p.0, q))
    go (inr p) (inr q) =
        let rank : rank_of e ≡ rank_of f = omega (arith, p.1, q.1) in
        sym (of_rank-is e) ∙ ap (λ r. of_rank r (place_of e)) rank ∙ ap (of_rank (rank_of f)) p.0 ∙ of_rank-is f

found_some : (text : List ℕ) (e : StructError) → first_flaw start 0 text ≡ Some e → IsFirstOffence text e
found_some text e h = let P : Option StructError → Type 0 = Found text in subst P h (finds_all text)

found_none : (text : List ℕ) → first_flaw start 0 text ≡ None → (f : StructError) → Offends text f → ⊥
found_none text h = let P : Option StructError → Type 0 = Found text in (subst P h (finds_all text)).0

-- What reading gave: a structure whose spelling has no flaw, or the first flaw, or want of memory.
abbrev pub Reads : List ℕ → Result (List ℕ × List Attribute) StructError → Type 0
Reads text (Ok read) = Spells text read.0 read.1 × (first_flaw start 0 text ≡ None)
Reads text (Err e) = (e ≡ Memory) ⊎ (first_flaw start 0 text ≡ Some e)

pub accepts : (text : List ℕ) (r : Result (List ℕ × List Attribute) StructError) → Reads text r → (name : List ℕ) (properties : List Attribute) → Spells text name properties
    → (r ≡ Ok (name, properties)) ⊎ (r ≡ Err Memory)
accepts text (Ok read) h name properties s =
    let same = one_structure text read.0 name read.1 properties h.0 s in
    inl (ap (λ n. Ok (n, read.1)) same.0 ∙ ap (λ p. Ok (name, p)) same.1)
accepts text (Err e) (inl h) name properties s = inr (ap Err h)
accepts text (Err e) (inr h) name properties s = absurd (let two : Some e ≡ None = sym h ∙ no_flaw_in_spelling text name properties s in cc)

pub refuses : (text : List ℕ) (e : StructError) → (e ≡ Memory) ⊎ (first_flaw start 0 text ≡ Some e) → (e ≡ Memory) ⊎ IsFirstOffence text e
refuses text e (inl h) = inl h
refuses text e (inr h) = inr (found_some text e h)

pub names_offence : (text : List ℕ) (r : Result (List ℕ × List Attribute) StructError) → Reads text r → (e : StructError) → IsFirstOffence text e → (r ≡ Err e) ⊎ (r ≡ Err Memory)
names_offence text (Ok read) h e o = absurd (found_none text h.1 e o.offends)
names_offence text (Err f) (inl h) e o = inr (ap Err h)
names_offence text (Err f) (inr h) e o = inl (ap Err (one_first text f e (found_some text f h) o))

pub reads_from : (text lent : List ℕ) (r : Result (List ℕ × List Attribute) StructError) → lent ≡ text
    → IfOk r (λ read. Spells lent read.0 read.1) → IfOk r (λ read. first_flaw start 0 lent ≡ None) → IfErr r (λ e. (e ≡ Memory) ⊎ (first_flaw start 0 lent ≡ Some e)) → Reads text r
reads_from text lent (Ok read) e found clean refused =
    let P : List ℕ → Type 0 = λ t. Spells t read.0 read.1 × (first_flaw start 0 t ≡ None) in subst P e (found, clean)
reads_from text lent (Err f) e found clean refused =
    let P : List ℕ → Type 0 = λ t. (f ≡ Memory) ⊎ (first_flaw start 0 t ≡ Some f) in subst P e refused

pub refusal : (text : List ℕ) (r : Result (List ℕ × List Attribute) StructError) → Reads text r → IfErr r (λ e. (e ≡ Memory) ⊎ IsFirstOffence text e)
refusal text (Ok read) h = tt
refusal text (Err e) h = refuses text e h

-- what spells a structure is a loose text, and nothing in it offends
pub loose_text : (text name : List ℕ) (properties : List Attribute) → Spells text name properties → IsLoose text
loose_text text name properties h =
    let P : Option StructError → Type 0 = Found text in
    loose_from_walk text (subst P (no_flaw_in_spelling text name properties h) (finds_all text)).1

pub no_offence : (text name : List ℕ) (properties : List Attribute) → Spells text name properties → (offence : StructError) → Offends text offence → ⊥
no_offence text name properties h = found_none text (no_flaw_in_spelling text name properties h)
