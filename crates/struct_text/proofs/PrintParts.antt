-- Appending one thing after another.
use Rattle.std.proofs.Common.{◌≡◌, ℕ, suc, ◌+◌, ◌-◌, ◌<◌, ◌≤◌, List, [], ◌∷◌, ◌++◌, length, take, drop, refl, sym, ◌∙◌, ap, subst, arith, append_assoc, append-nil, length-append, ⊎_elim, add-one, get_or, take-append-drop, OnOk, OnErr, IsOk}
use Rattle.std.specs.Prelude.{Result, Ok, Err}
use Rattle.std.proofs.lemmas.Bool.{true≢false, cases_lt}
use Rattle.std.proofs.lemmas.Grind.{flat_map-append}
use Rattle.std.proofs.lemmas.List.{take_more, take_rest, drop_more, length-drop, get_or-drop}
use Rattle.mk_value.specs.Buffer.{Buffer}
use Rattle.mk_value.specs.Heading.{Attribute, heading_of}
use Rattle.struct_text.specs.Bytes.{comma}
use Rattle.struct_text.specs.Spelling.{spelled_domain, spelled_properties}
use Rattle.struct_text.specs.Printing.{IsAppended, IsCutOff, Appends, spelled_property, spelled_others}

pub append_both : {old mid new : Buffer} {x y : List ℕ} → IsAppended old mid x → IsAppended mid new y → IsAppended old new (x ++ y)
append_both {old} {mid} {new} {x} {y} h k = record {
  at_end = k.at_end ∙ ap (λ b. b ++ y) h.at_end ∙ append_assoc old.bytes x y;
  spare = omega (arith, h.spare, k.spare, length-append x y);
}

-- what came, and then what was cut off
cut_after : {old mid new : Buffer} {x y front rest : List ℕ} → IsAppended old mid x → IsCutOff mid new y front rest → IsCutOff old new (x ++ y) (x ++ front) rest
cut_after {old} {mid} {new} {x} {y} {front} {rest} h k = record {
  full = omega (arith, h.spare, k.full, length-append x y);
  cut = ap (λ z. x ++ z) k.cut ∙ sym (append_assoc x front rest);
  at_end = k.at_end ∙ ap (λ b. b ++ front) h.at_end ∙ append_assoc old.bytes x front;
  spare = omega (arith, h.spare, k.spare, length-append x y);
}

-- what was cut off, with more that would have come
cut_before : {old new : Buffer} {x front rest : List ℕ} → IsCutOff old new x front rest → (y : List ℕ) → IsCutOff old new (x ++ y) front (rest ++ y)
cut_before {old} {new} {x} {front} {rest} h y = record {
  full = omega (arith, h.full, length-append x y);
  cut = ap (λ z. z ++ y) h.cut ∙ append_assoc front rest y;
  at_end = h.at_end;
  spare = omega (arith, h.spare, length-append x y);
}

-- an appending call, by its clauses
pub Appends-from : {E : Type 0} (old new : Buffer) (text : List ℕ) (r : Result (Unit {0}) E) → OnOk r (new.bytes ≡ old.bytes ++ text) → OnErr r (new.bytes ≡ old.bytes)
    → (length text ≤ old.spare → IsOk r) → old.spare ≤ new.spare + length text → Appends old new text r
Appends-from old new text (Ok u) ok err roomy spare = record { at_end = ok; spare = spare }
Appends-from old new text (Err e) ok err roomy spare = (
  [],
  text,
  record {
    full = ⊎_elim (λ less. less) (λ enough. absurd (true≢false (sym (roomy enough)))) (cases_lt old.spare (length text));
    cut = refl;
    at_end = err ∙ sym (append-nil old.bytes);
    spare = spare;
  },
)

-- the last of two, as its result is returned
pub Appends-after : {E : Type 0} {old mid : Buffer} (new : Buffer) {x : List ℕ} (y : List ℕ) (r : Result (Unit {0}) E) → IsAppended old mid x → Appends mid new y r → Appends old new (x ++ y) r
Appends-after new y (Ok u) h k = append_both h k
Appends-after new y (Err e) h (front, rest, k) = (_, rest, cut_after h k)

-- A call whose result is handed on by `?`: the whole is what it was to append, and more.
abbrev pub Cut : Buffer → Buffer → List ℕ → Type 0
Cut old new whole = (front : List ℕ) × (rest : List ℕ) × IsCutOff old new whole front rest

pub cut_first : {old new : Buffer} {x : List ℕ} (y : List ℕ) → Cut old new x → Cut old new (x ++ y)
cut_first y (front, rest, h) = (front, rest ++ y, cut_before h y)

pub cut_next : {old mid new : Buffer} {x y : List ℕ} → IsAppended old mid x → Cut mid new y → Cut old new (x ++ y)
cut_next h (front, rest, k) = (_, rest, cut_after h k)

pub spelled_properties-first : (a : Attribute) (others : List Attribute) → spelled_properties (heading_of (a ∷ others)) ≡ spelled_property a ++ spelled_others others
spelled_properties-first a [] = sym (append-nil (spelled_property a))
spelled_properties-first a (b ∷ others) =
    ap (λ r. a.name ++ (spelled_domain a.domain ++ (comma ∷ r))) (spelled_properties-first b others) ∙ sym (append_assoc a.name (spelled_domain a.domain) (comma ∷ (spelled_property b ++ spelled_others others)))

-- the first properties, and the others
pub spelled_properties-split : (properties : List Attribute) (n : ℕ) → 0 < length properties
    → spelled_properties (heading_of properties) ≡ spelled_properties (heading_of (take (n + 1) properties)) ++ spelled_others (drop (n + 1) properties)
spelled_properties-split [] n l = absurd (omega arith)
spelled_properties-split (a ∷ others) n l =
    rw add-one (spelled_properties-first a others
    ∙ ap (λ s. spelled_property a ++ s) (ap spelled_others (sym (take-append-drop n others)) ∙ flat_map-append (λ (x : Attribute). comma ∷ spelled_property x) (take n others) (drop n others))
    ∙ sym (append_assoc (spelled_property a) (spelled_others (take n others)) (spelled_others (drop n others)))
    ∙ ap (λ s. s ++ spelled_others (drop n others)) (sym (spelled_properties-first a (take n others))))

others_more : (a : Attribute) (others : List Attribute) (n : ℕ) (d : Attribute) → n < length others
    → spelled_properties (heading_of (a ∷ take (n + 1) others)) ≡ spelled_properties (heading_of (a ∷ take n others)) ++ (comma ∷ spelled_property (get_or others n d))
others_more a others n d l =
    spelled_properties-first a (take (n + 1) others)
    ∙ ap (λ s. spelled_property a ++ s) (ap spelled_others (take_more others n d l)
    ∙ flat_map-append (λ (x : Attribute). comma ∷ spelled_property x) (take n others) (get_or others n d ∷ [])
    ∙ ap (λ s. spelled_others (take n others) ++ s) (append-nil (comma ∷ spelled_property (get_or others n d))))
    ∙ sym (append_assoc (spelled_property a) (spelled_others (take n others)) (comma ∷ spelled_property (get_or others n d)))
    ∙ ap (λ s. s ++ (comma ∷ spelled_property (get_or others n d))) (sym (spelled_properties-first a (take n others)))

-- one more
pub spelled_properties-more : (properties : List Attribute) (n : ℕ) (d : Attribute) → n + 1 < length properties
    → spelled_properties (heading_of (take (n + 1 + 1) properties)) ≡ spelled_properties (heading_of (take (n + 1) properties)) ++ (comma ∷ spelled_property (get_or properties (n + 1) d))
spelled_properties-more [] n d l = absurd (omega arith)
spelled_properties-more (a ∷ others) n d l =
    let two : n + 1 + 1 ≡ suc (n + 1) = add-one (n + 1) in
    let one : n + 1 ≡ suc n = add-one n in
    ap (λ k. spelled_properties (heading_of (take k (a ∷ others)))) two
    ∙ others_more a others n d (omega (arith, l))
    ∙ ap (λ k. spelled_properties (heading_of (take k (a ∷ others))) ++ (comma ∷ spelled_property (get_or (a ∷ others) k d))) (sym one)

pub spelled_first : (properties : List Attribute) (d : Attribute) → 0 < length properties
    → spelled_properties (heading_of properties) ≡ spelled_property (get_or properties 0 d) ++ spelled_others (drop 1 properties)
spelled_first [] d l = absurd (omega arith)
spelled_first (a ∷ others) d l = spelled_properties-first a others

-- A loop over all properties but the first.
pub record IsNext (properties : List Attribute) (n : ℕ) (property : Attribute) : Type 0 where
  pub within : n + 1 < length properties
  pub at : property ≡ get_or properties (n + 1) property

pub next_of : (lent properties : List Attribute) (n : ℕ) (property : Attribute) → lent ≡ properties → n < length (take (length lent - 1) (drop 1 lent))
    → property ≡ get_or (take (length lent - 1) (drop 1 lent)) n property → IsNext properties n property
next_of lent properties n property e l h =
    let rest : take (length lent - 1) (drop 1 lent) ≡ drop 1 properties = take_rest lent 1 ∙ ap (drop 1) e in
    let place : 1 + n ≡ n + 1 = omega arith in
    record {
      within = omega (arith, l, ap length rest, length-drop 1 properties);
      at = h ∙ ap (λ xs. get_or xs n property) rest ∙ get_or-drop 1 properties n property ∙ ap (λ k. get_or properties k property) place;
    }

module _ (properties : List Attribute) (n : ℕ) (property : Attribute) (next : IsNext properties n property) where
  whole_is : spelled_properties (heading_of properties)
      ≡ spelled_properties (heading_of (take (n + 1) properties)) ++ (comma ∷ (spelled_property property ++ spelled_others (drop (n + 1 + 1) properties)))
  whole_is =
      spelled_properties-split properties n (omega (arith, next.within))
      ∙ ap (λ r. spelled_properties (heading_of (take (n + 1) properties)) ++ spelled_others r) (drop_more properties (n + 1) property next.within)
      ∙ ap (λ a. spelled_properties (heading_of (take (n + 1) properties)) ++ (comma ∷ (spelled_property a ++ spelled_others (drop (n + 1 + 1) properties)))) (sym next.at)

  pub printed_more : {old mid then new : Buffer} → IsAppended old mid (spelled_properties (heading_of (take (n + 1) properties))) → IsAppended mid then (comma ∷ []) → IsAppended then new (spelled_property property)
      → IsAppended old new (spelled_properties (heading_of (take (n + 1 + 1) properties)))
  printed_more {old} {mid} {then} {new} h k j =
      let P : List ℕ → Type 0 = λ s. IsAppended old new s in
      subst P (ap (λ a. spelled_properties (heading_of (take (n + 1) properties)) ++ (comma ∷ spelled_property a)) next.at ∙ sym (spelled_properties-more properties n property next.within))
      (append_both h (append_both k j))

  pub cut_at_comma : {old mid new : Buffer} → IsAppended old mid (spelled_properties (heading_of (take (n + 1) properties))) → Cut mid new (comma ∷ [])
      → Cut old new (spelled_properties (heading_of properties))
  cut_at_comma {old} {mid} {new} h c =
      let P : List ℕ → Type 0 = λ s. Cut old new s in
      subst P (sym whole_is) (cut_next h (cut_first (spelled_property property ++ spelled_others (drop (n + 1 + 1) properties)) c))

  pub cut_at_property : {old mid then new : Buffer} → IsAppended old mid (spelled_properties (heading_of (take (n + 1) properties))) → IsAppended mid then (comma ∷ []) → Cut then new (spelled_property property)
      → Cut old new (spelled_properties (heading_of properties))
  cut_at_property {old} {mid} {then} {new} h k c =
      let P : List ℕ → Type 0 = λ s. Cut old new s in
      subst P (sym whole_is) (cut_next h (cut_next k (cut_first (spelled_others (drop (n + 1 + 1) properties)) c)))
