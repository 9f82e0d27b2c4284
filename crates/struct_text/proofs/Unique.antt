-- No two structures have the same spelling.
use Rattle.std.proofs.Common.{◌≡◌, ℕ, true, false, not, List, [], ◌∷◌, ◌++◌, drop, refl, sym, ◌∙◌, ap, arith, get_or, append_assoc}
use Rattle.std.specs.List.{AllPass}
use Rattle.std.proofs.lemmas.Bool.{true≢false, and_from, not_from_false}
use Rattle.std.proofs.lemmas.List.{append_cancel_left}
use Rattle.std.proofs.lemmas.List.Elements.{All-head, All-tail}
use Rattle.std.specs.Char.{is_ascii_digit}
use Rattle.mk_value.specs.Names.{IsName, is_name_byte}
use Rattle.mk_value.specs.Heading.{Domain, integer, long, text, bytes, relation, Heading, no_attributes, attribute, Attribute, heading_of, IsDomain, AreAttributes}
use Rattle.mk_value.proofs.Headings.{AreAttributes-heading_of, heading_of-injective}
use Rattle.struct_text.specs.Bytes.{open_bracket, close_bracket, comma, is_name_start}
use Rattle.struct_text.specs.Spelling.{spelled_domain, spelled_properties, Spells}
use Rattle.struct_text.proofs.Moves.{run, run-yes, run-no}

-- A name is the run at the front of what it begins.
run_over : (word rest : List ℕ) → AllPass is_name_byte word → run rest ≡ [] → run (word ++ rest) ≡ word
run_over [] rest h e = e
run_over (b ∷ word) rest h e =
    run-yes b (word ++ rest) (All-head (λ x. is_name_byte x ≡ true) b word h) ∙ ap (λ w. b ∷ w) (run_over word rest (All-tail (λ x. is_name_byte x ≡ true) b word h) e)

pub run_name : (name rest : List ℕ) → IsName name → run rest ≡ [] → run (name ++ rest) ≡ name
run_name name rest h e = run_over name rest h.characters e

pub run_domain : (d : Domain) (rest : List ℕ) → run (spelled_domain d ++ rest) ≡ []
run_domain integer rest = run-no 58 (73 ∷ rest) refl
run_domain long rest = run-no 58 (76 ∷ rest) refl
run_domain text rest = run-no 58 (83 ∷ rest) refl
run_domain bytes rest = run-no 58 (66 ∷ rest) refl
run_domain (relation h) rest = run-no 91 ((spelled_properties h ++ close_bracket ∷ []) ++ rest) refl

-- the first byte of a name begins one
pub name_begins : (name : List ℕ) → IsName name → (b : ℕ) × (word : List ℕ) × (name ≡ b ∷ word) × (is_name_start b ≡ true)
name_begins [] h = absurd (omega (arith, h.not_empty))
name_begins (b ∷ word) h =
    (b, word, refl, and_from (is_name_byte b) (not (is_ascii_digit b)) (All-head (λ x. is_name_byte x ≡ true) b word h.characters) (not_from_false (is_ascii_digit b) h.begins))

same_names : (n m x y : List ℕ) → IsName n → IsName m → run x ≡ [] → run y ≡ [] → n ++ x ≡ m ++ y → (n ≡ m) × (x ≡ y)
same_names n m x y hn hm ex ey e =
    let q : n ≡ m = sym (run_name n x hn ex) ∙ ap run e ∙ run_name m y hm ey in
    (q, append_cancel_left m x y (ap (λ w. w ++ x) (sym q) ∙ e))

-- the front byte of a name is no bracket and no comma
no_name : (name rest other : List ℕ) (b : ℕ) → IsName name → is_name_start b ≡ false → b ∷ other ≡ name ++ rest → ⊥
no_name name rest other b h k e =
    let n = name_begins name h in
    let heads : b ≡ n.0 = ap (λ (l : List ℕ). get_or l 0 0) (e ∙ ap (λ w. w ++ rest) n.2) in
    true≢false (sym n.3 ∙ ap is_name_start (sym heads) ∙ k)

-- the properties and a closing bracket, one property at a time
abbrev tail_text : Heading → List ℕ → List ℕ
tail_text no_attributes rest = close_bracket ∷ rest
tail_text (attribute n d h) rest = comma ∷ (spelled_properties (attribute n d h) ++ (close_bracket ∷ rest))

spelled_first : (n : List ℕ) (d : Domain) (h : Heading) (rest : List ℕ) → spelled_properties (attribute n d h) ++ (close_bracket ∷ rest) ≡ n ++ (spelled_domain d ++ tail_text h rest)
spelled_first n d no_attributes rest = append_assoc n (spelled_domain d) (close_bracket ∷ rest)
spelled_first n d (attribute m e h) rest = simp append_assoc

in_brackets : (h : Heading) (rest : List ℕ) → spelled_domain (relation h) ++ rest ≡ open_bracket ∷ (spelled_properties h ++ (close_bracket ∷ rest))
in_brackets h rest = ap (λ r. open_bracket ∷ r) (append_assoc (spelled_properties h) (close_bracket ∷ []) rest)

abbrev second : List ℕ → ℕ
second l = get_or l 1 0

abbrev front_byte : List ℕ → ℕ
front_byte l = get_or l 0 0

same_tails : (h k : Heading) (r s : List ℕ) → (spelled_properties h ++ (close_bracket ∷ r) ≡ spelled_properties k ++ (close_bracket ∷ s) → (h ≡ k) × (r ≡ s)) → tail_text h r ≡ tail_text k s → (h ≡ k) × (r ≡ s)
same_tails no_attributes no_attributes r s same e = (refl, ap (drop 1) e)
same_tails no_attributes (attribute m d k) r s same e = absurd (omega (arith, ap front_byte e))
same_tails (attribute n d h) no_attributes r s same e = absurd (omega (arith, ap front_byte e))
same_tails (attribute n d h) (attribute m c k) r s same e = same (ap (drop 1) e)

mutual
  same_domain : (d e : Domain) (r s : List ℕ) → IsDomain d → IsDomain e → spelled_domain d ++ r ≡ spelled_domain e ++ s → (d ≡ e) × (r ≡ s)
  same_domain integer integer r s w v h = (refl, ap (drop 2) h)
  same_domain long long r s w v h = (refl, ap (drop 2) h)
  same_domain text text r s w v h = (refl, ap (drop 2) h)
  same_domain bytes bytes r s w v h = (refl, ap (drop 2) h)
  same_domain (relation h) (relation k) r s w v e =
      let inside = same_properties h k r s w.1 v.1 (ap (drop 1) (sym (in_brackets h r) ∙ e ∙ in_brackets k s)) in
      (ap relation inside.0, inside.1)
  same_domain d e r s w v h = absurd (omega (arith, ap front_byte h, ap second h))

  same_properties : (h k : Heading) (r s : List ℕ) → AreAttributes h → AreAttributes k → spelled_properties h ++ (close_bracket ∷ r) ≡ spelled_properties k ++ (close_bracket ∷ s) → (h ≡ k) × (r ≡ s)
  same_properties no_attributes no_attributes r s w v e = (refl, ap (drop 1) e)
  same_properties no_attributes (attribute m d k) r s w v e = absurd (no_name m (spelled_domain d ++ tail_text k s) r close_bracket v.0 refl (e ∙ spelled_first m d k s))
  same_properties (attribute n d h) no_attributes r s w v e = absurd (no_name n (spelled_domain d ++ tail_text h r) s close_bracket w.0 refl (sym e ∙ spelled_first n d h r))
  same_properties (attribute n d h) (attribute m c k) r s w v e =
      let names = same_names n m (spelled_domain d ++ tail_text h r) (spelled_domain c ++ tail_text k s) w.0 v.0 (run_domain d (tail_text h r)) (run_domain c (tail_text k s)) (sym (spelled_first n d h r) ∙ e ∙ spelled_first m c k s) in
      let domains = same_domain d c (tail_text h r) (tail_text k s) w.1 v.1 names.1 in
      let rest = same_tails h k r s (same_properties h k r s w.2 v.2) domains.1 in
      (ap (λ x. attribute x d h) names.0 ∙ ap (λ x. attribute m x h) domains.0 ∙ ap (λ x. attribute m c x) rest.0, rest.1)

-- two structures of one spelling are one
pub one_structure : (spelled n m : List ℕ) (p q : List Attribute) → Spells spelled n p → Spells spelled m q → (n ≡ m) × (p ≡ q)
one_structure spelled n m p q h k =
    let names = same_names n m (spelled_domain (relation (heading_of p))) (spelled_domain (relation (heading_of q))) h.named k.named
    (run-no 91 (spelled_properties (heading_of p) ++ close_bracket ∷ []) refl) (run-no 91 (spelled_properties (heading_of q) ++ close_bracket ∷ []) refl) (sym h.is ∙ k.is) in
    let inside = same_properties (heading_of p) (heading_of q) [] [] (AreAttributes-heading_of p h.whole.attributes) (AreAttributes-heading_of q k.whole.attributes) (ap (drop 1) names.1) in
    (names.0, heading_of-injective p q inside.0)
