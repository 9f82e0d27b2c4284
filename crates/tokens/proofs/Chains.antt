-- Pieces one behind another: what stands behind them, and that bytes are cut in one way alone.
use Rattle.std.proofs.Common.{◌≡◌, ◌≢◌, ℕ, ◌+◌, ◌<◌, ◌≤◌, true, false, List, [], ◌∷◌, ◌++◌, length, drop, refl, ap, sym, subst, ◌∙◌, arith, length-append, append-nil, Option, Some, None}
use Rattle.std.proofs.lemmas.Bool.{true≢false, eqb-true, eq-eqb, ne_eqb}
use Rattle.std.proofs.lemmas.List.{take-append-drop, drop-drop, length-drop, take_all}
use Rattle.std.proofs.lemmas.List.Elements.{All-weaker}
use Rattle.std.proofs.lemmas.List.Folds.{length-prefix_len}
use Rattle.std.specs.List.{All, AllPass, prefix_len}
use Rattle.mk_value.specs.Tokens.{Token, spelling}
use Rattle.tokens.specs.Cutting.{Begins, Cuts, CutsFrom, CutsUpTo, FlawFrom, IsNoToken, Leads, Piece, begins_with, end_of, space}
use Rattle.tokens.specs.Finding.{is_space}
use Rattle.tokens.proofs.Beginnings.{begins_same, begins_no_space, empty_begins_nothing, spelling_some}
use Rattle.tokens.proofs.Runs.{run, behind, behind_is, run_length, run_passes, behind_ends}

abbrev pub AreSpaces : List ℕ → Type 0
AreSpaces content = All (λ b. b ≡ space) content

spaces_pass : (content : List ℕ) → AreSpaces content → AllPass is_space content
spaces_pass content h = All-weaker (λ b. b ≡ space) (λ b. is_space b ≡ true) (λ b e. eq-eqb b 32 e) content h

passed_spaces : (content : List ℕ) → AllPass is_space content → AreSpaces content
passed_spaces content h = All-weaker (λ b. is_space b ≡ true) (λ b. b ≡ space) (λ b e. eqb-true b 32 e) content h

-- behind spaces alone stands nothing
blank_behind : (content : List ℕ) → AreSpaces content → behind is_space content ≡ []
blank_behind content h = ap (behind is_space) (sym (append-nil content)) ∙ behind_is is_space content [] (spaces_pass content h) refl

-- of what leads the bytes: its place, and where it stands
pub leads_place : (place : ℕ) (content : List ℕ) (p : Piece) (rest : List ℕ) → Leads place content p rest → p.place ≡ place + prefix_len is_space content
leads_place place content p rest l =
    let parts = l.begins in
    let e = ap (prefix_len is_space) parts.1 ∙ run_length is_space l.gap parts.0 (spaces_pass l.gap l.blank) (begins_no_space parts.0 p.token rest parts.2) in
    omega (arith, e, l.at)

pub leads_begins : (place : ℕ) (content : List ℕ) (p : Piece) (rest : List ℕ) → Leads place content p rest → Begins (behind is_space content) p.token rest
leads_begins place content p rest l =
    let parts = l.begins in
    let e = ap (behind is_space) parts.1 ∙ behind_is is_space l.gap parts.0 (spaces_pass l.gap l.blank) (begins_no_space parts.0 p.token rest parts.2) in
    subst (λ c. Begins c p.token rest) (sym e) parts.2

-- of what is no token: its place, and what stands there
flaw_place : (place : ℕ) (content : List ℕ) (flaw : ℕ) → IsNoToken place content flaw → flaw ≡ place + prefix_len is_space content
flaw_place place content flaw n =
    let parts = n.wrong in
    let e = ap (prefix_len is_space) parts.2 ∙ run_length is_space n.gap (parts.0 ∷ parts.1) (spaces_pass n.gap n.blank) (ne_eqb parts.0 32 parts.3) in
    omega (arith, e, n.at)

flaw_behind : (place : ℕ) (content : List ℕ) (flaw : ℕ) → (n : IsNoToken place content flaw) → behind is_space content ≡ n.wrong.0 ∷ n.wrong.1
flaw_behind place content flaw n =
    let parts = n.wrong in
    ap (behind is_space) parts.2 ∙ behind_is is_space n.gap (parts.0 ∷ parts.1) (spaces_pass n.gap n.blank) (ne_eqb parts.0 32 parts.3)

leads_not_blank : (place : ℕ) (content : List ℕ) (p : Piece) (rest : List ℕ) → Leads place content p rest → AreSpaces content → ⊥
leads_not_blank place content p rest l h =
    empty_begins_nothing p.token rest (subst (λ c. Begins c p.token rest) (blank_behind content h) (leads_begins place content p rest l))

flaw_not_blank : (place : ℕ) (content : List ℕ) (flaw : ℕ) → IsNoToken place content flaw → AreSpaces content → ⊥
flaw_not_blank place content flaw n h = let e = sym (blank_behind content h) ∙ flaw_behind place content flaw n in cc

leads_no_flaw : (place : ℕ) (content : List ℕ) (p : Piece) (rest : List ℕ) (flaw : ℕ) → Leads place content p rest → IsNoToken place content flaw → ⊥
leads_no_flaw place content p rest flaw l n =
    n.wrong.4 p.token rest (subst (λ c. Begins c p.token rest) (flaw_behind place content flaw n) (leads_begins place content p rest l))

abbrev piece : ℕ → Token → Piece
piece place token = record { place = place; token = token }

pub leads_same : (place : ℕ) (content : List ℕ) (p q : Piece) (r s : List ℕ) → Leads place content p r → Leads place content q s → (p ≡ q) × (r ≡ s)
leads_same place content p q r s l m =
    let places : p.place ≡ q.place = leads_place place content p r l ∙ sym (leads_place place content q s m) in
    let both = begins_same (behind is_space content) p.token q.token r s (leads_begins place content p r l) (leads_begins place content q s m) in
    (ap (λ n. piece n p.token) places ∙ ap (piece q.place) both.0, both.1)

-- these pieces lead the bytes, and behind them, at a place, stands the rest
abbrev pub Walks : ℕ → List ℕ → List Piece → ℕ → List ℕ → Type 0
Walks place content [] end rest = (end ≡ place) × (rest ≡ content)
Walks place content (p ∷ pieces) end rest = (further : List ℕ) × Leads place content p further × Walks (end_of p) further pieces end rest

pub walks_none : (place : ℕ) (content : List ℕ) → Walks place content [] place content
walks_none place content = (refl, refl)

pub walks_push : (place : ℕ) (content : List ℕ) (pieces : List Piece) (end : ℕ) (rest : List ℕ) (p : Piece) (further : List ℕ) → Walks place content pieces end rest → Leads end rest p further
    → Walks place content (pieces ++ p ∷ []) (end_of p) further
walks_push place content [] end rest p further w l =
    (further, subst (λ n. Leads n content p further) w.0 (subst (λ c. Leads end c p further) w.1 l), (refl, refl))
walks_push place content (q ∷ pieces) end rest p further w l = (w.0, w.1, walks_push (end_of q) w.0 pieces end rest p further w.2 l)

pub walks_cuts : (place : ℕ) (content : List ℕ) (pieces : List Piece) (end : ℕ) (rest : List ℕ) → Walks place content pieces end rest → AreSpaces rest → CutsFrom place content pieces
walks_cuts place content [] end rest w h = subst AreSpaces w.1 h
walks_cuts place content (q ∷ pieces) end rest w h = (w.0, w.1, walks_cuts (end_of q) w.0 pieces end rest w.2 h)

pub walks_flaw : (place : ℕ) (content : List ℕ) (pieces : List Piece) (end : ℕ) (rest : List ℕ) (flaw : ℕ) → Walks place content pieces end rest → IsNoToken end rest flaw → FlawFrom place content pieces flaw
walks_flaw place content [] end rest flaw w n = subst (λ m. IsNoToken m content flaw) w.0 (subst (λ c. IsNoToken end c flaw) w.1 n)
walks_flaw place content (q ∷ pieces) end rest flaw w n = (w.0, w.1, walks_flaw (end_of q) w.0 pieces end rest flaw w.2 n)

-- what leads bytes is the front of how they are cut
walks_front : (place : ℕ) (content : List ℕ) (pieces : List Piece) (end : ℕ) (rest : List ℕ) (all : List Piece) → Walks place content pieces end rest → CutsFrom place content all
    → (more : List Piece) × (all ≡ pieces ++ more) × CutsFrom end rest more
walks_front place content [] end rest all w c =
    (all, refl, subst (λ n. CutsFrom n rest all) (sym w.0) (subst (λ x. CutsFrom place x all) (sym w.1) c))
walks_front place content (p ∷ pieces) end rest [] w c = absurd (leads_not_blank place content p w.0 w.1 c)
walks_front place content (p ∷ pieces) end rest (q ∷ all) w c =
    let same = leads_same place content q p c.0 w.0 c.1 w.1 in
    let tail = subst (λ x. CutsFrom (end_of p) x all) same.1 (subst (λ x. CutsFrom (end_of x) c.0 all) same.0 c.2) in
    let further = walks_front (end_of p) w.0 pieces end rest all w.2 tail in
    (further.0, ap (λ x. x ∷ all) same.0 ∙ ap (λ x. p ∷ x) further.1, further.2)

walks_front_flaw : (place : ℕ) (content : List ℕ) (pieces : List Piece) (end : ℕ) (rest : List ℕ) (all : List Piece) (flaw : ℕ) → Walks place content pieces end rest → FlawFrom place content all flaw
    → (more : List Piece) × (all ≡ pieces ++ more) × FlawFrom end rest more flaw
walks_front_flaw place content [] end rest all flaw w c =
    (all, refl, subst (λ n. FlawFrom n rest all flaw) (sym w.0) (subst (λ x. FlawFrom place x all flaw) (sym w.1) c))
walks_front_flaw place content (p ∷ pieces) end rest [] flaw w c = absurd (leads_no_flaw place content p w.0 flaw w.1 c)
walks_front_flaw place content (p ∷ pieces) end rest (q ∷ all) flaw w c =
    let same = leads_same place content q p c.0 w.0 c.1 w.1 in
    let tail = subst (λ x. FlawFrom (end_of p) x all flaw) same.1 (subst (λ x. FlawFrom (end_of x) c.0 all flaw) same.0 c.2) in
    let further = walks_front_flaw (end_of p) w.0 pieces end rest all flaw w.2 tail in
    (further.0, ap (λ x. x ∷ all) same.0 ∙ ap (λ x. p ∷ x) further.1, further.2)

-- a piece that comes next is one more of the whole cutting
pub one_more : (content : List ℕ) (pieces all : List Piece) (end : ℕ) (rest : List ℕ) (p : Piece) (further : List ℕ) → Walks 0 content pieces end rest → Cuts content all → Leads end rest p further
    → length pieces < length all
one_more content pieces all end rest p further w c l =
    let front = walks_front 0 content pieces end rest all w c in
    next pieces all end rest front.0 p further front.1 front.2 l
  where
    next : (pieces all : List Piece) (end : ℕ) (rest : List ℕ) (more : List Piece) (p : Piece) (further : List ℕ) → all ≡ pieces ++ more → CutsFrom end rest more → Leads end rest p further → length pieces < length all
    next pieces all end rest [] p further e c l = absurd (leads_not_blank end rest p further l c)
    next pieces all end rest (q ∷ more) p further e c l = let long = ap length e in omega (arith, long, length-append pieces (q ∷ more))

one_more_flaw : (content : List ℕ) (pieces all : List Piece) (end : ℕ) (rest : List ℕ) (p : Piece) (further : List ℕ) (flaw : ℕ) → Walks 0 content pieces end rest → FlawFrom 0 content all flaw → Leads end rest p further
    → length pieces < length all
one_more_flaw content pieces all end rest p further flaw w c l =
    let front = walks_front_flaw 0 content pieces end rest all flaw w c in
    next pieces all end rest front.0 p further flaw front.1 front.2 l
  where
    next : (pieces all : List Piece) (end : ℕ) (rest : List ℕ) (more : List Piece) (p : Piece) (further : List ℕ) (flaw : ℕ) → all ≡ pieces ++ more → FlawFrom end rest more flaw → Leads end rest p further → length pieces < length all
    next pieces all end rest [] p further flaw e c l = absurd (leads_no_flaw end rest p further flaw l c)
    next pieces all end rest (q ∷ more) p further flaw e c l = let long = ap length e in omega (arith, long, length-append pieces (q ∷ more))

pub one_more_of : (content : List ℕ) (pieces all : List Piece) (end : ℕ) (rest : List ℕ) (p : Piece) (further : List ℕ) (flaw : Option ℕ) → Walks 0 content pieces end rest → CutsUpTo content all flaw → Leads end rest p further
    → length pieces < length all
one_more_of content pieces all end rest p further None w c l = one_more content pieces all end rest p further w c l
one_more_of content pieces all end rest p further (Some flaw) w c l = one_more_flaw content pieces all end rest p further flaw w c l

-- bytes are cut in one way, or have one first flaw, and never both
pub cut_once : (place : ℕ) (content : List ℕ) (pieces all : List Piece) → CutsFrom place content pieces → CutsFrom place content all → pieces ≡ all
cut_once place content [] [] c d = refl
cut_once place content [] (q ∷ all) c d = absurd (leads_not_blank place content q d.0 d.1 c)
cut_once place content (p ∷ pieces) [] c d = absurd (leads_not_blank place content p c.0 c.1 d)
cut_once place content (p ∷ pieces) (q ∷ all) c d =
    let same = leads_same place content p q c.0 d.0 c.1 d.1 in
    let tail = subst (λ x. CutsFrom (end_of q) x pieces) same.1 (subst (λ x. CutsFrom (end_of x) c.0 pieces) same.0 c.2) in
    ap (λ x. x ∷ pieces) same.0 ∙ ap (λ x. q ∷ x) (cut_once (end_of q) d.0 pieces all tail d.2)

pub flawed_once : (place : ℕ) (content : List ℕ) (pieces all : List Piece) (one two : ℕ) → FlawFrom place content pieces one → FlawFrom place content all two → one ≡ two
flawed_once place content [] [] one two c d = flaw_place place content one c ∙ sym (flaw_place place content two d)
flawed_once place content [] (q ∷ all) one two c d = absurd (leads_no_flaw place content q d.0 one d.1 c)
flawed_once place content (p ∷ pieces) [] one two c d = absurd (leads_no_flaw place content p c.0 two c.1 d)
flawed_once place content (p ∷ pieces) (q ∷ all) one two c d =
    let same = leads_same place content p q c.0 d.0 c.1 d.1 in
    let tail = subst (λ x. FlawFrom (end_of q) x pieces one) same.1 (subst (λ x. FlawFrom (end_of x) c.0 pieces one) same.0 c.2) in
    flawed_once (end_of q) d.0 pieces all one two tail d.2

pub cut_or_flawed : (place : ℕ) (content : List ℕ) (pieces all : List Piece) (flaw : ℕ) → CutsFrom place content pieces → FlawFrom place content all flaw → ⊥
cut_or_flawed place content [] [] flaw c d = flaw_not_blank place content flaw d c
cut_or_flawed place content [] (q ∷ all) flaw c d = leads_not_blank place content q d.0 d.1 c
cut_or_flawed place content (p ∷ pieces) [] flaw c d = leads_no_flaw place content p c.0 flaw c.1 d
cut_or_flawed place content (p ∷ pieces) (q ∷ all) flaw c d =
    let same = leads_same place content p q c.0 d.0 c.1 d.1 in
    let tail = subst (λ x. CutsFrom (end_of q) x pieces) same.1 (subst (λ x. CutsFrom (end_of x) c.0 pieces) same.0 c.2) in
    cut_or_flawed (end_of q) d.0 pieces all flaw tail d.2

-- so there is one list of pieces and one flaw, or none, up to which a text is cut
flawed_same : (place : ℕ) (content : List ℕ) (pieces all : List Piece) (one two : ℕ) → FlawFrom place content pieces one → FlawFrom place content all two → pieces ≡ all
flawed_same place content [] [] one two c d = refl
flawed_same place content [] (q ∷ all) one two c d = absurd (leads_no_flaw place content q d.0 one d.1 c)
flawed_same place content (p ∷ pieces) [] one two c d = absurd (leads_no_flaw place content p c.0 two c.1 d)
flawed_same place content (p ∷ pieces) (q ∷ all) one two c d =
    let same = leads_same place content p q c.0 d.0 c.1 d.1 in
    let tail = subst (λ x. FlawFrom (end_of q) x pieces one) same.1 (subst (λ x. FlawFrom (end_of x) c.0 pieces one) same.0 c.2) in
    ap (λ x. x ∷ pieces) same.0 ∙ ap (λ x. q ∷ x) (flawed_same (end_of q) d.0 pieces all one two tail d.2)

pub cut_up_to_once : (content : List ℕ) (pieces all : List Piece) (one two : Option ℕ) → CutsUpTo content pieces one → CutsUpTo content all two → (pieces ≡ all) × (one ≡ two)
cut_up_to_once content pieces all None None c d = (cut_once 0 content pieces all c d, refl)
cut_up_to_once content pieces all None (Some two) c d = absurd (cut_or_flawed 0 content pieces all two c d)
cut_up_to_once content pieces all (Some one) None c d = absurd (cut_or_flawed 0 content all pieces one d c)
cut_up_to_once content pieces all (Some one) (Some two) c d = (flawed_same 0 content pieces all one two c d, ap Some (flawed_once 0 content pieces all one two c d))

-- what is found behind spaces
module _ (content : List ℕ) (from k : ℕ) (within : from ≤ length content) (is : k ≡ prefix_len is_space (drop from content)) where
  tail_is : behind is_space (drop from content) ≡ drop (from + k) content
  tail_is = ap (λ n. drop n (drop from content)) (sym is) ∙ drop-drop k from content

  gap_length : length (run is_space (drop from content)) ≡ k
  gap_length = length-prefix_len is_space (drop from content) ∙ sym is

  split : drop from content ≡ run is_space (drop from content) ++ behind is_space (drop from content)
  split = sym (take-append-drop (prefix_len is_space (drop from content)) (drop from content))

  pub spaces_alone : from + k ≡ length content → AreSpaces (drop from content)
  spaces_alone e =
      let all : run is_space (drop from content) ≡ drop from content = take_all (prefix_len is_space (drop from content)) (drop from content) (omega (arith, is, e, length-drop from content)) in
      subst AreSpaces all (passed_spaces (run is_space (drop from content)) (run_passes is_space (drop from content)))

  pub piece_found : (token : Token) (len : ℕ) → len ≤ length (drop (from + k) content) → Begins (drop (from + k) content) token (drop len (drop (from + k) content))
      → (from + k + len ≤ length content) × (from + k + len ≡ from + k + length (spelling token)) × Leads from (drop from content) (piece (from + k) token) (drop (from + k + len) content)
  piece_found token len small b =
      let left = length-drop (from + k) content in
      let rest = length-drop len (drop (from + k) content) in
      let whole = ap length b.stands ∙ length-append (spelling token) (drop len (drop (from + k) content)) in
      let spelled : length (spelling token) ≡ len = omega (arith, small, rest, whole) in
      let long = spelling_some (drop (from + k) content) token (drop len (drop (from + k) content)) b in
      let further : drop len (drop (from + k) content) ≡ drop (from + k + len) content = drop-drop len (from + k) content in
      let starts = subst (λ c. Begins c token (drop len (drop (from + k) content))) (sym tail_is) b in (
        omega (arith, small, left, spelled, long),
        omega (arith, spelled),
        record {
          gap = run is_space (drop from content);
          blank = passed_spaces (run is_space (drop from content)) (run_passes is_space (drop from content));
          at = omega (arith, gap_length);
          begins = (behind is_space (drop from content), split, subst (λ r. Begins (behind is_space (drop from content)) token r) further starts);
        },
      )

  pub no_piece_found : (from + k ≡ length content → ⊥) → ((token : Token) → (rest : List ℕ) → Begins (drop (from + k) content) token rest → ⊥) → IsNoToken from (drop from content) (from + k)
  no_piece_found more none =
      let left = length-drop from content in
      let first = nonempty (behind is_space (drop from content)) (λ e. more (let long = ap length tail_is ∙ length-drop (from + k) content in let none_left = ap length e in
      let some : k ≤ length (drop from content) = omega (arith, ap length split, length-append (run is_space (drop from content)) (behind is_space (drop from content)), gap_length) in
      omega (arith, long, none_left, left, some, within))) (behind_ends is_space (drop from content)) in
      record {
        gap = run is_space (drop from content);
        blank = passed_spaces (run is_space (drop from content)) (run_passes is_space (drop from content));
        at = omega (arith, gap_length);
        wrong = (
          first.0,
          first.1,
          split ∙ ap (λ x. run is_space (drop from content) ++ x) first.2,
          first.3,
          λ token rest b. none token rest (subst (λ c. Begins c token rest) (sym first.2 ∙ tail_is) b),
        );
      }
    where
      nonempty : (tail : List ℕ) → (tail ≡ [] → ⊥) → begins_with is_space tail ≡ false → (b : ℕ) × (rest : List ℕ) × (tail ≡ b ∷ rest) × (b ≢ space)
      nonempty [] some e = absurd (some refl)
      nonempty (b ∷ rest) some e = (b, rest, refl, λ s. true≢false (sym (eq-eqb b 32 s) ∙ e))

-- a piece that was found ends behind where the search began
pub found_further : (place : ℕ) (content : List ℕ) (p : Piece) (rest : List ℕ) → Leads place content p rest → place < end_of p
found_further place content p rest l =
    let some = spelling_some (behind is_space content) p.token rest (leads_begins place content p rest l) in
    omega (arith, some, l.at)
