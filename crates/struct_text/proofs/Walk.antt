-- The walk over loose texts, and its steps one by one.
use Rattle.std.proofs.Common.{◌≡◌, ◌⊎◌, ℕ, Bool, true, false, cond, ◌==◌, List, [], ◌∷◌, ◌++◌, refl, sym, ◌∙◌, ap, inl, inr, append_assoc, append-nil, eqb-true, IsTrue, subst}
use Rattle.std.specs.List.{list_all}
use Rattle.std.proofs.lemmas.Bool.{and_parts, or_left, or_right}
use Rattle.mk_value.specs.Names.{is_name_byte}
use Rattle.struct_text.specs.Bytes.{open_bracket, close_bracket, colon, comma, is_name_start, is_plain_letter, is_floating_letter}
pub use Rattle.struct_text.specs.Walk.{Brackets, State, name_start, in_name, kind, after, stuck, named, behind_colon, is_letter, step, walk, start}
use Rattle.struct_text.specs.Grammar.{IsWord, IsLooseKind, letter, bracketed, AreLooseProperties, joined, AreListed, none, more}

pub walk-append : (s : State) (u v : List ℕ) → walk s (u ++ v) ≡ walk (walk s u) v
walk-append s [] v = refl
walk-append s (b ∷ u) v = walk-append (step s b) u v

pub walk-stuck : (u : List ℕ) → walk stuck u ≡ stuck
walk-stuck [] = refl
walk-stuck (b ∷ u) = walk-stuck u

-- The steps, one by one.
pub data Steps : State → ℕ → State → Type 0 where
  begins : (brackets : Brackets) (b : ℕ) → is_name_start b ≡ true → Steps (name_start brackets) b (in_name (b ∷ []) brackets)
  goes_on : (name : List ℕ) (brackets : Brackets) (b : ℕ) → is_name_byte b ≡ true → Steps (in_name name brackets) b (in_name (name ++ b ∷ []) brackets)
  opens : (name : List ℕ) (brackets : Brackets) → Steps (in_name name brackets) open_bracket (name_start ([] ∷ named name brackets))
  has_kind : (name : List ℕ) (names : List (List ℕ)) (outer : Brackets) → Steps (in_name name (names ∷ outer)) colon (kind ((names ++ name ∷ []) ∷ outer))
  has_letter : (brackets : Brackets) (b : ℕ) → is_letter b ≡ true → Steps (kind brackets) b (after brackets)
  next : (names : List (List ℕ)) (outer : Brackets) → Steps (after (names ∷ outer)) comma (name_start (names ∷ outer))
  closes : (names : List (List ℕ)) (outer : Brackets) → Steps (after (names ∷ outer)) close_bracket (after outer)

abbrev Seen : State → ℕ → State → Type 0
Seen s b t = (t ≡ stuck) ⊎ Steps s b t

at_byte : (s : State) (t : State) (b c : ℕ) → b ≡ c → Steps s c t → Steps s b t
at_byte s t b c e h = let P : ℕ → Type 0 = λ x. Steps s x t in subst P (sym e) h

seen_start : (brackets : Brackets) (b : ℕ) (t : Bool) → is_name_start b ≡ t → Seen (name_start brackets) b (cond t (in_name (b ∷ []) brackets) stuck)
seen_start brackets b true e = inr (begins brackets b e)
seen_start brackets b false e = inl refl

seen_colon : (name : List ℕ) (brackets : Brackets) (b : ℕ) (t : Bool) → (b == colon) ≡ t → Seen (in_name name brackets) b (cond t (behind_colon name brackets) stuck)
seen_colon name [] b true e = inl refl
seen_colon name (names ∷ outer) b true e = inr (at_byte _ _ b colon (eqb-true b colon e) (has_kind name names outer))
seen_colon name brackets b false e = inl refl

seen_open : (name : List ℕ) (brackets : Brackets) (b : ℕ) (t : Bool) → (b == open_bracket) ≡ t
    → Seen (in_name name brackets) b (cond t (name_start ([] ∷ named name brackets)) (cond (b == colon) (behind_colon name brackets) stuck))
seen_open name brackets b true e = inr (at_byte _ _ b open_bracket (eqb-true b open_bracket e) (opens name brackets))
seen_open name brackets b false e = seen_colon name brackets b (b == colon) refl

seen_name : (name : List ℕ) (brackets : Brackets) (b : ℕ) (t : Bool) → is_name_byte b ≡ t
    → Seen (in_name name brackets) b (cond t (in_name (name ++ b ∷ []) brackets) (cond (b == open_bracket) (name_start ([] ∷ named name brackets)) (cond (b == colon) (behind_colon name brackets) stuck)))
seen_name name brackets b true e = inr (goes_on name brackets b e)
seen_name name brackets b false e = seen_open name brackets b (b == open_bracket) refl

seen_kind : (brackets : Brackets) (b : ℕ) (t : Bool) → is_letter b ≡ t → Seen (kind brackets) b (cond t (after brackets) stuck)
seen_kind brackets b true e = inr (has_letter brackets b e)
seen_kind brackets b false e = inl refl

seen_close : (names : List (List ℕ)) (outer : Brackets) (b : ℕ) (t : Bool) → (b == close_bracket) ≡ t → Seen (after (names ∷ outer)) b (cond t (after outer) stuck)
seen_close names outer b true e = inr (at_byte _ _ b close_bracket (eqb-true b close_bracket e) (closes names outer))
seen_close names outer b false e = inl refl

seen_comma : (names : List (List ℕ)) (outer : Brackets) (b : ℕ) (t : Bool) → (b == comma) ≡ t
    → Seen (after (names ∷ outer)) b (cond t (name_start (names ∷ outer)) (cond (b == close_bracket) (after outer) stuck))
seen_comma names outer b true e = inr (at_byte _ _ b comma (eqb-true b comma e) (next names outer))
seen_comma names outer b false e = seen_close names outer b (b == close_bracket) refl

-- a byte leads nowhere, or by one of the steps
pub seen : (s : State) (b : ℕ) → (step s b ≡ stuck) ⊎ Steps s b (step s b)
seen (name_start brackets) b = seen_start brackets b (is_name_start b) refl
seen (in_name name brackets) b = seen_name name brackets b (is_name_byte b) refl
seen (kind brackets) b = seen_kind brackets b (is_letter b) refl
seen (after []) b = inl refl
seen (after (names ∷ outer)) b = seen_comma names outer b (b == comma) refl
seen stuck b = inl refl

-- Over the bytes of a name.
pub name_byte : (name : List ℕ) (brackets : Brackets) (b : ℕ) → is_name_byte b ≡ true → step (in_name name brackets) b ≡ in_name (name ++ b ∷ []) brackets
name_byte name brackets b e =
    ap (λ t. cond t (in_name (name ++ b ∷ []) brackets) (cond (b == open_bracket) (name_start ([] ∷ named name brackets)) (cond (b == colon) (behind_colon name brackets) stuck))) e

pub walk-name_bytes : (bytes name : List ℕ) (brackets : Brackets) → list_all is_name_byte bytes ≡ true → walk (in_name name brackets) bytes ≡ in_name (name ++ bytes) brackets
walk-name_bytes [] name brackets h = ap (λ n. in_name n brackets) (sym (append-nil name))
walk-name_bytes (b ∷ bytes) name brackets h =
    let parts = and_parts (is_name_byte b) (list_all is_name_byte bytes) h in
    ap (λ s. walk s bytes) (name_byte name brackets b parts.0)
    ∙ walk-name_bytes bytes (name ++ b ∷ []) brackets parts.1
    ∙ ap (λ n. in_name n brackets) (append_assoc name (b ∷ []) bytes)

pub walk-word : (word : List ℕ) (brackets : Brackets) → IsWord word → walk (name_start brackets) word ≡ in_name word brackets
walk-word [] brackets h = absurd h
walk-word (b ∷ bytes) brackets h =
    ap (λ t. walk (cond t (in_name (b ∷ []) brackets) stuck) bytes) h.0
    ∙ walk-name_bytes bytes (b ∷ []) brackets h.1

-- Over what the grammar makes.
letter-is : (k : ℕ) → IsTrue (is_plain_letter k) ⊎ IsTrue (is_floating_letter k) → is_letter k ≡ true
letter-is k (inl h) = or_left (is_plain_letter k) (is_floating_letter k) h
letter-is k (inr h) = or_right (is_plain_letter k) (is_floating_letter k) h

mutual
  pub walk-kind : {bytes : List ℕ} → IsLooseKind bytes → (name : List ℕ) (names : List (List ℕ)) (outer : Brackets)
      → walk (in_name name (names ∷ outer)) bytes ≡ after ((names ++ name ∷ []) ∷ outer)
  walk-kind (letter k h) name names outer = ap (λ t. cond t (after ((names ++ name ∷ []) ∷ outer)) stuck) (letter-is k h)
  walk-kind (bracketed properties h) name names outer = walk-bracketed h ((names ++ name ∷ []) ∷ outer)

  pub walk-bracketed : {bytes : List ℕ} → AreLooseProperties bytes → (outer : Brackets) → walk (name_start ([] ∷ outer)) (bytes ++ close_bracket ∷ []) ≡ after outer
  walk-bracketed (joined names front name bytes listed word loose) outer =
      walk-append (name_start ([] ∷ outer)) (front ++ (name ++ bytes)) (close_bracket ∷ [])
      ∙ ap (λ s. step s close_bracket) (walk-append (name_start ([] ∷ outer)) front (name ++ bytes)
      ∙ ap (λ s. walk s (name ++ bytes)) (walk-listed listed [] outer)
      ∙ walk-append (name_start (names ∷ outer)) name bytes
      ∙ ap (λ s. walk s bytes) (walk-word name (names ∷ outer) word)
      ∙ walk-kind loose name names outer)

  pub walk-listed : {names : List (List ℕ)} {bytes : List ℕ} → AreListed names bytes → (before : List (List ℕ)) (outer : Brackets)
      → walk (name_start (before ∷ outer)) bytes ≡ name_start ((before ++ names) ∷ outer)
  walk-listed none before outer = ap (λ ns. name_start (ns ∷ outer)) (sym (append-nil before))
  walk-listed (more names front name bytes listed word loose) before outer =
      walk-append (name_start (before ∷ outer)) front (name ++ (bytes ++ comma ∷ []))
      ∙ ap (λ s. walk s (name ++ (bytes ++ comma ∷ []))) (walk-listed listed before outer)
      ∙ walk-append (name_start ((before ++ names) ∷ outer)) name (bytes ++ comma ∷ [])
      ∙ ap (λ s. walk s (bytes ++ comma ∷ [])) (walk-word name ((before ++ names) ∷ outer) word)
      ∙ walk-append (in_name name ((before ++ names) ∷ outer)) bytes (comma ∷ [])
      ∙ ap (λ s. step s comma) (walk-kind loose name (before ++ names) outer)
      ∙ ap (λ ns. name_start (ns ∷ outer)) (append_assoc before names (name ∷ []))
