-- Items joined by commas up to a sign that closes them: where reading them stops, and what was read so far.
use Rattle.std.proofs.Common.{◌≡◌, ◌⊎◌, ℕ, ◌+◌, ◌≤◌, ◌==◌, false, List, [], ◌∷◌, ◌++◌, length, take, drop, refl, ap, sym, subst, ◌∙◌, append_assoc, append-nil, arith, length-append, inl, inr, ⊎_elim}
use Rattle.std.proofs.lemmas.List.{length-drop}
use Rattle.std.proofs.lemmas.List.Concat.{flat_map-append}
use Rattle.std.proofs.lemmas.List.Elements.{All-nil, All-push}
use Rattle.std.specs.List.{All, flat_map}
use Rattle.mk_value.specs.Tokens.{Token, sign}
use Rattle.tokens.specs.Fronts.{Language, IsFront, Stops}
use Rattle.tokens.specs.Parts.{StopsAt}
use Rattle.tokens.specs.Standing.{Stands}
use Rattle.tokens.specs.declared.error.PartError.{PartError}
use Rattle.tokens.specs.declared.error.PartError.TheVariants.{Memory, Stuck}
use Rattle.tokens.proofs.Routes.{stands_next}
use Rattle.tokens.proofs.Stopping.{After, PrefixFree, Then, stops_after, stops_same, stops_then}
use Rattle.tokens.proofs.Unambiguous.{no_match}

pub nil_cons : (t : Token) (xs : List Token) → [] ≡ t ∷ xs → ⊥
nil_cons t xs e = cc

pub same_head : (t u : Token) (xs ys : List Token) → t ∷ xs ≡ u ∷ ys → t ≡ u
same_head t u xs ys e = cc

-- a token that stands at a place is within
pub stands_within : (tokens : List Token) (at : ℕ) (t : Token) → Stands tokens at t → at + 1 ≤ length tokens
stands_within tokens at t s = let long = ap length s in omega (arith, long, length-drop at tokens, length-drop (at + 1) tokens)

module _ (Item More Many : Language) (close : ℕ)
    (free : PrefixFree Item)
    (joins : (a b : List Token) → Item a → More b → Many (a ++ b))
    (parts : (x : List Token) → Many x → Then Item More x)
    (ends : More (sign close ∷ []))
    (further : (x : List Token) → Many x → More (sign 44 ∷ x))
    (cases : (x : List Token) → More x → (x ≡ sign close ∷ []) ⊎ ((y : List Token) × (x ≡ sign 44 ∷ y) × Many y))
    (differs : (44 == close) ≡ false) where
  -- inside an item
  pub item_stops : (tokens : List Token) (k : ℕ) → Stops Item tokens k → Stops Many tokens k
  item_stops tokens k s =
      stops_same (Then Item More) Many tokens k (λ x t. subst Many (sym t.4) (joins t.0 t.1 t.2 t.3)) parts
      (stops_then Item More tokens k free s (sign close ∷ []) ends)

  -- behind an item and a comma
  pub comma_stops : (w x : List Token) (k : ℕ) → Item w → Stops Many x k → Stops Many (w ++ (sign 44 ∷ x)) (length w + 1 + k)
  comma_stops w x k item s =
      let lifted = stops_after Many (w ++ sign 44 ∷ []) x k (stops_same Many (After Many (w ++ sign 44 ∷ [])) x k to from s) in
      subst (λ n. Stops Many (w ++ (sign 44 ∷ x)) n) (ap (λ n. n + k) (length-append w (sign 44 ∷ [])))
      (subst (λ y. Stops Many y (length (w ++ sign 44 ∷ []) + k)) (append_assoc w (sign 44 ∷ []) x) lifted)
    where
      to : (y : List Token) → Many y → Many ((w ++ sign 44 ∷ []) ++ y)
      to y m = subst Many (sym (append_assoc w (sign 44 ∷ []) y)) (joins w (sign 44 ∷ y) item (further y m))

      from_cases : (y b : List Token) → sign 44 ∷ y ≡ b → (b ≡ sign close ∷ []) ⊎ ((z : List Token) × (b ≡ sign 44 ∷ z) × Many z) → Many y
      from_cases y b e h = ⊎_elim
          (λ c. absurd (no_match 44 close y [] differs (e ∙ c)))
          (λ g. subst Many (sym (ap (drop 1) (e ∙ g.1))) g.2)
          h

      from : (y : List Token) → Many ((w ++ sign 44 ∷ []) ++ y) → Many y
      from y m =
          let p = parts ((w ++ sign 44 ∷ []) ++ y) m in
          let both = free w p.0 (sign 44 ∷ y) p.1 item p.2 (sym (append_assoc w (sign 44 ∷ []) y) ∙ p.4) in
          from_cases y p.1 both.1 (cases p.1 p.3)

  -- behind an item that neither a comma nor the closing sign follows
  pub separator_stops : (w x : List Token) → Item w → ((rest : List Token) → x ≡ sign close ∷ rest → ⊥) → ((rest : List Token) → x ≡ sign 44 ∷ rest → ⊥) → Stops Many (w ++ x) (length w + 0)
  separator_stops w x item no_close no_comma = stops_after Many w x 0 (record {
    within = omega arith;
    goes_on = (sign close ∷ [], joins w (sign close ∷ []) item ends);
    unfinished = λ m.
        let p = parts (w ++ []) m in
        let both = free w p.0 [] p.1 item p.2 p.4 in
        nothing p.1 both.1 (cases p.1 p.3);
    wrong = wrong x no_close no_comma;
  })
    where
      nothing : (b : List Token) → [] ≡ b → (b ≡ sign close ∷ []) ⊎ ((z : List Token) × (b ≡ sign 44 ∷ z) × Many z) → ⊥
      nothing b e h = ⊎_elim (λ c. nil_cons (sign close) [] (e ∙ c)) (λ g. nil_cons (sign 44) g.0 (e ∙ g.1)) h

      next : (t : Token) (rest more b : List Token) → ((r : List Token) → t ∷ rest ≡ sign close ∷ r → ⊥) → ((r : List Token) → t ∷ rest ≡ sign 44 ∷ r → ⊥) → t ∷ more ≡ b
          → (b ≡ sign close ∷ []) ⊎ ((z : List Token) × (b ≡ sign 44 ∷ z) × Many z) → ⊥
      next t rest more b no_close no_comma e h = ⊎_elim
          (λ c. no_close rest (ap (λ u. u ∷ rest) (same_head t (sign close) more [] (e ∙ c))))
          (λ g. no_comma rest (ap (λ u. u ∷ rest) (same_head t (sign 44) more g.0 (e ∙ g.1))))
          h

      wrong : (x : List Token) → ((rest : List Token) → x ≡ sign close ∷ rest → ⊥) → ((rest : List Token) → x ≡ sign 44 ∷ rest → ⊥) → (0 ≡ length x) ⊎ (IsFront (After Many w) (take 1 x) → ⊥)
      wrong [] no_close no_comma = inl refl
      wrong (t ∷ rest) no_close no_comma = inr (λ goes.
          let p = parts (w ++ t ∷ goes.0) goes.1 in
          let both = free w p.0 (t ∷ goes.0) p.1 item p.2 p.4 in
          next t rest goes.0 p.1 no_close no_comma both.1 (cases p.1 p.3))

-- an item with a comma behind it
abbrev pub with_comma : {X : Type 0} → (X → List Token) → X → List Token
with_comma spell x = spell x ++ sign 44 ∷ []

-- items that were read so far, each with a comma behind it
module _ {X : Type 0} (spell : X → List Token) (Good : X → Type 0) (Many : Language) where
  pub record SoFar (tokens : List Token) (start : ℕ) (items : List X) (at : ℕ) : Type 0 where
    pub within : at ≤ length tokens
    pub good : All Good items
    pub read : drop start tokens ≡ flat_map (with_comma spell) items ++ drop at tokens
    pub back : (k : ℕ) → Stops Many (drop at tokens) k → (n : ℕ) × (at + k ≡ start + n) × Stops Many (drop start tokens) n

  -- an item that was read from a place up to another
  pub record ReadsItem (tokens : List Token) (at : ℕ) (x : X) (end : ℕ) : Type 0 where
    pub within : end ≤ length tokens
    pub good : Good x
    pub is : drop at tokens ≡ spell x ++ drop end tokens

  pub so_far_start : (tokens : List Token) (start : ℕ) → start ≤ length tokens → SoFar tokens start [] start
  so_far_start tokens start within = record {
    within = within;
    good = All-nil Good;
    read = refl;
    back = λ k s. (k, refl, s);
  }

  pub item_end : (tokens : List Token) (at end : ℕ) (x : X) → at ≤ length tokens → ReadsItem tokens at x end → end ≡ at + length (spell x)
  item_end tokens at end x within r =
      let long = ap length r.is ∙ length-append (spell x) (drop end tokens) in
      omega (arith, long, within, r.within, length-drop at tokens, length-drop end tokens)

  module _ (Item : Language) (holds : (x : X) → Good x → Item (spell x))
      (comma : (w x : List Token) (k : ℕ) → Item w → Stops Many x k → Stops Many (w ++ (sign 44 ∷ x)) (length w + 1 + k)) where
    pub so_far_next : (tokens : List Token) (start : ℕ) (items : List X) (at : ℕ) (x : X) (end : ℕ) → SoFar tokens start items at → ReadsItem tokens at x end → Stands tokens end (sign 44)
        → SoFar tokens start (items ++ x ∷ []) (end + 1)
    so_far_next tokens start items at x end f r s =
        let whole : drop at tokens ≡ spell x ++ (sign 44 ∷ drop (end + 1) tokens) = r.is ∙ ap (λ y. spell x ++ y) s in
        let ended = item_end tokens at end x f.within r in
        record {
          within = stands_within tokens end (sign 44) s;
          good = All-push Good items x f.good r.good;
          read = f.read ∙ ap (λ y. flat_map (with_comma spell) items ++ y) (whole ∙ sym (append_assoc (spell x) (sign 44 ∷ []) (drop (end + 1) tokens)))
              ∙ sym (append_assoc (flat_map (with_comma spell) items) (with_comma spell x) (drop (end + 1) tokens))
              ∙ ap (λ y. (flat_map (with_comma spell) items ++ y) ++ drop (end + 1) tokens) (sym (append-nil (with_comma spell x)))
              ∙ ap (λ y. y ++ drop (end + 1) tokens) (sym (flat_map-append (with_comma spell) items (x ∷ [])));
          back = λ k stop.
              let here = f.back (length (spell x) + 1 + k) (subst (λ y. Stops Many y (length (spell x) + 1 + k)) (sym whole) (comma (spell x) (drop (end + 1) tokens) k (holds x r.good) stop)) in
              (here.0, (let e = here.1 in omega (arith, e, ended)), here.2);
        }

    pub so_far_separator : (tokens : List Token) (start : ℕ) (items : List X) (at : ℕ) (x : X) (end close : ℕ)
        → (separator : (w x : List Token) → Item w → ((rest : List Token) → x ≡ sign close ∷ rest → ⊥) → ((rest : List Token) → x ≡ sign 44 ∷ rest → ⊥) → Stops Many (w ++ x) (length w + 0))
        → (Stands tokens end (sign close) → ⊥) → SoFar tokens start items at → ReadsItem tokens at x end → (Stands tokens end (sign 44) → ⊥)
        → StopsAt Many tokens start (Stuck end)
    so_far_separator tokens start items at x end close separator no_close f r no_comma =
        let ended = item_end tokens at end x f.within r in
        let stop = separator (spell x) (drop end tokens) (holds x r.good) (λ rest e. no_close (stands_next tokens end (sign close) rest e)) (λ rest e. no_comma (stands_next tokens end (sign 44) rest e)) in
        let here = f.back (length (spell x) + 0) (subst (λ y. Stops Many y (length (spell x) + 0)) (sym r.is) stop) in
        (here.0, (let e = here.1 in omega (arith, e, ended)), here.2)

  pub so_far_item : (Item : Language) → ((tokens : List Token) (k : ℕ) → Stops Item tokens k → Stops Many tokens k)
      → (tokens : List Token) (start : ℕ) (items : List X) (at : ℕ) (error : PartError) → SoFar tokens start items at → StopsAt Item tokens at error → StopsAt Many tokens start error
  so_far_item Item inside tokens start items at (Stuck place) f s =
      let here = f.back s.0 (inside (drop at tokens) s.0 s.2) in
      (here.0, s.1 ∙ here.1, here.2)
  so_far_item Item inside tokens start items at Memory f s = tt

  -- what was read in all, up to a sign that closes it
  pub so_far_close : (tokens : List Token) (start : ℕ) (items : List X) (at : ℕ) (x : X) (end close : ℕ) → SoFar tokens start items at → ReadsItem tokens at x end → Stands tokens end (sign close)
      → (end + 1 ≤ length tokens) × All Good (items ++ x ∷ []) × (drop start tokens ≡ flat_map (with_comma spell) items ++ (spell x ++ (sign close ∷ drop (end + 1) tokens)))
  so_far_close tokens start items at x end close f r s = (
    stands_within tokens end (sign close) s,
    All-push Good items x f.good r.good,
    f.read ∙ ap (λ y. flat_map (with_comma spell) items ++ y) (r.is ∙ ap (λ y. spell x ++ y) s),
  )
