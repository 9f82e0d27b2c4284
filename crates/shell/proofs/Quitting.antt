-- No line that begins with a verb ends the session.
use Rattle.std.proofs.Common.{◌≡◌, ◌≢◌, ◌∙◌, ℕ, Bool, true, false, List, [], ◌∷◌, ◌++◌, codes, refl, sym, ap}
use Rattle.std.proofs.lemmas.Bool.{ne_eqb}
use Rattle.std.proofs.lemmas.List.{reverse-append, reverse-reverse}
use Rattle.std.proofs.lemmas.Slice.Eq.{bytes_eq-Decides}
use Rattle.std.specs.Prelude.{reverse, ◌&&◌}
use Rattle.std.specs.Str.{bytes_eq, is_utf8}
use Rattle.cmd_text.specs.Lines.{is_space, without_leading, without_trailing}
use Rattle.sample.specs.Lines.{BeginsWithVerb}
use Rattle.session.specs.Lines.{is_quit}
use Rattle.session.specs.Step.{machine}
use Rattle.viewers.specs.Meanings.{Meaning}
use Rattle.shell.specs.Sampled.{GoesOnAfterVerbs}

-- the spaces that a line begins with
record Leads (bytes : List ℕ) : Type 0 where
  front : List ℕ
  is : bytes ≡ front ++ without_leading bytes

leads_by : (byte : ℕ) (bytes : List ℕ) (blank : Bool) → is_space byte ≡ blank → Leads bytes → Leads (byte ∷ bytes)
leads_by byte bytes true is later = record { front = byte ∷ later.front; is = rw is (ap (λ (l : List ℕ). byte ∷ l) later.is) }
leads_by byte bytes false is later = record { front = []; is = rw is refl }

leads : (bytes : List ℕ) → Leads bytes
leads [] = record { front = []; is = refl }
leads (byte ∷ bytes) = leads_by byte bytes (is_space byte) refl (leads bytes)

-- a line without the spaces at its end is a front of it
trails : (bytes : List ℕ) → (behind : List ℕ) × (bytes ≡ without_trailing bytes ++ behind)
trails bytes =
    let back = leads (reverse bytes) in
    (reverse back.front, sym (reverse-reverse bytes) ∙ ap reverse back.is ∙ reverse-append back.front (without_leading (reverse bytes)))

-- a word that begins otherwise is not `quit`
first_of_quit : (byte : ℕ) (bytes behind : List ℕ) → byte ∷ bytes ≡ codes "quit" ++ behind → byte ≡ 113
first_of_quit byte bytes behind is = cc

no_quit : (byte : ℕ) (bytes word : List ℕ) → word ≡ byte ∷ bytes → byte ≢ 113 → without_trailing word ≡ codes "quit" → ⊥
no_quit byte bytes word is other quit =
    let end = trails word in
    other (first_of_quit byte bytes end.0 (sym is ∙ end.1 ∙ ap (λ (l : List ℕ). l ++ end.0) quit))

leading_verb : (byte : ℕ) (bytes : List ℕ) → byte ≢ 32 → without_leading (byte ∷ bytes) ≡ byte ∷ bytes
leading_verb byte bytes unblank = rw (ne_eqb byte 32 unblank) refl

not_quit : (byte : ℕ) (bytes : List ℕ) → byte ≢ 32 → byte ≢ 113 → bytes_eq (without_trailing (without_leading (byte ∷ bytes))) (codes "quit") ≡ false
not_quit byte bytes unblank other =
    go (bytes_eq (without_trailing (without_leading (byte ∷ bytes))) (codes "quit")) refl
  where
    go : (same : Bool) → bytes_eq (without_trailing (without_leading (byte ∷ bytes))) (codes "quit") ≡ same → bytes_eq (without_trailing (without_leading (byte ∷ bytes))) (codes "quit") ≡ false
    go false is = is
    go true is =
        let word = without_leading (byte ∷ bytes) in
        absurd (no_quit byte bytes word (leading_verb byte bytes unblank) other ((bytes_eq-Decides (without_trailing word) (codes "quit")).0 is))

and_false : (a b : Bool) → b ≡ false → a && b ≡ false
and_false true b is = is
and_false false b is = refl

verb_goes_on : (line : List ℕ) → BeginsWithVerb line → is_quit line ≡ false
verb_goes_on [] begins = absurd begins
verb_goes_on (byte ∷ bytes) begins = and_false (is_utf8 (byte ∷ bytes)) _ (not_quit byte bytes begins.0 begins.1)

pub goes_on_after_verbs : (viewers : List Meaning) → GoesOnAfterVerbs (machine viewers)
goes_on_after_verbs viewers = record { goes_on = λ line begins. verb_goes_on line begins }
