-- Reading a note.
use Rattle.std.proofs.Common.{◌≡◌, ◌⊎◌, inl, inr, ℕ, suc, ◌<◌, nat_lt, Bool, true, false, List, [], ◌∷◌, length, drop, refl, sym, ap, subst, ◌∙◌, arith, if◌then◌else◌}
use borrow.Author.Tests.{lt-ltb, ltb-true}
use Rattle.mk_value.specs.Tokens.{Token, word, number, text, bytes, sign}
use Rattle.tokens.specs.Meanings.{token_of}
use Rattle.tokens.specs.declared.token.Piece.{Piece}
use Rattle.expr_text.specs.Readers.{Fails, Meets}
use Rattle.expr_text.specs.Walk.{a_text, is_held, moved, push, wrong}
use Rattle.expr_text.specs.declared.error.ExprError.TheVariants.{Syntax}
use Rattle.expr_text.proofs.Held.{held_text, text_held}
use Rattle.expr_text.proofs.Running.{first_becomes, first_fails, from_place, rest_at}
use Rattle.expr_text.proofs.UpToEnd.{end_run}
use Rattle.cmd_text.specs.Notes.{IsNote, max_note}

pub no_note_meets : (all : List Piece) (end : ℕ) → all ≡ [] → Meets (a_text max_note ∷ []) (rest_at end all) (rest_at end all)
no_note_meets all end none = subst (λ ps. Meets (a_text max_note ∷ []) (rest_at end ps) (rest_at end ps)) (sym none) (record { same = λ others. end_run end (a_text max_note ∷ others) others refl })

short_moves : (content : List ℕ) → IsNote content → (follows : Bool) → moved (a_text max_note) (text content) follows ≡ push []
short_moves content noted follows = ap (λ b. if b then push [] else wrong) (lt-ltb (length content) (suc max_note) (omega (arith, noted.short)))

pub note_meets : (all : List Piece) (p : Piece) (end : ℕ) (content : List ℕ) → all ≡ p ∷ drop 1 all → token_of p.token ≡ text content → IsNote content → Meets (a_text max_note ∷ []) (rest_at end all) (rest_at end (from_place 1 all))
note_meets all p end content e is noted =
    first_becomes all p end (a_text max_note) [] e (ap is_held is ∙ held_text content noted.text) (λ follows. ap (λ t. moved (a_text max_note) t follows) is ∙ short_moves content noted follows)

no_note : (t : Token) → ((content : List ℕ) → IsNote content → t ≡ text content → ⊥) → (is_held t ≡ false) ⊎ ((follows : Bool) → moved (a_text max_note) t follows ≡ wrong)
no_note (word letters) none = inr (λ follows. refl)
no_note (number z) none = inr (λ follows. refl)
no_note (bytes content) none = inr (λ follows. refl)
no_note (sign s) none = inr (λ follows. refl)
no_note (text content) none = chosen (is_held (text content)) refl
  where
    long : (b : Bool) → nat_lt (length content) (suc max_note) ≡ b → is_held (text content) ≡ true → (follows : Bool) → moved (a_text max_note) (text content) follows ≡ wrong
    long true short held follows =
        let less : length content < suc max_note = ltb-true (length content) (suc max_note) short in absurd (none content (record { text = text_held content held; short = omega (arith, less) }) refl)
    long false short held follows = ap (λ b. if b then push [] else wrong) short

    chosen : (b : Bool) → is_held (text content) ≡ b → (is_held (text content) ≡ false) ⊎ ((follows : Bool) → moved (a_text max_note) (text content) follows ≡ wrong)
    chosen false e = inl e
    chosen true e = inr (long (nat_lt (length content) (suc max_note)) refl e)

pub note_fails : (all : List Piece) (p : Piece) (end : ℕ) → all ≡ p ∷ drop 1 all → ((content : List ℕ) → IsNote content → token_of p.token ≡ text content → ⊥) → Fails (a_text max_note ∷ []) (rest_at end all) (Syntax p.place)
note_fails all p end e none = first_fails all p end (a_text max_note) e (no_note (token_of p.token) none)
