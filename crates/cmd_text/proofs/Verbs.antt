-- The words of commands: each is the word of one.
use Rattle.std.proofs.Common.{◌≡◌, ◌∷◌, ℕ, Bool, true, false, List, [], Option, Some, None, refl, sym, ap, ◌∙◌, if◌then◌else◌}
use Rattle.std.proofs.lemmas.Slice.Eq.{bytes_eq-Decides}
use Rattle.std.specs.Str.{bytes_eq}
use Rattle.mk_value.specs.Tokens.{Token, word, number, text, bytes, sign}
use Rattle.expr_text.specs.Walk.{is_held}
use Rattle.cmd_text.specs.Grammar.{keyword}
use Rattle.cmd_text.specs.Readers.{if_known, named_in, verb_named, verb_of, verbs}
use Rattle.cmd_text.specs.Words.{is_known, word_of}
use Rattle.cmd_text.specs.declared.verb.Verb.{Verb}
use Rattle.cmd_text.specs.declared.verb.Verb.TheVariants.{Drop, Struct, Add, Insert, Set, Remove, Size, Show, Find, Search, Locate, Dup, Undup, Watch, Unwatch, Hash, Ordered, Unmap, Cursor, Uncursor, Next, Prev, Row, Commit, Log, Rollback, Reopen, Revert, Space, Quit}

word_named : (verb : Verb) → named_in verbs (word_of verb) ≡ Some verb
word_named Drop = refl
word_named Struct = refl
word_named Add = refl
word_named Insert = refl
word_named Set = refl
word_named Remove = refl
word_named Size = refl
word_named Show = refl
word_named Find = refl
word_named Search = refl
word_named Locate = refl
word_named Dup = refl
word_named Undup = refl
word_named Watch = refl
word_named Unwatch = refl
word_named Hash = refl
word_named Ordered = refl
word_named Unmap = refl
word_named Cursor = refl
word_named Uncursor = refl
word_named Next = refl
word_named Prev = refl
word_named Row = refl
word_named Commit = refl
word_named Log = refl
word_named Rollback = refl
word_named Reopen = refl
word_named Revert = refl
word_named Space = refl
word_named Quit = refl

pub same_verb : (one two : Verb) → word_of one ≡ word_of two → one ≡ two
same_verb one two e = let f : Some one ≡ Some two = sym (word_named one) ∙ ap (λ letters. named_in verbs letters) e ∙ word_named two in cc

pub known_named : (verb : Verb) → is_known verb ≡ true → verb_named (word_of verb) ≡ Some verb
unfolding verb_named
known_named verb known = ap if_known (word_named verb) ∙ ap (λ b. if b then Some verb else None) known

named_word : (vs : List Verb) (letters : List ℕ) (verb : Verb) → named_in vs letters ≡ Some verb → letters ≡ word_of verb
named_word [] letters verb e = cc
named_word (v ∷ vs) letters verb e = chosen (named_word vs letters verb) (bytes_eq letters (word_of v)) refl e
  where
    chosen : (named_in vs letters ≡ Some verb → letters ≡ word_of verb) → (b : Bool) → bytes_eq letters (word_of v) ≡ b → (if b then Some v else named_in vs letters) ≡ Some verb → letters ≡ word_of verb
    chosen others true same is = let f : v ≡ verb = cc in (bytes_eq-Decides letters (word_of v)).0 same ∙ ap word_of f
    chosen others false same is = others is

-- a token that begins a command is its word
pub record Begins (t : Token) (verb : Verb) : Type 0 where
  pub known : is_known verb ≡ true
  pub is : t ≡ keyword (word_of verb)

known_word : (letters : List ℕ) (found : Option Verb) (verb : Verb) → named_in verbs letters ≡ found → if_known found ≡ Some verb → Begins (word letters) verb
known_word letters None verb named e = absurd (cc)
known_word letters (Some other) verb named e = chosen (is_known other) refl e
  where
    chosen : (b : Bool) → is_known other ≡ b → (if b then Some other else None) ≡ Some verb → Begins (word letters) verb
    chosen true known is = let f : other ≡ verb = cc in record { known = ap is_known (sym f) ∙ known; is = ap word (named_word verbs letters other named ∙ ap word_of f) }
    chosen false known is = absurd (cc)

pub verb_begins : (t : Token) (verb : Verb) → verb_of t ≡ Some verb → Begins t verb
unfolding verb_named
verb_begins (word letters) verb e = known_word letters (named_in verbs letters) verb refl e
verb_begins (number z) verb e = absurd (cc)
verb_begins (text content) verb e = absurd (cc)
verb_begins (bytes content) verb e = absurd (cc)
verb_begins (sign c) verb e = absurd (cc)

pub begins_verb : (t : Token) (verb : Verb) → Begins t verb → verb_of t ≡ Some verb
begins_verb t verb b = ap verb_of b.is ∙ known_named verb b.known

pub no_verb : (t : Token) → ((verb : Verb) → Begins t verb → ⊥) → verb_of t ≡ None
no_verb t none = chosen (verb_of t) refl
  where
    chosen : (found : Option Verb) → verb_of t ≡ found → verb_of t ≡ None
    chosen None e = e
    chosen (Some verb) e = absurd (none verb (verb_begins t verb e))

pub verb_held : (verb : Verb) → is_held (word (word_of verb)) ≡ true
unfolding is_held
verb_held Drop = refl
verb_held Struct = refl
verb_held Add = refl
verb_held Insert = refl
verb_held Set = refl
verb_held Remove = refl
verb_held Size = refl
verb_held Show = refl
verb_held Find = refl
verb_held Search = refl
verb_held Locate = refl
verb_held Dup = refl
verb_held Undup = refl
verb_held Watch = refl
verb_held Unwatch = refl
verb_held Hash = refl
verb_held Ordered = refl
verb_held Unmap = refl
verb_held Cursor = refl
verb_held Uncursor = refl
verb_held Next = refl
verb_held Prev = refl
verb_held Row = refl
verb_held Commit = refl
verb_held Log = refl
verb_held Rollback = refl
verb_held Reopen = refl
verb_held Revert = refl
verb_held Space = refl
verb_held Quit = refl
