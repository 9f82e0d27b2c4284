-- Lines of one word at most: what their pieces are.
use Rattle.std.proofs.Common.{◌≡◌, ◌⊎◌, inl, inr, ℕ, ◌≤◌, true, List, [], ◌∷◌, length, sym, ap, subst, ◌∙◌, true≢false, arith}
use Rattle.mk_value.specs.Tokens.{Token, word, text}
use Rattle.tokens.specs.Cutting.{Cuts, FlawFrom, inline_pieces}
use Rattle.tokens.specs.Cutting as cutting
use Rattle.tokens.specs.Fronts.{tokens_in}
use Rattle.tokens.specs.Meanings.{pieces_of, token_of}
use Rattle.tokens.specs.declared.token.Piece.{Piece}
use Rattle.tokens.proofs.Chains.{cut_once, cut_or_flawed}
use Rattle.expr_text.specs.Queries.{max_operators}
use Rattle.cmd_text.specs.Arguments as arguments
use Rattle.cmd_text.specs.Arguments.{Argument, Last, ending_of, parts_of}
use Rattle.cmd_text.specs.Grammar.{Call, SpellsArguments, SpellsCall, SpellsCommand, call, call_of, keyword, nothing, structure}
use Rattle.cmd_text.specs.Lines.{Reads, ReadsStructure, gives_structure}
use Rattle.cmd_text.specs.OneWord.{IsBareEnding, IsBareLast, IsBehindOneWord, IsOneWord, IsOneWordCall, ReadsPieces}
use Rattle.cmd_text.specs.Words as forms
use Rattle.cmd_text.specs.Words.{Ending, Form, form_of, is_known, word_of}
use Rattle.cmd_text.specs.declared.command.Command.{Command}
use Rattle.cmd_text.specs.declared.verb.Verb.{Verb}
use Rattle.cmd_text.proofs.Verbs.{same_verb}

-- the tokens are the one word of a command, and what may stand behind it
record IsWord (tokens : List Token) : Type 0 where
  pub verb : Verb
  pub rest : List Token
  pub known : is_known verb ≡ true
  pub bare : IsBehindOneWord (form_of verb) rest
  pub is : tokens ≡ keyword (word_of verb) ∷ rest

bare_last : (last : Last) (rest : List Token) → IsBareLast last → SpellsArguments [] last rest → IsBareEnding (ending_of last) rest
bare_last arguments.nothing rest bare (inl e) = e
bare_last arguments.nothing rest bare (inr e) = absurd e.0
bare_last (arguments.note content) rest bare (inl e) = inr (e ∙ ap (λ letters. text letters ∷ []) bare)
bare_last (arguments.note content) rest bare (inr e) = inl e.1
bare_last (arguments.values list) rest bare spells = absurd bare
bare_last (arguments.criteria list) rest bare spells = absurd bare

no_parts : (list : List Argument) → list ≡ [] → parts_of list ≡ []
no_parts list e = ap parts_of e

one_call : (c : Call) (tokens : List Token) → IsOneWordCall c → SpellsCall max_operators c tokens → (tokens ≡ []) ⊎ IsWord tokens
one_call nothing tokens one spells = inl spells
one_call (structure letters schema) tokens one spells = absurd one
one_call (call verb list last) tokens one spells = inr (record {
  verb = verb;
  rest = spells.2.0;
  known = spells.0;
  bare = (
    sym spells.1.parts ∙ no_parts list one.0,
    subst (λ ending. IsBareEnding ending spells.2.0) spells.1.ending (bare_last last spells.2.0 one.1 (subst (λ l. SpellsArguments l last spells.2.0) one.0 spells.2.2)),
  );
  is = spells.2.1;
})

one_word : (command : Command) (tokens : List Token) → IsOneWord command → SpellsCommand tokens command → (tokens ≡ []) ⊎ IsWord tokens
one_word command tokens one spells = one_call (call_of command) tokens one spells

no_first : (t : Token) (tokens : List Token) → t ∷ tokens ≡ [] → ⊥
no_first t tokens e = cc

first_of : (t u : Token) (x y : List Token) → t ∷ x ≡ u ∷ y → t ≡ u
first_of t u x y e = cc

rest_of_it : (t u : Token) (x y : List Token) → t ∷ x ≡ u ∷ y → x ≡ y
rest_of_it t u x y e = cc

same_word : (a b : List ℕ) → word a ≡ word b → a ≡ b
same_word a b e = cc

-- of such a line the first piece is the word
word_first : (first : Piece) (rest : List Piece) (command : Command) → IsOneWord command → SpellsCommand (tokens_in (pieces_of (first ∷ rest))) command → IsWord (tokens_in (pieces_of (first ∷ rest)))
word_first first rest command one spells = elim (one_word command (tokens_in (pieces_of (first ∷ rest))) one spells) [
  | inl none ↦ absurd (no_first (token_of first.token) (tokens_in (pieces_of rest)) none)
  | inr some ↦ some
]

pub is_a_verb : (all : List Piece) (first : Piece) (rest : List Piece) (command : Command) → all ≡ first ∷ rest → ((verb : Verb) → is_known verb ≡ true → token_of first.token ≡ keyword (word_of verb) → ⊥)
    → IsOneWord command → SpellsCommand (tokens_in (pieces_of all)) command → ⊥
is_a_verb all first rest command e other one spells =
    let found = word_first first rest command one (subst (λ ps. SpellsCommand (tokens_in (pieces_of ps)) command) e spells) in
    other found.verb found.known (first_of (token_of first.token) (keyword (word_of found.verb)) (tokens_in (pieces_of rest)) found.rest found.is)

-- and behind it stands what may stand there
pub is_bare : (all : List Piece) (first : Piece) (rest : List Piece) (command : Command) (verb : Verb) → all ≡ first ∷ rest → token_of first.token ≡ keyword (word_of verb)
    → IsOneWord command → SpellsCommand (tokens_in (pieces_of all)) command → IsBehindOneWord (form_of verb) (tokens_in (pieces_of rest))
is_bare all first rest command verb e is one spells =
    let found = word_first first rest command one (subst (λ ps. SpellsCommand (tokens_in (pieces_of ps)) command) e spells) in
    let same = sym is ∙ first_of (token_of first.token) (keyword (word_of found.verb)) (tokens_in (pieces_of rest)) found.rest found.is in
    let behind = rest_of_it (token_of first.token) (keyword (word_of found.verb)) (tokens_in (pieces_of rest)) found.rest found.is in
    subst (λ v. IsBehindOneWord (form_of v) (tokens_in (pieces_of rest))) (sym (same_verb verb found.verb (same_word (word_of verb) (word_of found.verb) same)))
    (subst (IsBehindOneWord (form_of found.verb)) (sym behind) found.bare)

-- such a line has few pieces
one_more : (t : Token) (tokens : List Token) → t ∷ tokens ≡ text [] ∷ [] → tokens ≡ []
one_more t tokens e = cc

few_ending : (ending : Ending) (t u : Token) (tokens : List Token) → IsBareEnding ending (t ∷ u ∷ tokens) → ⊥
few_ending forms.no_more t u tokens h = no_first t (u ∷ tokens) h
few_ending forms.a_note t u tokens (inl h) = no_first t (u ∷ tokens) h
few_ending forms.a_note t u tokens (inr h) = no_first u tokens (one_more t (u ∷ tokens) h)
few_ending forms.some_values t u tokens h = absurd h
few_ending forms.some_criteria t u tokens h = absurd h

few_behind : (form : Form) (t u : Token) (tokens : List Token) → IsBehindOneWord form (t ∷ u ∷ tokens) → ⊥
few_behind form t u tokens h = few_ending form.ending t u tokens h.1

few_pieces : (pieces : List cutting.Piece) → (tokens_in pieces ≡ []) ⊎ IsWord (tokens_in pieces) → length pieces ≤ inline_pieces
few_pieces [] h = omega arith
few_pieces (p ∷ []) h = omega arith
few_pieces (p ∷ q ∷ []) h = omega arith
few_pieces (p ∷ q ∷ r ∷ pieces) (inl none) = absurd (no_first p.token (tokens_in (q ∷ r ∷ pieces)) none)
few_pieces (p ∷ q ∷ r ∷ pieces) (inr some) =
    let behind = rest_of_it p.token (keyword (word_of some.verb)) (tokens_in (q ∷ r ∷ pieces)) some.rest some.is in
    absurd (few_behind (form_of some.verb) q.token r.token (tokens_in pieces) (subst (IsBehindOneWord (form_of some.verb)) (sym behind) some.bare))

pub cut_in_place : (line : List ℕ) (command : Command) → IsOneWord command → ReadsPieces line command
    → (pieces : List cutting.Piece) × (Cuts line pieces × (length pieces ≤ inline_pieces))
cut_in_place line command one (pieces, (cuts, spells)) = (pieces, (cuts, few_pieces pieces (one_word command (tokens_in pieces) one spells)))

pub never_flawed : (line : List ℕ) (command : Command) (pieces : List cutting.Piece) (flaw : ℕ) → FlawFrom 0 line pieces flaw → ReadsPieces line command → ⊥
never_flawed line command pieces flaw flawed (read, (cuts, spells)) = cut_or_flawed 0 line read pieces flaw cuts flawed

pub spells_cut : (line : List ℕ) (command : Command) (pieces all : List cutting.Piece) → all ≡ pieces → Cuts line pieces → ReadsPieces line command → SpellsCommand (tokens_in all) command
spells_cut line command pieces all same cuts (read, (others, spells)) =
    subst (λ ps. SpellsCommand (tokens_in ps) command) (cut_once 0 line read pieces others cuts ∙ sym same) spells

-- it gives no structure
no_structure : (line : List ℕ) (command : Command) → IsOneWord command → ReadsStructure line command → ⊥
no_structure line command one reads = subst (λ c. IsOneWord c) reads.spells.1.1.0 one

pub one_word_other : (line : List ℕ) (command : Command) → IsOneWord command → Reads line command → gives_structure line ≡ true → ⊥
one_word_other line command one reads gives = elim reads.reads [
  | inl given ↦ no_structure line command one given
  | inr pieces ↦ true≢false (sym gives ∙ pieces.other)
]

pub one_word_pieces : (line : List ℕ) (command : Command) → IsOneWord command → Reads line command → ReadsPieces line command
one_word_pieces line command one reads = elim reads.reads [
  | inl given ↦ absurd (no_structure line command one given)
  | inr pieces ↦ (pieces.pieces, (pieces.cuts, pieces.spells))
]
