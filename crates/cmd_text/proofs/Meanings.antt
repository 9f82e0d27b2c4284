-- A line has one meaning: what reads as two commands asks for the same.
use Rattle.std.proofs.Common.{◌≡◌, ◌⊎◌, inl, inr, List, [], ◌∷◌, ℕ, sym, ap, subst, refl, ◌∙◌, true≢false}
use Rattle.mk_value.specs.Heading.{Attribute}
use Rattle.mk_value.specs.Tokens.{Token}
use Rattle.struct_text.specs.Spelling.{Spells}
use Rattle.tokens.specs.Fronts.{tokens_in}
use Rattle.tokens.proofs.Chains.{cut_once}
use Rattle.expr_text.specs.Queries.{max_operators}
use Rattle.cmd_text.specs.Grammar.{Call, SpellsArguments, SpellsCall, call, call_of, keyword, nothing, structure}
use Rattle.cmd_text.specs.Lines.{Reads, ReadsStructure, ReadsTokens, structure_text}
use Rattle.cmd_text.specs.Words.{form_of, word_of}
use Rattle.cmd_text.specs.declared.command.Command.{Command}
use Rattle.cmd_text.proofs.Commands.{one_verb}
use Rattle.cmd_text.proofs.Parting.{one_behind}

-- a structure text spells one structure
abbrev pub SpellsOnce : Type 0
SpellsOnce = (text one two : List ℕ) (ones twos : List Attribute) → Spells text one ones → Spells text two twos → (one ≡ two) × (ones ≡ twos)

one_call : (c d : Call) (tokens : List Token) → SpellsCall max_operators c tokens → SpellsCall max_operators d tokens → c ≡ d
one_call nothing nothing tokens p q = refl
one_call nothing (call other others final) tokens p q = let e : [] ≡ keyword (word_of other) ∷ q.2.0 = sym p ∙ q.2.1 in absurd (cc)
one_call (call verb list last) nothing tokens p q = let e : [] ≡ keyword (word_of verb) ∷ p.2.0 = sym q ∙ p.2.1 in absurd (cc)
one_call (call verb list last) (call other others final) tokens p q =
    let same = one_verb verb other tokens p.2.0 q.2.0 p.2.1 q.2.1 in
    let begins : keyword (word_of verb) ∷ p.2.0 ≡ keyword (word_of other) ∷ q.2.0 = sym p.2.1 ∙ q.2.1 in
    let rest : p.2.0 ≡ q.2.0 = cc in
    let behind = one_behind max_operators list others last final q.2.0 p.1.whole q.1.whole p.1.last q.1.last
    (p.1.parts ∙ ap (λ v. (form_of v).parts) same ∙ sym q.1.parts) (p.1.ending ∙ ap (λ v. (form_of v).ending) same ∙ sym q.1.ending)
    (subst (SpellsArguments list last) rest p.2.2) q.2.2 in
    ap (λ v. call v list last) same ∙ ap (λ l. call other l last) behind.0 ∙ ap (λ l. call other others l) behind.1
one_call (structure letters schema) d tokens p q = absurd p
one_call c (structure letters schema) tokens p q = absurd q

one_structure_call : SpellsOnce → (line : List ℕ) (one two : Command) → ReadsStructure line one → ReadsStructure line two → call_of one ≡ call_of two
one_structure_call once line one two a b =
    let same = once (structure_text line) a.spells.0 b.spells.0 a.spells.1.0 b.spells.1.0 a.spells.1.1.1 b.spells.1.1.1 in
    ap call_of a.spells.1.1.0 ∙ ap (λ n. structure n a.spells.1.0) same.0 ∙ ap (structure b.spells.0) same.1 ∙ sym (ap call_of b.spells.1.1.0)

one_tokens_call : (line : List ℕ) (one two : Command) → ReadsTokens line one → ReadsTokens line two → call_of one ≡ call_of two
one_tokens_call line one two a b =
    one_call (call_of one) (call_of two) (tokens_in b.pieces) (subst (λ ps. SpellsCall max_operators (call_of one) (tokens_in ps)) (cut_once 0 line a.pieces b.pieces a.cuts b.cuts) a.spells) b.spells

one_line_call : SpellsOnce → (line : List ℕ) (one two : Command) → ReadsStructure line one ⊎ ReadsTokens line one → ReadsStructure line two ⊎ ReadsTokens line two → call_of one ≡ call_of two
one_line_call once line one two (inl a) (inl b) = one_structure_call once line one two a b
one_line_call once line one two (inl a) (inr b) = absurd (true≢false (sym a.gives ∙ b.other))
one_line_call once line one two (inr a) (inl b) = absurd (true≢false (sym b.gives ∙ a.other))
one_line_call once line one two (inr a) (inr b) = one_tokens_call line one two a b

pub reads_once : SpellsOnce → (line : List ℕ) (one two : Command) → Reads line one → Reads line two → call_of one ≡ call_of two
reads_once once line one two a b = one_line_call once line one two a.reads b.reads
