-- A line has one first offence at most, and none if it reads as a command.
use Rattle.std.proofs.Common.{◌≡◌, ◌⊎◌, inl, inr, ℕ, false, List, length, None, subst, sym, ap, ◌∙◌, true≢false}
use Rattle.std.specs.Str.{IsUtf8, is_utf8}
use Rattle.std.proofs.lemmas.Str.{is_utf8-from_IsUtf8}
use Rattle.mk_value.specs.Heading.{Attribute}
use Rattle.struct_text.specs.Offences.{Offends as OffendsText}
use Rattle.struct_text.specs.Offences.{IsFirstOffence as IsStructureOffence}
use Rattle.struct_text.specs.Spelling.{Spells}
use Rattle.struct_text.specs.declared.error.StructError.{StructError}
use Rattle.tokens.specs.Depths.{IsFirstOffence, Offence, Offends}
use Rattle.tokens.proofs.Chains.{cut_up_to_once}
use Rattle.expr_text.specs.Queries.{max_operators}
use Rattle.expr_text.proofs.Depths.{offends_once, whole_no_offence}
use Rattle.cmd_text.specs.Grammar.{CommandTokens, DeepCommandTokens, call_of}
use Rattle.cmd_text.specs.Lines.{IsRefusedAs, Reads, ReadsStructure, ReadsTokens, RefusesStructure, RefusesTokens, error_of, refused_as, structure_place, structure_text}
use Rattle.cmd_text.specs.declared.command.Command.{Command}
use Rattle.cmd_text.specs.declared.error.CmdError.{CmdError}

-- what is known of structure texts
pub record ReadsOnce : Type 0 where
  pub one_offence : (text : List ℕ) (one two : StructError) → IsStructureOffence text one → IsStructureOffence text two → one ≡ two
  pub clean : (text name : List ℕ) (properties : List Attribute) → Spells text name properties → (offence : StructError) → OffendsText text offence → ⊥

no_utf8 : (line : List ℕ) → is_utf8 line ≡ false → IsUtf8 line → ⊥
no_utf8 line other utf8 = true≢false (sym (is_utf8-from_IsUtf8 line utf8) ∙ other)

one_text_error : ReadsOnce → (line : List ℕ) (one two : CmdError) → RefusesStructure line one → RefusesStructure line two → one ≡ two
one_text_error known line one two (_, inl (_, a)) (_, inl (_, b)) = a ∙ sym b
one_text_error known line one two (_, inl (together, a)) (_, inr (alone, b)) = absurd (together alone)
one_text_error known line one two (_, inr (alone, a)) (_, inl (together, b)) = absurd (together alone)
one_text_error known line one two (_, inr (_, a)) (_, inr (_, b)) =
    a.1.1 ∙ ap (error_of (structure_place line)) (known.one_offence (structure_text line) a.0 b.0 a.1.0 b.1.0) ∙ sym b.1.1

-- the tokens of a line have one offence at most, and none where they spell a command
offence_once : (line : List ℕ) (one two : Offence) → IsFirstOffence CommandTokens DeepCommandTokens line one → IsFirstOffence CommandTokens DeepCommandTokens line two → one ≡ two
offence_once line one two p q =
    let same = cut_up_to_once line p.0 q.0 p.1 q.1 p.2 q.2 in
    offends_once CommandTokens DeepCommandTokens p.0 p.1 (length line) one two p.3
    (subst (λ ps. Offends CommandTokens DeepCommandTokens ps p.1 (length line) two) (sym same.0) (subst (λ f. Offends CommandTokens DeepCommandTokens q.0 f (length line) two) (sym same.1) q.3))

read_no_offence : (line : List ℕ) (command : Command) → ReadsTokens line command → (offence : Offence) → IsFirstOffence CommandTokens DeepCommandTokens line offence → ⊥
read_no_offence line command reads offence o =
    let same = cut_up_to_once line reads.pieces o.0 None o.1 reads.cuts o.2 in
    whole_no_offence CommandTokens DeepCommandTokens (λ tokens whole. (max_operators, whole)) reads.pieces (length line) offence (call_of command, reads.spells)
    (subst (λ ps. Offends CommandTokens DeepCommandTokens ps None (length line) offence) (sym same.0) (subst (λ f. Offends CommandTokens DeepCommandTokens o.0 f (length line) offence) (sym same.1) o.3))

one_line_error : ReadsOnce → (line : List ℕ) (one two : CmdError) → RefusesStructure line one ⊎ RefusesTokens line one → RefusesStructure line two ⊎ RefusesTokens line two → one ≡ two
one_line_error texts line one two (inl a) (inl b) = one_text_error texts line one two a b
one_line_error texts line one two (inl a) (inr b) = absurd (true≢false (sym a.0 ∙ b.0))
one_line_error texts line one two (inr a) (inl b) = absurd (true≢false (sym b.0 ∙ a.0))
one_line_error texts line one two (inr (_, a)) (inr (_, b)) = a.2 ∙ ap refused_as (offence_once line a.0 b.0 a.1 b.1) ∙ sym b.2

pub one_error : ReadsOnce → (line : List ℕ) (one two : CmdError) → IsRefusedAs line one → IsRefusedAs line two → one ≡ two
one_error texts line one two (inl (_, a)) (inl (_, b)) = a ∙ sym b
one_error texts line one two (inl (other, a)) (inr (utf8, b)) = absurd (no_utf8 line other utf8)
one_error texts line one two (inr (utf8, a)) (inl (other, b)) = absurd (no_utf8 line other utf8)
one_error texts line one two (inr (_, a)) (inr (_, b)) = one_line_error texts line one two a b

text_or_error : ReadsOnce → (line : List ℕ) (command : Command) (error : CmdError) → ReadsStructure line command → RefusesStructure line error → ⊥
text_or_error texts line command error reads (_, inl (together, _)) = together reads.alone
text_or_error texts line command error reads (_, inr (_, a)) =
    texts.clean (structure_text line) reads.spells.0 reads.spells.1.0 reads.spells.1.1.1 a.0 a.1.0.offends

read_or_error : ReadsOnce → (line : List ℕ) (command : Command) (error : CmdError) → ReadsStructure line command ⊎ ReadsTokens line command
    → RefusesStructure line error ⊎ RefusesTokens line error → ⊥
read_or_error texts line command error (inl reads) (inl a) = text_or_error texts line command error reads a
read_or_error texts line command error (inl reads) (inr a) = true≢false (sym reads.gives ∙ a.0)
read_or_error texts line command error (inr reads) (inl a) = true≢false (sym a.0 ∙ reads.other)
read_or_error texts line command error (inr reads) (inr a) = read_no_offence line command reads a.1.0 a.1.1

pub not_both : ReadsOnce → (line : List ℕ) (command : Command) (error : CmdError) → Reads line command → IsRefusedAs line error → ⊥
not_both texts line command error reads (inl (other, _)) = no_utf8 line other reads.utf8
not_both texts line command error reads (inr (_, a)) = read_or_error texts line command error reads.reads a
