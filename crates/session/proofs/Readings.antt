-- Which lines ask for nothing or end the session, and what a line gives a command.
use Rattle.std.proofs.Common.{◌≡◌, ℕ, zero, suc, ◌+◌, ◌-◌, ◌<◌, ◌≤◌, Bool, true, false, cond, ◌&&◌, List, [], ◌∷◌, ◌++◌, length, reverse, get_or, All, refl, ap, sym, subst, ◌∙◌, arith, inl, inr, append-nil, eqb-true}
use Rattle.std.specs.Prelude.{codes, take_while}
use Rattle.std.specs.List.{list_all}
use Rattle.std.specs.Str.{is_utf8, bytes_eq}
use Rattle.std.proofs.lemmas.Bool.{false≢true}
use Rattle.std.proofs.lemmas.List.{length-drop, reverse-append, reverse-reverse}
use Rattle.std.proofs.lemmas.List.Folds.{list_all-append}
use Rattle.std.proofs.lemmas.List.Sums.{AllPass-from_list_all, list_all-from_AllPass}
use Rattle.std.proofs.lemmas.Slice.Eq.{bytes_eq-Decides}
use Rattle.std.proofs.lemmas.Str.{IsUtf8-from_ascii, IsUtf8-from_is_utf8, is_utf8-from_IsUtf8}
use Rattle.mk_value.specs.Conversions.{IsProper, IsProperRow, AreProper}
use Rattle.mk_value.specs.Data.{Datum, integer, long, text, bytes, relation, Tuple, no_values, value, Relation, no_tuples, tuple}
use Rattle.mk_value.specs.Heading.{Attribute}
use Rattle.mk_value.specs.LiteralValues.{literal_of}
use Rattle.mk_value.specs.Names.{IsName, is_name_byte}
use Rattle.mk_value.specs.Tokens.{Token, word, spelling as spelled}
use Rattle.tokens.specs.Cutting.{Piece, Cuts, begins_with, space}
use Rattle.tokens.specs.Fronts.{tokens_in}
use Rattle.tokens.specs.Literals.{IsLiteral, AreLiteralRows, IsLiteralRow, AreLiterals, max_braces}
use Rattle.eval.specs.Parts.{IsWhole}
use Rattle.expr_text.specs.Meanings.{query_of}
use Rattle.expr_text.specs.Queries.{IsQuery, Query, max_operators}
use Rattle.cmd_text.specs.Grammar.{Call, SpellsCall, SpellsCommand, call, call_of, keyword, nothing, structure}
use Rattle.cmd_text.specs.Words.{word_of}
use Rattle.tokens.proofs.Chains.{cut_once}
use Rattle.cmd_text.specs.Lines.{Reads, ReadsStructure, behind_run, first_run, gives_structure, is_space, structure_text, without_leading, without_trailing}
use Rattle.cmd_text.specs.declared.command.Command.{Command}
use Rattle.cmd_text.specs.declared.command.Command.TheVariants as commands
use Rattle.cmd_text.proofs.Spaces.{without_leading-no_longer, without_trailing-no_longer}
use Rattle.lines.specs.Lines.{max_line}
use Rattle.struct_text.specs.Spelling.{spelling}
use Rattle.struct_text.proofs.Moves.{run-yes}
use Rattle.session.specs.Lines.{IsOfLine, is_blank, is_quit}
use Rattle.session.proofs.Fitted.{both_true}
use Rattle.struct_text.proofs.Lengths.{spelling_some}

-- bytes that are all spaces
abbrev Blank : List ℕ → Type 0
Blank bs = list_all is_space bs ≡ true

blank_all : (bs : List ℕ) → Blank bs → All (λ b. b ≡ space) bs
blank_all bs h = λ k d p. eqb-true (get_or bs k d) space (AllPass-from_list_all is_space bs h k d p)

all_blank : (bs : List ℕ) → All (λ b. b ≡ space) bs → Blank bs
all_blank bs h = list_all-from_AllPass is_space bs (λ k d p. ap is_space (h k d p))

blank_reverse : (bs : List ℕ) → Blank bs → Blank (reverse bs)
blank_reverse [] h = refl
blank_reverse (b ∷ rest) h =
    let both = both_true (is_space b) (list_all is_space rest) h in
    ap (λ xs. list_all is_space xs) (reverse-append (b ∷ []) rest)
    ∙ list_all-append is_space (reverse rest) (b ∷ [])
    ∙ ap (λ t. t && (is_space b && true)) (blank_reverse rest both.1)
    ∙ ap (λ t. t && true) both.0

-- spaces at the front of bytes, and at their end, do not count
leading_gap : (gap rest : List ℕ) → Blank gap → without_leading (gap ++ rest) ≡ without_leading rest
leading_gap [] rest h = refl
leading_gap (b ∷ gap) rest h =
    let both = both_true (is_space b) (list_all is_space gap) h in
    ap (λ t. cond t (without_leading (gap ++ rest)) (b ∷ (gap ++ rest))) both.0 ∙ leading_gap gap rest both.1

trailing_gap : (bs gap : List ℕ) → Blank gap → without_trailing (bs ++ gap) ≡ without_trailing bs
trailing_gap bs gap h =
    ap (λ xs. reverse (without_leading xs)) (reverse-append bs gap) ∙ ap reverse (leading_gap (reverse gap) (reverse bs) (blank_reverse gap h))

-- bytes are what they are without the spaces in front, or behind, and those
record Front (bs : List ℕ) : Type 0 where
  gap : List ℕ
  blank : Blank gap
  whole : bs ≡ gap ++ without_leading bs

front : (bs : List ℕ) → Front bs
front [] = record { gap = []; blank = refl; whole = refl }
front (b ∷ rest) =
    elim (is_space b) as (λ t. is_space b ≡ t → Front (b ∷ rest)) [
      | true ↦ λ e. let more = front rest in record {
        gap = b ∷ more.gap;
        blank = ap (λ t. t && list_all is_space more.gap) e ∙ more.blank;
        whole = ap (λ r. b ∷ r) more.whole ∙ ap (λ t. b ∷ (more.gap ++ cond t (without_leading rest) (b ∷ rest))) (sym e);
      }
      | false ↦ λ e. record { gap = []; blank = refl; whole = ap (λ t. cond t (without_leading rest) (b ∷ rest)) (sym e) }
    ] refl

record Back (bs : List ℕ) : Type 0 where
  gap : List ℕ
  blank : Blank gap
  whole : bs ≡ without_trailing bs ++ gap

back : (bs : List ℕ) → Back bs
back bs =
    let f = front (reverse bs) in record {
      gap = reverse f.gap;
      blank = blank_reverse f.gap f.blank;
      whole = sym (reverse-reverse bs) ∙ ap reverse f.whole ∙ reverse-append f.gap (without_leading (reverse bs));
    }

abbrev quit : List ℕ
quit = codes "quit"

quit_name : IsName quit
quit_name = record { not_empty = omega arith; short = omega arith; characters = AllPass-from_list_all is_name_byte quit refl; begins = refl }

no_name_first : (gap : List ℕ) → Blank gap → begins_with is_name_byte gap ≡ false
no_name_first [] h = refl
no_name_first (b ∷ rest) h = ap is_name_byte (eqb-true b space (both_true (is_space b) (list_all is_space rest) h).0)

-- a line of spaces asks for nothing
blank_ascii : (bs : List ℕ) → Blank bs → (i : ℕ) → get_or bs i 0 < 128
blank_ascii [] h i = omega arith
blank_ascii (b ∷ rest) h zero = let e = eqb-true b space (both_true (is_space b) (list_all is_space rest) h).0 in omega (arith, e)
blank_ascii (b ∷ rest) h (suc i) = blank_ascii rest (both_true (is_space b) (list_all is_space rest) h).1 i

nothing_left : (line : List ℕ) → Blank line → without_leading line ≡ []
nothing_left line h = ap without_leading (sym (append-nil line)) ∙ leading_gap line [] h

pub blank_reads : (line : List ℕ) → is_blank line ≡ true → Reads line commands.Nothing
blank_reads line h = record {
  utf8 = IsUtf8-from_ascii line (blank_ascii line h);
  reads = inr (record {
    other = ap (λ w. bytes_eq (take_while is_name_byte w) (codes "getas")) (nothing_left line h);
    pieces = [];
    cuts = blank_all line h;
    spells = refl;
  });
}

no_pieces : (line : List ℕ) (pieces : List Piece) → Cuts line pieces → tokens_in pieces ≡ [] → Blank line
no_pieces line [] cuts e = all_blank line cuts
no_pieces line (p ∷ pieces) cuts e = absurd (let f : ◌≡◌ {A = List Token} (p.token ∷ tokens_in pieces) [] = e in cc)

no_structure : {X : Type 0} (line : List ℕ) (command : Command) → ReadsStructure line command → ((name : List ℕ) (schema : _) → command ≡ commands.Getas name schema → ⊥) → X
no_structure line command h other = absurd (other h.spells.0 h.spells.1.0 h.spells.1.1.0)

pub reads_blank : (line : List ℕ) → Reads line commands.Nothing → is_blank line ≡ true
reads_blank line h = elim h.reads [
  | inl s ↦ no_structure line commands.Nothing s (λ name schema e. let f : ◌≡◌ {A = Command} commands.Nothing (commands.Getas name schema) = e in cc)
  | inr t ↦ no_pieces line t.pieces t.cuts t.spells
]

no_first : (t : Token) (rest : List Token) → [] ≡ t ∷ rest → ⊥
no_first t rest e = cc

-- a call that is spelled by no tokens is that of no line
no_tokens : (c : Call) → SpellsCall max_operators c [] → c ≡ nothing
no_tokens nothing h = refl
no_tokens (structure letters schema) h = absurd h
no_tokens (call verb list last) h = absurd (no_first (keyword (word_of verb)) h.2.0 h.2.1)

only_nothing : (command : Command) → call_of command ≡ nothing → command ≡ commands.Nothing
only_nothing commands.Nothing e = refl
only_nothing (commands.Getas name schema) e = absurd (let f : ◌≡◌ {A = Call} (structure name schema) nothing = e in cc)
only_nothing command e = absurd (let f : call_of command ≡ nothing = e in cc)

spelled_nothing : (command : Command) → SpellsCommand [] command → command ≡ commands.Nothing
spelled_nothing command h = only_nothing command (no_tokens (call_of command) h)

-- a line of spaces asks for nothing else
pub blank_only : (line : List ℕ) (command : Command) → is_blank line ≡ true → Reads line command → command ≡ commands.Nothing
blank_only line command h reads = elim reads.reads [
  | inl s ↦ absurd (false≢true (sym (ap (λ w. bytes_eq (take_while is_name_byte w) (codes "getas")) (nothing_left line h)) ∙ s.gives))
  | inr t ↦ spelled_nothing command (subst (λ (ps : List Piece). SpellsCommand (tokens_in ps) command) (cut_once 0 line t.pieces [] t.cuts (blank_all line h)) t.spells)
]

-- a line whose one word is `quit` ends the session
quit_parts : (line : List ℕ) → is_quit line ≡ true → (is_utf8 line ≡ true) × (without_trailing (without_leading line) ≡ quit)
quit_parts line h =
    let both = both_true (is_utf8 line) (bytes_eq (without_trailing (without_leading line)) quit) h in
    (both.0, (bytes_eq-Decides (without_trailing (without_leading line)) quit).0 both.1)

pub quit_reads : (line : List ℕ) → is_quit line ≡ true → Reads line commands.Quit
quit_reads line h =
    let p = quit_parts line h in
    let f = front line in
    let b = back (without_leading line) in
    let inside : without_leading line ≡ quit ++ b.gap = b.whole ∙ ap (λ q. q ++ b.gap) p.1 in
    let piece : Piece = record { place = length f.gap; token = word quit } in record {
      utf8 = IsUtf8-from_is_utf8 line p.0;
      reads = inr (record {
        other = ap (λ w. bytes_eq (take_while is_name_byte w) (codes "getas")) inside
            ∙ ap (λ w. bytes_eq w (codes "getas")) (run-yes 113 (117 ∷ 105 ∷ 116 ∷ b.gap) refl);
        pieces = piece ∷ [];
        cuts = (
          b.gap,
          record {
            gap = f.gap;
            blank = blank_all f.gap f.blank;
            at = omega arith;
            begins = (quit ++ b.gap, f.whole ∙ ap (λ w. f.gap ++ w) inside, record { whole = quit_name; stands = refl; ends = (no_name_first b.gap b.blank, refl) });
          },
          blank_all b.gap b.blank,
        );
        spells = (refl, record { parts = refl; ending = refl; whole = tt; last = tt }, ([], refl, inl refl));
      });
    }

quit_pieces : (line : List ℕ) (pieces : List Piece) → Cuts line pieces → tokens_in pieces ≡ word quit ∷ [] → without_trailing (without_leading line) ≡ quit
quit_pieces line [] cuts e = absurd (let f : ◌≡◌ {A = List Token} [] (word quit ∷ []) = e in cc)
quit_pieces line (p ∷ q ∷ pieces) cuts e = absurd (let f : ◌≡◌ {A = List Token} (p.token ∷ q.token ∷ tokens_in pieces) (word quit ∷ []) = e in cc)
quit_pieces line (p ∷ []) (rest, leads, blank) e =
    let token : p.token ≡ word quit = let f : ◌≡◌ {A = List Token} (p.token ∷ []) (word quit ∷ []) = e in cc in
    let begins = leads.begins.2 in
    let inside : leads.begins.0 ≡ quit ++ rest = begins.stands ∙ ap (λ t. spelled t ++ rest) token in
    ap without_trailing (
    ap without_leading (leads.begins.1 ∙ ap (λ w. leads.gap ++ w) inside) ∙ leading_gap leads.gap (quit ++ rest) (all_blank leads.gap leads.blank))
    ∙ trailing_gap quit rest (all_blank rest blank)

quit_tokens : (tokens : List Token) → SpellsCommand tokens commands.Quit → tokens ≡ word quit ∷ []
quit_tokens tokens (known, behind, (rest, is, inl none)) = is ∙ ap (λ behind_word. word quit ∷ behind_word) none
quit_tokens tokens (known, behind, (rest, is, inr left_out)) = absurd left_out.0

pub reads_quit : (line : List ℕ) → Reads line commands.Quit → is_quit line ≡ true
reads_quit line h =
    ap (λ t. t && bytes_eq (without_trailing (without_leading line)) quit) (is_utf8-from_IsUtf8 line h.utf8)
    ∙ (bytes_eq-Decides (without_trailing (without_leading line)) quit).1 (elim h.reads [
      | inl s ↦ no_structure line commands.Quit s (λ name schema e. let f : ◌≡◌ {A = Command} commands.Quit (commands.Getas name schema) = e in cc)
      | inr t ↦ quit_pieces line t.pieces t.cuts (quit_tokens (tokens_in t.pieces) t.spells)
    ])

-- what is so tells against what is not
pub not_so : (b : Bool) → b ≡ false → b ≡ true → ⊥
not_so b e f = false≢true (sym e ∙ f)

-- literals of a line are proper values
mutual
  literal_proper : (n : ℕ) (d : Datum) → IsLiteral n d → IsProper d
  literal_proper n (integer z) h = absurd h
  literal_proper n (long z) h = h
  literal_proper n (text content) h = h
  literal_proper n (bytes content) h = tt
  literal_proper n (relation rows) h = rows_proper (n - 1) rows h.1

  rows_proper : (n : ℕ) (r : Relation) → AreLiteralRows n r → AreProper r
  rows_proper n no_tuples h = tt
  rows_proper n (tuple row rest) h = (row_proper n row h.0, rows_proper n rest h.1)

  row_proper : (n : ℕ) (t : Tuple) → IsLiteralRow n t → IsProperRow t
  row_proper n no_values h = absurd h
  row_proper n (value d rest) h = (literal_proper n d h.0, values_proper n rest h.1)

  values_proper : (n : ℕ) (t : Tuple) → AreLiterals n t → IsProperRow t
  values_proper n no_values h = tt
  values_proper n (value d rest) h = (literal_proper n d h.0, values_proper n rest h.1)

all_proper : (literals : List Datum) → All (λ d. IsLiteral max_braces d) literals → All IsProper literals
all_proper literals h = λ k d p. literal_proper max_braces (get_or literals k d) (h k d p)

whole_at : (deep : ℕ) (q : Query) → IsQuery q deep → IsWhole q
whole_at deep q h = (deep, h)

of_tokens : (tokens : List Token) (command : Command) → SpellsCommand tokens command → IsOfLine command
of_tokens tokens (commands.Getas name schema) h = absurd h
of_tokens tokens (commands.Add route literals) h = all_proper literals h.1.last
of_tokens tokens (commands.Insert route place copies literals) h = all_proper literals h.1.last
of_tokens tokens (commands.Set route row prop literal) h = literal_proper max_braces (literal_of literal) h.1.whole.1.1.1.0
of_tokens tokens (commands.Size e) h = whole_at max_operators (query_of e) h.1.whole.0
of_tokens tokens (commands.Show e) h = whole_at max_operators (query_of e) h.1.whole.0
of_tokens tokens (commands.Find e start criteria) h = whole_at max_operators (query_of e) h.1.whole.0
of_tokens tokens (commands.Search e criteria) h = whole_at max_operators (query_of e) h.1.whole.0
of_tokens tokens (commands.Locate e criteria) h = whole_at max_operators (query_of e) h.1.whole.0
of_tokens tokens (commands.Dup name e) h = whole_at max_operators (query_of e) h.1.whole.1.0
of_tokens tokens (commands.Watch name e) h = h.1.whole.1.0
of_tokens tokens command h = tt

-- a structure text is shorter than its line by the word before it
structure_short : (line name : List ℕ) (schema : List Attribute) → gives_structure line ≡ true → structure_text line ≡ spelling name schema → length line ≤ max_line → length (spelling name schema) + 5 ≤ max_line
structure_short line name schema gives is short =
    let word : length (first_run line) ≡ 5 = ap length ((bytes_eq-Decides (first_run line) (codes "getas")).0 gives) in
    let behind = length-drop (length (first_run line)) (without_leading line) in
    let inner = without_leading-no_longer (behind_run line) in
    let outer = without_trailing-no_longer (without_leading (behind_run line)) in
    let before = without_leading-no_longer line in
    let same = ap length is in
    let some = spelling_some name schema in
    omega (arith, word, behind, inner, outer, before, same, some, short)

pub of_line : (line : List ℕ) (command : Command) → Reads line command → length line ≤ max_line → IsOfLine command
of_line line command h short = elim h.reads [
  | inl s ↦ subst IsOfLine (sym s.spells.1.1.0) (structure_short line s.spells.0 s.spells.1.0 s.gives s.spells.1.1.1.is short)
  | inr t ↦ of_tokens (tokens_in t.pieces) command t.spells
]
