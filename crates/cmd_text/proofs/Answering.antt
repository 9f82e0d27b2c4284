-- How a line is answered by what was read from its pieces.
use Rattle.std.proofs.Common.{◌≡◌, ◌⊎◌, inl, inr, ℕ, true, List, [], ◌∷◌, length, Option, Some, None, refl, sym, ap, subst, ◌∙◌, append-nil}
use Rattle.mk_value.specs.Tokens.{Token, text}
use Rattle.tokens.specs.Cutting.{CutsUpTo, Piece}
use Rattle.tokens.specs.Depths.{syntax, too_deep}
use Rattle.tokens.specs.Fronts.{tokens_in}
use Rattle.tokens.specs.Meanings.{piece_of, pieces_of, token_of}
use Rattle.tokens.specs.declared.token.Piece.{Piece as Lent}
use Rattle.expr_text.specs.Queries.{max_operators}
use Rattle.expr_text.specs.Readers.{Fails, Meets}
use Rattle.expr_text.specs.Walk.{Goal, Rest, offence_of, run}
use Rattle.expr_text.specs.declared.error.ExprError.{ExprError}
use Rattle.expr_text.specs.declared.error.ExprError.TheVariants as reading
use Rattle.expr_text.proofs.Depths.{whole_no_offence}
use Rattle.expr_text.proofs.Refusing.{nothing_left}
use Rattle.expr_text.proofs.Running.{rest_at}
use Rattle.cmd_text.specs.Arguments as arguments
use Rattle.cmd_text.specs.Arguments.{Argument, Last, with_arguments, with_last}
use Rattle.cmd_text.specs.Grammar.{Behind, Call, CommandTokens, DeepCommandTokens, SpellsArguments, SpellsCall, SpellsCommand, call, call_of, keyword, nothing, structure}
use Rattle.cmd_text.specs.Lines.{RefusesPieces}
use Rattle.cmd_text.specs.OneWord.{ReadsPieces}
use Rattle.cmd_text.specs.Readers.{IsCallOf, Spelled, SpelledLast, begun, failed_as, goals_of, line_run}
use Rattle.cmd_text.specs.Words.{form_of, is_known, word_of}
use Rattle.cmd_text.specs.declared.command.Command.{Command}
use Rattle.cmd_text.specs.declared.error.CmdError.{CmdError}
use Rattle.cmd_text.specs.declared.error.CmdError.TheVariants.{Memory, Syntax}
use Rattle.cmd_text.specs.declared.verb.Verb.{Verb}
use Rattle.cmd_text.proofs.Commands.{Says, line_says}
use Rattle.cmd_text.proofs.Verbs.{begins_verb, no_verb}
use Rattle.cmd_text.proofs.Words.{never_flawed, spells_cut}

-- what was read of the pieces, and what the walk says of them
abbrev pub Failed : List Piece → ℕ → ExprError → Type 0
Failed pieces size error = (error ≡ reading.Memory) ⊎ (line_run pieces size ≡ Some error)

said_so : (pieces : List Piece) (flaw : Option ℕ) (size : ℕ) (said : Option ExprError) → line_run pieces size ≡ said → Says pieces flaw size said
said_so pieces flaw size said e = subst (Says pieces flaw size) e (line_says pieces flaw size)

abbrev pub Refused : List ℕ → CmdError → Type 0
Refused line error = (error ≡ Memory) ⊎ RefusesPieces line error

pub failure_refused : (line : List ℕ) (pieces lent : List Piece) (flaw : Option ℕ) (error : ExprError) → CutsUpTo line pieces flaw → lent ≡ pieces → Failed lent (length line) error → Refused line (failed_as error flaw)
failure_refused line pieces lent flaw error cuts same failed = chosen flaw error cuts (subst (λ ps. Failed ps (length line) error) same failed)
  where
    chosen : (flaw : Option ℕ) (error : ExprError) → CutsUpTo line pieces flaw → Failed pieces (length line) error → Refused line (failed_as error flaw)
    chosen flaw reading.Memory cuts failed = inl refl
    chosen flaw (reading.TooDeep place) cuts (inl memory) = absurd (cc)
    chosen flaw (reading.TooDeep place) cuts (inr said) = inr (too_deep place, (pieces, flaw, cuts, said_so pieces flaw (length line) (Some (reading.TooDeep place)) said), refl)
    chosen None (reading.Syntax place) cuts (inl memory) = absurd (cc)
    chosen None (reading.Syntax place) cuts (inr said) = inr (syntax place, (pieces, None, cuts, said_so pieces None (length line) (Some (reading.Syntax place)) said), refl)
    chosen (Some flaw) (reading.Syntax place) cuts (inl memory) = absurd (cc)
    chosen (Some flaw) (reading.Syntax place) cuts (inr said) =
        inr (syntax flaw, (pieces, Some flaw, cuts, ((said_so pieces (Some flaw) (length line) (Some (reading.Syntax place)) said).0, refl)), refl)

pub flaw_refused : (line : List ℕ) (pieces lent : List Piece) (found : Option ℕ) (flaw : ℕ) → CutsUpTo line pieces found → lent ≡ pieces → found ≡ Some flaw → line_run lent (length line) ≡ None → Refused line (Syntax flaw)
flaw_refused line pieces lent found flaw cuts same some met =
    inr (syntax flaw, (pieces, Some flaw, subst (CutsUpTo line pieces) some cuts, ((said_so pieces (Some flaw) (length line) None (ap (λ ps. line_run ps (length line)) (sym same) ∙ met)).1, refl)), refl)

pub reads_lent : (line : List ℕ) (pieces lent : List Piece) (found : Option ℕ) (command : Command) → CutsUpTo line pieces found → lent ≡ pieces → found ≡ None → SpellsCommand (tokens_in lent) command → ReadsPieces line command
reads_lent line pieces lent found command cuts same none spells = (pieces, (subst (CutsUpTo line pieces) none cuts, subst (λ ps. SpellsCommand (tokens_in ps) command) same spells))

-- the arguments and nothing behind them spell the command
pub spelled_call : (verb : Verb) (c : Call) (old new : List Token) → is_known verb ≡ true → IsCallOf verb c → Spelled c old new → new ≡ [] → SpellsCall max_operators c (keyword (word_of verb) ∷ old)
spelled_call verb nothing old new known of spelled none = absurd of
spelled_call verb (structure letters schema) old new known of spelled none = absurd of
spelled_call verb (call other list last) old new known of spelled none =
    (ap is_known of.0 ∙ known, subst (λ v. Behind max_operators v list last) (sym of.0) of.1, (old, ap (λ v. keyword (word_of v) ∷ old) (sym of.0), behind last spelled))
  where
    behind : (last : Last) → SpelledLast list last old new → SpellsArguments list last old
    behind arguments.nothing e = inl (e ∙ ap (λ ts. with_arguments list ts) none)
    behind (arguments.values xs) e = inl (e ∙ ap (λ ts. with_arguments list (with_last (arguments.values xs) ts)) none)
    behind (arguments.criteria xs) e = inl (e ∙ ap (λ ts. with_arguments list (with_last (arguments.criteria xs) ts)) none)
    behind (arguments.note content) (inl e) = inl (e ∙ ap (λ ts. with_arguments list (text content ∷ ts)) none)
    behind (arguments.note content) (inr e) = inr (e.0, e.1 ∙ ap (λ ts. with_arguments list ts) none)

-- what the walk says where a word was read, and where none was
pub known_run : (p : Piece) (pieces : List Piece) (size : ℕ) (verb : Verb) → is_known verb ≡ true → p.token ≡ keyword (word_of verb) → line_run (p ∷ pieces) size ≡ run pieces size (goals_of max_operators (form_of verb))
known_run p pieces size verb known is =
    ap (λ found. begun found p.place (λ v. run pieces size (goals_of max_operators (form_of v)))) (begins_verb p.token verb (record { known = known; is = is }))

pub unknown_run : (p : Piece) (pieces : List Piece) (size : ℕ) → ((verb : Verb) → is_known verb ≡ true → p.token ≡ keyword (word_of verb) → ⊥) → line_run (p ∷ pieces) size ≡ Some (reading.Syntax p.place)
unknown_run p pieces size none =
    ap (λ found. begun found p.place (λ v. run pieces size (goals_of max_operators (form_of v)))) (no_verb p.token (λ verb b. none verb b.known b.is))

pub all_met : (goals : List Goal) (old new : Rest) → Meets goals old new → tokens_in new.pieces ≡ [] → run old.pieces old.end goals ≡ None
all_met goals old new meets none = ap (λ g. run old.pieces old.end g) (sym (append-nil goals)) ∙ meets.same [] ∙ nothing_left new.pieces new.end none

pub not_over : (goals : List Goal) (old new : Rest) (error : ExprError) → Meets goals old new → offence_of new [] ≡ Some error → run old.pieces old.end goals ≡ Some error
not_over goals old new error meets said = ap (λ g. run old.pieces old.end g) (sym (append-nil goals)) ∙ meets.same [] ∙ said

pub failed_so : (goals : List Goal) (old : Rest) (error : ExprError) → Fails goals old error → (error ≡ reading.Memory) ⊎ (run old.pieces old.end goals ≡ Some error)
failed_so goals old error (inl memory) = inl memory
failed_so goals old error (inr said) = inr (ap (λ g. run old.pieces old.end g) (sym (append-nil goals)) ∙ said [])

-- the same of pieces of the program
pub met_line : (all : List Lent) (first : Lent) (rest new : List Lent) (size other : ℕ) (verb : Verb) → all ≡ first ∷ rest → is_known verb ≡ true → token_of first.token ≡ keyword (word_of verb)
    → Meets (goals_of max_operators (form_of verb)) (rest_at size rest) (rest_at other new) → tokens_in (pieces_of new) ≡ [] → line_run (pieces_of all) size ≡ None
met_line all first rest new size other verb e known is meets none =
    ap (λ ps. line_run (pieces_of ps) size) e ∙ known_run (piece_of first) (pieces_of rest) size verb known is ∙ all_met (goals_of max_operators (form_of verb)) (rest_at size rest) (rest_at other new) meets none

pub failed_line : (all : List Lent) (first : Lent) (rest : List Lent) (size : ℕ) (verb : Verb) (error : ExprError) → all ≡ first ∷ rest → is_known verb ≡ true → token_of first.token ≡ keyword (word_of verb)
    → Fails (goals_of max_operators (form_of verb)) (rest_at size rest) error → Failed (pieces_of all) size error
failed_line all first rest size verb error e known is fails = chosen (failed_so (goals_of max_operators (form_of verb)) (rest_at size rest) error fails)
  where
    chosen : (error ≡ reading.Memory) ⊎ (run (pieces_of rest) size (goals_of max_operators (form_of verb)) ≡ Some error) → Failed (pieces_of all) size error
    chosen (inl memory) = inl memory
    chosen (inr said) = inr (ap (λ ps. line_run (pieces_of ps) size) e ∙ known_run (piece_of first) (pieces_of rest) size verb known is ∙ said)

pub over_line : (all : List Lent) (first : Lent) (rest new : List Lent) (size other : ℕ) (verb : Verb) (error : ExprError) → all ≡ first ∷ rest → is_known verb ≡ true → token_of first.token ≡ keyword (word_of verb)
    → Meets (goals_of max_operators (form_of verb)) (rest_at size rest) (rest_at other new) → offence_of (rest_at other new) [] ≡ Some error → Failed (pieces_of all) size error
over_line all first rest new size other verb error e known is meets said =
    inr (ap (λ ps. line_run (pieces_of ps) size) e ∙ known_run (piece_of first) (pieces_of rest) size verb known is ∙ not_over (goals_of max_operators (form_of verb)) (rest_at size rest) (rest_at other new) error meets said)

pub unknown_line : (all : List Lent) (first : Lent) (rest : List Lent) (size : ℕ) → all ≡ first ∷ rest → ((verb : Verb) → is_known verb ≡ true → token_of first.token ≡ keyword (word_of verb) → ⊥)
    → Failed (pieces_of all) size (reading.Syntax first.place)
unknown_line all first rest size e none = inr (ap (λ ps. line_run (pieces_of ps) size) e ∙ unknown_run (piece_of first) (pieces_of rest) size none)

pub spelled_pieces : (all : List Lent) (first : Lent) (rest new : List Lent) (verb : Verb) (command : Command) → all ≡ first ∷ rest → is_known verb ≡ true → token_of first.token ≡ keyword (word_of verb)
    → IsCallOf verb (call_of command) → Spelled (call_of command) (tokens_in (pieces_of rest)) (tokens_in (pieces_of new)) → tokens_in (pieces_of new) ≡ [] → SpellsCommand (tokens_in (pieces_of all)) command
spelled_pieces all first rest new verb command e known is of spelled none =
    subst (λ ts. SpellsCommand ts command) (ap (λ t. t ∷ tokens_in (pieces_of rest)) (sym is) ∙ ap (λ ps. tokens_in (pieces_of ps)) (sym e))
    (spelled_call verb (call_of command) (tokens_in (pieces_of rest)) (tokens_in (pieces_of new)) known of spelled none)

-- what spells a command has no offence
pub spells_not_over : (all : List Lent) (first : Lent) (rest new : List Lent) (size other : ℕ) (verb : Verb) (command : Command) (error : ExprError) → all ≡ first ∷ rest → is_known verb ≡ true → token_of first.token ≡ keyword (word_of verb)
    → Meets (goals_of max_operators (form_of verb)) (rest_at size rest) (rest_at other new) → offence_of (rest_at other new) [] ≡ Some error → SpellsCommand (tokens_in (pieces_of all)) command → ⊥
spells_not_over all first rest new size other verb command error e known is meets said spells = chosen error (said_so (pieces_of all) None size (Some error) run_so)
  where
    run_so : line_run (pieces_of all) size ≡ Some error
    run_so = ap (λ ps. line_run (pieces_of ps) size) e ∙ known_run (piece_of first) (pieces_of rest) size verb known is ∙ not_over (goals_of max_operators (form_of verb)) (rest_at size rest) (rest_at other new) error meets said

    chosen : (error : ExprError) → Says (pieces_of all) None size (Some error) → ⊥
    chosen (reading.Syntax place) says = whole_no_offence CommandTokens DeepCommandTokens (λ tokens whole. (max_operators, whole)) (pieces_of all) size (syntax place) (call_of command, spells) says
    chosen (reading.TooDeep place) says = whole_no_offence CommandTokens DeepCommandTokens (λ tokens whole. (max_operators, whole)) (pieces_of all) size (too_deep place) (call_of command, spells) says
    chosen reading.Memory says = says

pub spells_lent : (line : List ℕ) (command : Command) (pieces lent : List Piece) (flaw : Option ℕ) → CutsUpTo line pieces flaw → lent ≡ pieces → ReadsPieces line command → SpellsCommand (tokens_in lent) command
spells_lent line command pieces lent None cuts same reads = spells_cut line command pieces lent same cuts reads
spells_lent line command pieces lent (Some flaw) cuts same reads = absurd (never_flawed line command pieces flaw cuts reads)
