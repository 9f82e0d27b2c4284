-- What `clap` says of the one command, whatever the words.
use Rattle.std.proofs.Common.{◌≡◌, ◌∙◌, List, ℕ, [], Result, Ok, Err, ap, refl, subst, sym, true, inl, inr}
use Rattle.std.specs.Result.{IfOk, IsErr}
use Rattle.clap.specs.Faults.{fault_of, is_simple_and_free}
use Rattle.clap.specs.Kinds.{HasKind, IsAmong}
use Rattle.clap.specs.Matches.{found_of}
use Rattle.clap.specs.Simple.{App, HasMatchesOf, is_simple, matches_of}
use Rattle.clap.specs.Values.{kind_of}
use Rattle.clap.specs.Walk.{rows_of}
use Rattle.clap.specs.declared.error.Error.{Error}
use Rattle.clap.specs.declared.parser.matches.ArgMatches.{ArgMatches}
use Rattle.command_line.specs.Causes.{cause_of}
use Rattle.command_line.specs.Command.{the_command}
use Rattle.command_line.specs.declared.error.WordsError.{WordsError}
use Rattle.command_line.specs.declared.error.WordsError.TheVariants.{Usage, Memory}

is_simple_command : is_simple the_command ≡ true
unfolding the_command
is_simple_command = refl

is_free_command : is_simple_and_free the_command ≡ true
unfolding the_command
is_free_command = refl

module _ (command : App) (is : command ≡ the_command) (words : List (List ℕ)) where
  -- where matches are given the words are no fault
  pub right : (is_simple_and_free command ≡ true → fault_of command words ≡ []) → fault_of the_command words ≡ []
  right gives = subst (λ (c : App). fault_of c words ≡ []) is (gives (ap is_simple_and_free is ∙ is_free_command))

  -- and the matches are those of the words
  pub found : (m : ArgMatches) → HasMatchesOf command words m → rows_of (found_of m) ≡ matches_of the_command words
  found m gives = (gives (ap is_simple is ∙ is_simple_command)).0 ∙ ap (λ (c : App). matches_of c words) is

  -- where an error is answered with usage the words are a fault
  pub wrong : {T : Type 0} (error : Error) (cause : WordsError) (answer : Result T WordsError)
      → (is_simple_and_free command ≡ true → HasKind (fault_of command words) error)
      → answer ≡ Err cause → cause ≡ cause_of (kind_of error) → answer ≡ Err Usage → fault_of the_command words ≡ [] → ⊥
  wrong {T} error cause answer gives is_cause by usage none = elim (gives (ap is_simple_and_free is ∙ is_free_command)) [
    | inl memory ↦
        let other : ◌≡◌ {A = Result T WordsError} (Err Memory) (Err Usage) = ap Err (sym (by ∙ ap cause_of memory)) ∙ sym is_cause ∙ usage in
        cc
    | inr among ↦ subst (IsAmong (kind_of error)) (ap (λ (c : App). fault_of c words) is ∙ none) among
  ]

-- an answer that no value fits is an error
pub no_ok : {T E : Type 0} (P : T → Type 0) (answer : Result T E) → IfOk answer P → ((value : T) → P value → ⊥) → IsErr answer
no_ok P (Ok value) fits none = absurd (none value fits)
no_ok P (Err error) fits none = refl
