-- What the one command makes of a word by itself that begins with no hyphen.
use Rattle.std.proofs.Common.{◌≡◌, ◌≢◌, ◌∙◌, ℕ, List, [], ◌∷◌, Some, None, false, refl, sym, ap, ap₂, arith}
use Rattle.std.proofs.lemmas.Bool.{false≢true, ne_eqb}
use Rattle.std.specs.Prelude.{is_some}
use Rattle.std.specs.Str.{bytes_eq}
use Rattle.clap.specs.Faults.{check_fault, defaults_fault, entered_fault, fault_of, settle_fault, step_fault, turn_fault, walk_fault, word_fault}
use Rattle.clap.specs.Kinds.{Kinds, or_else}
use Rattle.clap.specs.Lexer.{long_of, short_of}
use Rattle.clap.specs.Simple.{Shape, built, entered, matches_of}
use Rattle.clap.specs.Walk.{Held, Rule, Step, Walk, after_step, arg_by_index, finished, idle, nothing_held, settled, to_positional, value, walk_from, walked, word_met}
use Rattle.command_line.specs.Asking.{Asks, IsServed, name_of}
use Rattle.command_line.specs.Command.{the_command}
use Rattle.command_line.specs.Words.{AsksFor}
use Rattle.command_line.specs.declared.job.Job.{Job}

module _ (first : ℕ) (rest : List ℕ) (plain : first ≢ 45) where
  no_dashes : bytes_eq (first ∷ rest) (45 ∷ 45 ∷ []) ≡ false
  no_dashes = rw (ne_eqb first 45 plain) refl

  no_long : long_of (first ∷ rest) ≡ None
  no_long = rw (ne_eqb first 45 plain) refl

  no_short : short_of (first ∷ rest) ≡ None
  no_short = rw (ne_eqb first 45 plain) refl

  -- it is a value, and no fault by itself
  met : (rules : List Rule) (held : Held) → word_met rules [] false idle 1 (first ∷ rest) held ≡ (held, value)
  met rules held = rw (no_dashes, no_long, no_short) refl

  no_word_fault : (command : Shape) (held : Held) → word_fault command [] false idle (first ∷ rest) held ≡ []
  no_word_fault command held = rw (no_dashes, no_long, no_short) refl

  no_turn_fault : (command : Shape) → turn_fault command [] (walk_from nothing_held) (first ∷ rest) ≡ step_fault command 1 nothing_held value
  no_turn_fault command =
      ap₂ (λ (fault : Kinds) (m : Held × Step). or_else fault (step_fault command 1 m.0 m.1)) (no_word_fault command nothing_held) (met command.rules nothing_held)

  -- so the walk over it gives it to the file
  abbrev walk_to_file : List Rule → Walk
  walk_to_file rules = to_positional rules (arg_by_index rules 1) (first ∷ rest) (walk_from nothing_held) nothing_held

  walks_to_file : (rules : List Rule) → walked rules [] (walk_from nothing_held) (first ∷ rest) ≡ walk_to_file rules
  unfolding walked
  walks_to_file rules = ap (λ (m : Held × Step). after_step rules (first ∷ rest) (walk_from nothing_held) m.0 m.1) (met rules nothing_held)

  lone_rows : (program : List ℕ) → matches_of the_command (program ∷ (first ∷ rest) ∷ []) ≡ finished (built the_command).top.rules (walk_to_file (built the_command).top.rules).held
  unfolding the_command
  lone_rows program = ap (λ (end : Walk). finished (built the_command).top.rules end.held) (walks_to_file (built the_command).top.rules)

  -- how the one command fails at a word, by how the walk over it fails and where that ends
  abbrev fault_by : Kinds → Walk → Kinds
  fault_by turn end =
      let command = built the_command in
      let rules = command.top.rules in
      let rows = finished rules end.held in
      or_else (or_else turn []) (or_else (entered_fault command end.stopped) (or_else (settle_fault rules command.top.args_override_self end.held)
      (or_else (defaults_fault (settled rules end.held).rows rules) (check_fault command.top rows (is_some (entered command end.stopped))))))

  lone_right : (program : List ℕ) → fault_of the_command (program ∷ (first ∷ rest) ∷ []) ≡ []
  unfolding the_command walk_fault defaults_fault
  lone_right program =
      let command = (built the_command).top in
      let by_parts : fault_of the_command (program ∷ (first ∷ rest) ∷ [])
      ≡ fault_by (turn_fault command [] (walk_from nothing_held) (first ∷ rest)) (walked command.rules [] (walk_from nothing_held) (first ∷ rest)) = refl in
      by_parts ∙ ap₂ fault_by (no_turn_fault command) (walks_to_file command.rules)

  lone_asks : (program : List ℕ) (job : Job) → IsServed (first ∷ rest) job → Asks (matches_of the_command (program ∷ (first ∷ rest) ∷ [])) job
  unfolding the_command
  lone_asks program job served = rw (lone_rows program) (record {
    file = record {
      given = ap Some (sym served.file);
      named = λ empty.
          let bad : first ∷ rest ≡ [] = sym served.file ∙ empty in
          cc;
    };
    cap = record { means = served.cap; least = omega (arith, served.cap); most = omega (arith, served.cap) };
    options = record {
      used = record {
        alone = λ given. absurd (false≢true given);
        new = λ given. absurd (false≢true given);
        apart = λ given. absurd (false≢true given);
        used = served.mode;
      };
      done = ap Some (sym served.task);
    };
    aside = record { named = ap name_of served.alone; alone = λ given. absurd (false≢true given) };
  })

  pub lone_asks_for : (program : List ℕ) (job : Job) → IsServed (first ∷ rest) job → AsksFor (program ∷ (first ∷ rest) ∷ []) job
  lone_asks_for program job served = record { right = lone_right program; asks = lone_asks program job served }
