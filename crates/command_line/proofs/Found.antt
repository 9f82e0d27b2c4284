-- What was found for a name, by its row.
use Rattle.std.proofs.Common.{◌≡◌, ◌∙◌, List, ℕ, true, false, Option, Some, None, refl, sym, ap}
use Rattle.std.specs.Borrow.{Bor}
use Rattle.std.specs.Option.{option_and_then, option_map}
use Rattle.std.specs.Prelude.{find, is_some}
use Rattle.std.specs.Str.{bytes_eq}
use Rattle.clap.proofs.WalkLemmas.{find_row, first_value-rows}
use Rattle.clap.specs.Facts.{Entry}
use Rattle.clap.specs.Matches.{first_value, matched_of}
use Rattle.clap.specs.Walk.{Row, first_of, row_of, rows_of}
use Rattle.clap.specs.declared.parser.matches.Found.{Found}
use Rattle.clap.specs.declared.parser.matches.MatchedArg.{MatchedArg}
use Rattle.clap.specs.declared.parser.matches.ValueSource.{ValueSource}
use Rattle.command_line.specs.Asking.{is_given, is_of_words}

-- whether a name is given, by the source of its entry
pub given_by_source : (found : Found) (name : List ℕ) (source : Option ValueSource) → source ≡ option_and_then (λ (m : MatchedArg). m.source) (matched_of found name)
    → is_given name (rows_of found) ≡ is_of_words source
given_by_source found name source is =
    sym (ap is_of_words (is ∙ go (find (λ e. bytes_eq e.0.now name) found.entries.items) ∙ ap (option_and_then (λ (row : Row). row.source)) (sym (find_row found.entries.items name))))
  where
    go : (entry : Option Entry) → option_and_then (λ (m : MatchedArg). m.source) (option_map (λ e. e.1) entry) ≡ option_and_then (λ (row : Row). row.source) (option_map row_of entry)
    go None = refl
    go (Some e) = refl

module _ (found : Found) (name : List ℕ) (text : Option (Bor (List ℕ))) (is : option_map (λ s. s.now) text ≡ first_value found name) where
  -- the text that was found, or none
  by_row : first_of name (rows_of found) ≡ option_map (λ s. s.now) text
  by_row = sym (is ∙ first_value-rows found name)

  pub none_found : text ≡ None → first_of name (rows_of found) ≡ None
  none_found none = by_row ∙ ap (option_map (λ s. s.now)) none

  pub text_found : (s : Bor (List ℕ)) → text ≡ Some s → first_of name (rows_of found) ≡ Some s.now
  text_found s some = by_row ∙ ap (option_map (λ s. s.now)) some

  pub some_found : is_some text ≡ true → is_some (first_of name (rows_of found)) ≡ true
  some_found some = ap is_some by_row ∙ (go text ∙ some)
    where
      go : (t : Option (Bor (List ℕ))) → is_some (option_map (λ s. s.now) t) ≡ is_some t
      go None = refl
      go (Some s) = refl

  -- whether one was found
  pub is_found : is_some (first_of name (rows_of found)) ≡ is_some text
  is_found = ap is_some by_row ∙ go text
    where
      go : (t : Option (Bor (List ℕ))) → is_some (option_map (λ s. s.now) t) ≡ is_some t
      go None = refl
      go (Some s) = refl

  pub not_found : is_some text ≡ false → first_of name (rows_of found) ≡ None
  not_found none = none_found (go text none)
    where
      go : (t : Option (Bor (List ℕ))) → is_some t ≡ false → t ≡ None
      go None none = refl
      go (Some s) none = cc
