-- Lines that give a structure, and where their texts stand.
use Rattle.std.proofs.Common.{◌≡◌, ◌⊎◌, inl, inr, ℕ, ◌+◌, ◌-◌, ◌≤◌, true, false, cond, List, [], ◌∷◌, ◌++◌, suc, length, length-append, take, drop, take_while, codes, refl, sym, ap, subst, ◌∙◌, arith}
use Rattle.std.specs.List.{prefix_len}
use Rattle.std.specs.Str.{bytes_eq}
use Rattle.std.proofs.lemmas.Slice.Eq.{bytes_eq-Decides}
use Rattle.mk_value.specs.Names.{is_name_byte}
use Rattle.struct_text.specs.Offences.{Offends, IsFirstOffence, place_of}
use Rattle.struct_text.specs.Spelling.{Spells}
use Rattle.struct_text.specs.declared.error.StructError.{StructError}
use Rattle.struct_text.specs.declared.error.StructError.TheVariants as offences
use Rattle.tokens.specs.Cutting.{begins_with}
use Rattle.cmd_text.specs.Lines.{ReadsStructure, RefusesStructure, behind_run, error_of, first_run, gives_structure, is_space, without_leading, without_trailing}
use Rattle.cmd_text.specs.Structures.{IsBehindGetas}
use Rattle.cmd_text.specs.declared.command.Command.TheVariants.{Getas}
use Rattle.cmd_text.specs.declared.error.CmdError.{CmdError}
use Rattle.cmd_text.specs.declared.error.CmdError.TheVariants.{Memory, Syntax}
use Rattle.cmd_text.proofs.Spaces.{without_leading-no_longer, without_trailing-no_longer}

-- the run from a byte on
run_ended : (byte : ℕ) (bytes : List ℕ) → is_name_byte byte ≡ false → take_while is_name_byte (byte ∷ bytes) ≡ []
run_ended byte bytes ends = ap (λ t. take (cond t (1 + prefix_len is_name_byte bytes) 0) (byte ∷ bytes)) ends

run_more : (byte : ℕ) (bytes : List ℕ) → is_name_byte byte ≡ true → take_while is_name_byte (byte ∷ bytes) ≡ byte ∷ take_while is_name_byte bytes
run_more byte bytes more =
    let one : 1 + prefix_len is_name_byte bytes ≡ suc (prefix_len is_name_byte bytes) = omega arith in
    ap (λ t. take (cond t (1 + prefix_len is_name_byte bytes) 0) (byte ∷ bytes)) more ∙ ap (λ n. take n (byte ∷ bytes)) one

take_while-ended : (bytes : List ℕ) → begins_with is_name_byte bytes ≡ false → take_while is_name_byte bytes ≡ []
take_while-ended [] ends = refl
take_while-ended (byte ∷ bytes) ends = run_ended byte bytes ends

run_getas : (behind : List ℕ) → take_while is_name_byte (codes "getas" ++ behind) ≡ codes "getas" ++ take_while is_name_byte behind
run_getas behind =
    run_more 103 (101 ∷ 116 ∷ 97 ∷ 115 ∷ behind) refl
    ∙ ap (λ b. 103 ∷ b) (run_more 101 (116 ∷ 97 ∷ 115 ∷ behind) refl)
    ∙ ap (λ b. 103 ∷ 101 ∷ b) (run_more 116 (97 ∷ 115 ∷ behind) refl)
    ∙ ap (λ b. 103 ∷ 101 ∷ 116 ∷ b) (run_more 97 (115 ∷ behind) refl)
    ∙ ap (λ b. 103 ∷ 101 ∷ 116 ∷ 97 ∷ b) (run_more 115 behind refl)

run_is : (line behind : List ℕ) → IsBehindGetas line behind → first_run line ≡ codes "getas"
run_is line behind is =
    ap (take_while is_name_byte) is.begins ∙ run_getas behind ∙ ap (λ rest. codes "getas" ++ rest) (take_while-ended behind is.ends)

pub gives : (line behind : List ℕ) → IsBehindGetas line behind → gives_structure line ≡ true
gives line behind is = ap (λ run. bytes_eq run (codes "getas")) (run_is line behind is)

pub behind_is : (line behind : List ℕ) → IsBehindGetas line behind → behind_run line ≡ behind
behind_is line behind is =
    ap (λ run. drop (length run) (without_leading line)) (run_is line behind is) ∙ ap (drop 5) is.begins

-- a run, and what stands behind it
record SplitsRun (bytes run behind : List ℕ) : Type 0 where
  pub whole : bytes ≡ run ++ behind
  pub ends : begins_with is_name_byte behind ≡ false

splits_run : (bytes : List ℕ) → SplitsRun bytes (take_while is_name_byte bytes) (drop (length (take_while is_name_byte bytes)) bytes)
splits_run [] = record { whole = refl; ends = refl }
splits_run (byte ∷ bytes) =
    let Splits : List ℕ → Type 0 = λ run. SplitsRun (byte ∷ bytes) run (drop (length run) (byte ∷ bytes)) in
    elim (is_name_byte byte) as (λ t. is_name_byte byte ≡ t → SplitsRun (byte ∷ bytes) (take_while is_name_byte (byte ∷ bytes)) (drop (length (take_while is_name_byte (byte ∷ bytes))) (byte ∷ bytes))) [
      | true ↦ λ e. let rest = splits_run bytes in subst Splits (sym (run_more byte bytes e)) (record { whole = ap (λ b. byte ∷ b) rest.whole; ends = rest.ends })
      | false ↦ λ e. subst Splits (sym (run_ended byte bytes e)) (record { whole = refl; ends = e })
    ] refl

pub other_line : (line : List ℕ) → ((behind : List ℕ) → IsBehindGetas line behind → ⊥) → gives_structure line ≡ false
other_line line never =
    elim (gives_structure line) as (λ t. gives_structure line ≡ t → t ≡ false) [
      | true ↦ λ e. absurd (
          let same : first_run line ≡ codes "getas" = (bytes_eq-Decides (first_run line) (codes "getas")).0 e in
          let split = splits_run (without_leading line) in
          never (behind_run line) (record { begins = split.whole ∙ ap (λ run. run ++ behind_run line) same; ends = split.ends })
          )
      | false ↦ λ e. refl
    ] refl

-- the places of offences are within their texts
offence_within : (text : List ℕ) (offence : StructError) → Offends text offence → place_of offence ≤ length text
offence_within text (offences.Syntax p) (inl h) = omega (arith, h.within)
offence_within text (offences.Syntax p) (inr h) = omega (arith, h.at_end)
offence_within text (offences.Floating p) h = omega (arith, h.stands.within)
offence_within text (offences.Repeated p) h = omega (arith, h.stands.within)
offence_within text (offences.TooDeep p) h = omega (arith, h.stands.within)
offence_within text (offences.TooMany p) h = omega (arith, h.stands.within)
offence_within text (offences.TooLong p) h = omega (arith, h.stands.within)
offence_within text offences.Memory h = absurd h

-- what the reader of structures says of its error
abbrev pub Refused : List ℕ → StructError → Type 0
Refused text error = (error ≡ offences.Memory) ⊎ IsFirstOffence text error

refused_within : (text : List ℕ) (error : StructError) → Refused text error → place_of error ≤ length text
refused_within text error (inl memory) = rw memory (omega arith)
refused_within text error (inr first) = offence_within text error first.offends

pub place_within : (line behind : List ℕ) (error : StructError) → length behind ≤ length line → Refused (without_trailing (without_leading behind)) error
    → (length line - length (without_leading behind)) + place_of error ≤ length line
place_within line behind error short refused =
    let within = refused_within (without_trailing (without_leading behind)) error refused in
    omega (arith, without_leading-no_longer behind, without_trailing-no_longer (without_leading behind))

pub behind_no_longer : (line behind : List ℕ) → IsBehindGetas line behind → length behind ≤ length line
behind_no_longer line behind is =
    omega (arith, ap length is.begins, length-append (codes "getas") behind, without_leading-no_longer line)

-- the reading of a line that gives a structure
pub reads_structure : (line behind : List ℕ) (name : List ℕ) (schema : List _) → IsBehindGetas line behind → (behind ≡ []) ⊎ (begins_with is_space behind ≡ true)
    → Spells (without_trailing (without_leading behind)) name schema → ReadsStructure line (Getas name schema)
reads_structure line behind name schema is alone spells =
    let same = behind_is line behind is in
    record {
      gives = gives line behind is;
      alone = subst (λ b. (b ≡ []) ⊎ (begins_with is_space b ≡ true)) (sym same) alone;
      spells = (name, (schema, (refl, subst (λ b. Spells (without_trailing (without_leading b)) name schema) (sym same) spells)));
    }

pub refuses_word : (line behind : List ℕ) → IsBehindGetas line behind → ((behind ≡ []) ⊎ (begins_with is_space behind ≡ true) → ⊥)
    → RefusesStructure line (Syntax (length line - length (without_leading line)))
refuses_word line behind is together =
    (gives line behind is, inl (subst (λ b. (b ≡ []) ⊎ (begins_with is_space b ≡ true) → ⊥) (sym (behind_is line behind is)) together, refl))

pub refuses_structure : (line behind : List ℕ) (error : StructError) → IsBehindGetas line behind → (behind ≡ []) ⊎ (begins_with is_space behind ≡ true)
    → Refused (without_trailing (without_leading behind)) error
    → (error_of (length line - length (without_leading behind)) error ≡ Memory) ⊎ RefusesStructure line (error_of (length line - length (without_leading behind)) error)
refuses_structure line behind error is alone (inl memory) = inl (ap (error_of (length line - length (without_leading behind))) memory)
refuses_structure line behind error is alone (inr first) =
    let same = behind_is line behind is in
    inr (
      gives line behind is,
      inr (
        subst (λ b. (b ≡ []) ⊎ (begins_with is_space b ≡ true)) (sym same) alone,
        (
          error,
          (
            subst (λ b. IsFirstOffence (without_trailing (without_leading b)) error) (sym same) first,
            ap (λ b. error_of (length line - length (without_leading b)) error) (sym same),
          ),
        ),
      ),
    )

-- the same, of the texts as they were cut
pub refuses_text : (line behind front trimmed : List ℕ) (error : StructError) (told : CmdError) → IsBehindGetas line behind
    → (behind ≡ []) ⊎ (begins_with is_space behind ≡ true) → front ≡ without_leading behind → trimmed ≡ without_trailing front → Refused trimmed error
    → told ≡ error_of (length line - length front) error → (told ≡ Memory) ⊎ RefusesStructure line told
refuses_text line behind front trimmed error told is alone cut_front cut_end refused same =
    let whole : trimmed ≡ without_trailing (without_leading behind) = cut_end ∙ ap without_trailing cut_front in
    let place : told ≡ error_of (length line - length (without_leading behind)) error = same ∙ ap (λ f. error_of (length line - length f) error) cut_front in
    subst (λ e. (e ≡ Memory) ⊎ RefusesStructure line e) (sym place) (refuses_structure line behind error is alone (subst (λ b. Refused b error) whole refused))
