-- Spaces cut off the front of bytes, or off their end.
use Rattle.std.proofs.Common.{◌≡◌, ℕ, ◌-◌, ◌≤◌, true, false, cond, List, [], ◌∷◌, ◌++◌, length, take, drop, reverse, Option, Some, None, IfSome, sym, refl, ap, ◌∙◌, arith, take-append-drop, eqb-true}
use Rattle.std.specs.Str.Pattern.{FindsCharPrefix, FindsCharSuffix, CutsPrefixes, CutsSuffixes, IsTrimStartMatches, IsTrimEndMatches}
use Rattle.std.proofs.lemmas.Str.{encode_ascii}
use Rattle.std.proofs.lemmas.Str.Pattern.{drop_at_char}
use Rattle.std.proofs.lemmas.List.{reverse-append, reverse-reverse, length-reverse, drop_all}
use Rattle.cmd_text.specs.Lines.{is_space, without_leading, without_trailing}
use Rattle.tokens.specs.Cutting.{space}

pub without_leading-no_longer : (bytes : List ℕ) → length (without_leading bytes) ≤ length bytes
without_leading-no_longer [] = omega arith
without_leading-no_longer (byte ∷ bytes) =
    elim (is_space byte) as (λ t. length (cond t (without_leading bytes) (byte ∷ bytes)) ≤ length (byte ∷ bytes))
    [ true ↦ omega (arith, without_leading-no_longer bytes) | false ↦ omega arith ]

pub without_trailing-no_longer : (bytes : List ℕ) → length (without_trailing bytes) ≤ length bytes
without_trailing-no_longer bytes =
    omega (arith, length-reverse (without_leading (reverse bytes)), without_leading-no_longer (reverse bytes), length-reverse bytes)

-- bytes that begin with no space are as they were
begins_elsewhere : (bytes : List ℕ) → ((rest : List ℕ) → bytes ≡ space ∷ rest → ⊥) → without_leading bytes ≡ bytes
begins_elsewhere [] never = refl
begins_elsewhere (byte ∷ bytes) never =
    elim (is_space byte) as (λ t. is_space byte ≡ t → cond t (without_leading bytes) (byte ∷ bytes) ≡ byte ∷ bytes)
    [ true ↦ λ e. absurd (never bytes (ap (λ b. b ∷ bytes) (eqb-true byte space e))) | false ↦ λ e. refl ] refl

cut_one : (bytes : List ℕ) (n : ℕ) → FindsCharPrefix 32 bytes (Some n) → without_leading bytes ≡ without_leading (drop n bytes)
cut_one bytes n found = ap without_leading (drop_at_char 32 bytes 0 n found (omega arith))

cut_all : (bytes : List ℕ) (lengths : List ℕ) (rest : List ℕ) → CutsPrefixes (FindsCharPrefix 32) bytes lengths rest → without_leading bytes ≡ without_leading rest
cut_all bytes [] rest cuts = ap without_leading (sym cuts)
cut_all bytes (n ∷ lengths) rest cuts =
    cut_all bytes lengths cuts.0 cuts.1 ∙ cut_one cuts.0 n cuts.2 ∙ ap without_leading (sym cuts.3)

stops : (bytes : List ℕ) (found : Option ℕ) → FindsCharPrefix 32 bytes found → IfSome found (λ n. n ≡ 0) → without_leading bytes ≡ bytes
stops bytes None none _ = begins_elsewhere bytes (λ rest e. none rest (e ∙ ap (λ front. front ++ rest) (sym (encode_ascii 32 (omega arith)))))
stops bytes (Some n) found empty = absurd (omega (arith, found.ends, empty))

-- what `trim_start_matches(' ')` gives
pub trimmed_start : (bytes rest : List ℕ) → IsTrimStartMatches (FindsCharPrefix 32) bytes rest → rest ≡ without_leading bytes
trimmed_start bytes rest (cuts, stop) =
    sym (cut_all bytes cuts.0 rest cuts.1 ∙ stops rest stop.0 stop.1 stop.2)

cut_last : (bytes : List ℕ) (n : ℕ) → FindsCharSuffix 32 bytes (Some n) → without_leading (reverse bytes) ≡ without_leading (reverse (take (length bytes - n) bytes))
cut_last bytes n found =
    let front = take (length bytes - n) bytes in
    let last = drop_at_char 32 bytes (length bytes - n) (length bytes) found.1 (omega arith) in
    let end : drop (length bytes - n) bytes ≡ space ∷ [] = last ∙ ap (λ rest. space ∷ rest) (drop_all (length bytes) bytes (omega arith)) in
    let whole : bytes ≡ front ++ space ∷ [] = sym (take-append-drop (length bytes - n) bytes) ∙ ap (λ rest. front ++ rest) end in
    ap (λ b. without_leading (reverse b)) whole ∙ ap without_leading (reverse-append front (space ∷ []))

cut_all_last : (bytes : List ℕ) (lengths : List ℕ) (rest : List ℕ) → CutsSuffixes (FindsCharSuffix 32) bytes lengths rest → without_leading (reverse bytes) ≡ without_leading (reverse rest)
cut_all_last bytes [] rest cuts = ap (λ b. without_leading (reverse b)) (sym cuts)
cut_all_last bytes (n ∷ lengths) rest cuts =
    cut_all_last bytes lengths cuts.0 cuts.1 ∙ cut_last cuts.0 n cuts.2 ∙ ap (λ b. without_leading (reverse b)) (sym cuts.3)

stops_last : (bytes : List ℕ) (found : Option ℕ) → FindsCharSuffix 32 bytes found → IfSome found (λ n. n ≡ 0) → without_leading (reverse bytes) ≡ reverse bytes
stops_last bytes None none _ =
    begins_elsewhere (reverse bytes) (λ rest e. none (reverse rest) (
    sym (reverse-reverse bytes) ∙ ap reverse e ∙ reverse-append (space ∷ []) rest
    ∙ ap (λ last. reverse rest ++ last) (sym (encode_ascii 32 (omega arith)))))
stops_last bytes (Some n) found empty = absurd (omega (arith, found.0, empty))

-- what `trim_end_matches(' ')` gives
pub trimmed_end : (bytes rest : List ℕ) → IsTrimEndMatches (FindsCharSuffix 32) bytes rest → rest ≡ without_trailing bytes
trimmed_end bytes rest (cuts, stop) =
    sym (ap reverse (cut_all_last bytes cuts.0 rest cuts.1 ∙ stops_last rest stop.0 stop.1 stop.2) ∙ reverse-reverse rest)
