use Rattle.std.proofs.Common.{◌≡◌, ℕ, List, [], ◌∷◌, ◌++◌, ◌∙◌, ap, sym, append_assoc, append-nil, codes, decimal}
use Rattle.lines.specs.Lines.{newline}
use Rattle.shell.specs.Said.{spaced}
use Rattle.shell.proofs.own_lines.write_full.Goals as goal

-- two numbers, each behind a space, and what follows them
two_spaced : (one two : ℕ) (line : List ℕ) → spaced (one ∷ []) ++ (spaced (two ∷ []) ++ line) ≡ spaced (one ∷ two ∷ []) ++ line
two_spaced one two line =
    ap (λ (l : List ℕ). codes " " ++ (l ++ (spaced (two ∷ []) ++ line))) (append-nil (decimal one))
    ∙ ap (λ (l : List ℕ). codes " " ++ l) (sym (append_assoc (decimal one) (spaced (two ∷ [])) line))

pub returns : goal.returns
returns c =
    let out = c.args.out.now.bytes in
    let words = codes "refused full" in
    let end = spaced (c.args.end ∷ []) in
    let cap = spaced (c.args.cap ∷ []) in
    let line = newline ∷ [] in
    record {
      bytes = c.append-2.ensures.bytes ∙ ap (λ b. b ++ line) (c.append_spaced-2.ensures.bytes ∙ ap (λ b. b ++ cap) (c.append_spaced.ensures.bytes ∙ ap (λ b. b ++ end) c.append.ensures.bytes))
          ∙ append_assoc ((out ++ words) ++ end) cap line ∙ append_assoc (out ++ words) end (cap ++ line) ∙ append_assoc out words (end ++ (cap ++ line))
          ∙ ap (λ (l : List ℕ). out ++ (words ++ l)) (two_spaced c.args.end c.args.cap line);
    }
