use Rattle.std.proofs.Common.{◌≡◌, ℕ, List, [], ◌∷◌, ◌++◌, ◌∙◌, ap, sym, append_assoc, append-nil, codes, decimal}
use Rattle.lines.specs.Lines.{newline}
use Rattle.shell.specs.Said.{spaced}
use Rattle.shell.proofs.own_lines.write_other_base.Goals as goal

-- a number behind a space, and the numbers and what else follows it
one_spaced : (one : ℕ) (rest line : List ℕ) → spaced (one ∷ []) ++ (spaced rest ++ line) ≡ spaced (one ∷ rest) ++ line
one_spaced one rest line =
    ap (λ (l : List ℕ). codes " " ++ (l ++ (spaced rest ++ line))) (append-nil (decimal one))
    ∙ ap (λ (l : List ℕ). codes " " ++ l) (sym (append_assoc (decimal one) (spaced rest) line))

four_spaced : (one two three four : ℕ) (line : List ℕ)
    → spaced (one ∷ []) ++ (spaced (two ∷ []) ++ (spaced (three ∷ []) ++ (spaced (four ∷ []) ++ line))) ≡ spaced (one ∷ two ∷ three ∷ four ∷ []) ++ line
four_spaced one two three four line =
    ap (λ (l : List ℕ). spaced (one ∷ []) ++ (spaced (two ∷ []) ++ l)) (one_spaced three (four ∷ []) line)
    ∙ ap (λ (l : List ℕ). spaced (one ∷ []) ++ l) (one_spaced two (three ∷ four ∷ []) line)
    ∙ one_spaced one (two ∷ three ∷ four ∷ []) line

pub returns : goal.returns
returns c =
    let kept = c.args.kept in
    let given = c.args.given in
    let words = c.args.out.now.bytes ++ codes "refused otherbase" in
    let one = spaced (kept.length ∷ []) in
    let two = spaced (kept.number ∷ []) in
    let three = spaced (given.length ∷ []) in
    let four = spaced (given.number ∷ []) in
    let line = newline ∷ [] in
    record {
      bytes = c.append-2.ensures.bytes
          ∙ ap (λ b. b ++ line) (c.append_spaced-4.ensures.bytes ∙ ap (λ b. b ++ four) (c.append_spaced-3.ensures.bytes ∙ ap (λ b. b ++ three) (c.append_spaced-2.ensures.bytes ∙ ap (λ b. b ++ two) (c.append_spaced.ensures.bytes ∙ ap (λ b. b ++ one) c.append.ensures.bytes))))
          ∙ append_assoc (((words ++ one) ++ two) ++ three) four line ∙ append_assoc ((words ++ one) ++ two) three (four ++ line) ∙ append_assoc (words ++ one) two (three ++ (four ++ line))
          ∙ append_assoc words one (two ++ (three ++ (four ++ line))) ∙ append_assoc c.args.out.now.bytes (codes "refused otherbase") (one ++ (two ++ (three ++ (four ++ line))))
          ∙ ap (λ (l : List ℕ). c.args.out.now.bytes ++ (codes "refused otherbase" ++ l)) (four_spaced kept.length kept.number given.length given.number line);
    }
