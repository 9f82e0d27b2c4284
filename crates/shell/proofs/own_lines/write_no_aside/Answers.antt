use Rattle.std.proofs.Common.{◌∷◌, ◌++◌, [], ◌∙◌, ap, append_assoc, codes, decimal}
use Rattle.lines.specs.Lines.{newline}
use Rattle.shell.proofs.own_lines.write_no_aside.Goals as goal

pub returns : goal.returns
returns c =
    let out = c.args.out.now.bytes in
    let words = codes "refused aside " in
    let place = decimal c.args.place in
    let line = newline ∷ [] in
    record {
      bytes = c.append-2.ensures.bytes ∙ ap (λ b. b ++ line) (c.append_number.ensures.bytes ∙ ap (λ b. b ++ place) c.append.ensures.bytes)
          ∙ append_assoc (out ++ words) place line ∙ append_assoc out words (place ++ line);
    }
