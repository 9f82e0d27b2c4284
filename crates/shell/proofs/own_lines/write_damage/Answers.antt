use Rattle.std.proofs.Common.{[], ◌∷◌, ◌++◌, ◌∙◌, ap, append_assoc, codes, decimal}
use Rattle.lines.specs.Lines.{newline}
use Rattle.shell.proofs.own_lines.write_damage.Goals as goal

pub returns : goal.returns
returns c =
    let out = c.args.out.now.bytes in
    let words = codes "refused damaged " in
    let place = decimal c.args.place in
    let end = newline ∷ [] in
    record {
      bytes = c.append-2.ensures.bytes ∙ ap (λ b. b ++ end) (c.append_number.ensures.bytes ∙ ap (λ b. b ++ place) c.append.ensures.bytes)
          ∙ append_assoc (out ++ words) place end ∙ append_assoc out words (place ++ end);
    }
