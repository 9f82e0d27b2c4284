use Rattle.std.proofs.Common.{ap, rules, arith, List, ℕ, ◌∙◌, ◌+◌, ◌-◌, drop, length-drop}
use Rattle.std.proofs.lemmas.List.{take_all}
use Rattle.byteorder.specs.Endian.{little_number}
use Rattle.aside_disk.proofs.Heads.{two_numbers}
use Rattle.aside_disk.proofs.walking.read_head.Goals as goal

pub returns-clause-bytes : goal.returns-clause-bytes
returns-clause-bytes c =
    let bytes = c.args.piece.now.bytes in
    let k = c.args.at - c.args.piece.now.place in
    two_numbers bytes k _ _ (search rules) (search rules)
    (c.read_u64.ensures ∙ ap (λ (l : List ℕ). little_number 8 l) (take_all _ (drop k bytes) (let d = length-drop k bytes in omega (arith, d))))
    (c.read_u64-2.ensures ∙ ap (λ (l : List ℕ). little_number 8 l) (take_all _ (drop (k + 8) bytes) (let d = length-drop (k + 8) bytes in omega (arith, d))))
