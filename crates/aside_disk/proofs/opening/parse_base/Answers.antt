use Rattle.std.proofs.Common.{◌≡◌, Bool, false, IsTrue, ap, ◌∙◌, arith, rules, List, ℕ, drop, length-drop}
use Rattle.std.proofs.lemmas.List.{take_all}
use Rattle.byteorder.specs.Endian.{little_number}
use Rattle.aside_disk.proofs.Heads.{same_base}
use Rattle.aside_disk.proofs.opening.parse_base.Goals as goal

-- no test fails and passes
not_both : {b : Bool} → b ≡ false → IsTrue b → ⊥
not_both fails passes = cc

pub returns-else-is_base : goal.returns-else-is_base
returns-else-is_base c = λ kept is.
    let bytes = c.args.bytes.now in
    let l = c.requires in
    let same = same_base bytes kept c.read_u64.result c.read_u64-2.result (search rules) is
    (c.read_u64.ensures ∙ ap (λ (x : List ℕ). little_number 8 x) (take_all _ (drop 8 bytes) (let d = length-drop 8 bytes in omega (arith, d, l))))
    (c.read_u64-2.ensures ∙ ap (λ (x : List ℕ). little_number 8 x) (take_all _ (drop 16 bytes) (let d = length-drop 16 bytes in omega (arith, d, l)))) in
    not_both c.if-is_base.false (c.is_base.ensures.1 same)
