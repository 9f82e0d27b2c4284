use Rattle.std.proofs.Common.{ap, ◌∙◌, ◌∷◌, ◌++◌, List, ℕ, replicate}
use Rattle.commit_marks.specs.Marks.{body_bytes, header, open_byte}
use Rattle.aside_disk.specs.Opening.{first_mark}
use Rattle.aside_disk.proofs.opening.new_bytes.Goals as goal

pub returns : goal.returns
returns c =
    c.fill_new.ensures
    ∙ ap (λ (l : List ℕ). header ++ (l ++ (replicate 64 0 ++ c.base_bytes.result))) c.slot_bytes.ensures
    ∙ ap (λ (l : List ℕ). header ++ ((open_byte ∷ body_bytes first_mark) ++ (replicate 64 0 ++ l))) c.base_bytes.ensures
