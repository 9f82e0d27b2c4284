use Rattle.std.proofs.Common.{◌≡◌, ◌-◌, ◌++◌, ℕ, length, take, min, ap, ◌∙◌}
use Rattle.lines.proofs.Splitting.{take_held}
use Rattle.lines.proofs.feeding.keep.Goals as goal

pub returns-clause-held : goal.returns-clause-held
returns-clause-held c =
    let held = c.args.room.now.bytes in
    let bytes = c.args.bytes.now in
    let pushed : c.push_slice.new.self.bytes ≡ held ++ take c.min-count.result bytes = rw c.unwrap.ensures at c.push_slice.ensures.ok in
    let count : c.min-count.result ≡ min (length bytes) (1048577 - length held) = rw c.len.ensures at c.min-count.ensures in
    pushed ∙ (ap (λ (n : ℕ). held ++ take n bytes) count ∙ take_held held bytes 1048577 c.requires.short)
