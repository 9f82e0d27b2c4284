use Rattle.std.proofs.Common.{List, ℕ, ◌++◌, ap, ◌∙◌, length}
use Rattle.std.proofs.lemmas.Result.{on_ok_weaker}
use Rattle.byteorder.specs.Endian.{little_bytes}
use Rattle.dir_codec.proofs.Written.{both}
use Rattle.dir_codec.proofs.writing.write_note.Goals as goal

pub returns : goal.returns
returns c =
    let old = c.args.out.now.bytes in
    let mid = c.write_4.new.out.bytes in
    let number = little_bytes 8 c.args.note.now.number in
    let text = c.args.note.now.text.bytes in
    let len = little_bytes 4 (length text) in
    on_ok_weaker c.push_slice.result
    (λ is. both old mid c.push_slice.new.self.bytes (number ++ len) text
    (both old c.write_8.new.out.bytes mid number len c.in_ok-write_8.ensures (c.in_ok-write_4.ensures ∙ ap (λ (n : ℕ). c.write_8.new.out.bytes ++ little_bytes 4 n) c.len.ensures.value))
    (is ∙ ap (λ (l : List ℕ). mid ++ l) (c.as_bytes.ensures.value ∙ c.as_str.ensures.value))) c.push_slice.ensures.ok
